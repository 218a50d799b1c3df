-- One token of an expression, as the parser's step has it.
use Rattle.std.proofs.Common.{◌≡◌, ℕ, suc, ◌+◌, ◌<◌, List, [], None, Some, Option, length, set, sym, refl, ◌∙◌, subst, inl, ⊎_elim, arith}
use mathlib.Core.Option as option
use Rattle.std.proofs.str.Laws.{order}
use Rattle.base.specs.declared.Op.{Op}
use Rattle.base.specs.declared.Op.TheVariants.{Or}
use Rattle.lexer.specs.declared.Mark.{Mark}
use Rattle.lexer.specs.declared.Mark.TheVariants.{Not as not_word, Open as open_mark, Close as close_mark, Semicolon as semicolon, Comma as comma, Then as then_word}
use Rattle.lexer.specs.declared.Token.{Token}
use Rattle.lexer.specs.declared.Token.TheVariants.{Number as number, Name as name, Operator as operator, Mark as mark}
use Rattle.syntax.specs.Ast.{Expr, lit, var, assign}
use Rattle.syntax.specs.Grammar.{strength}
use Rattle.syntax.specs.Parser.{Block, push, assign_to, condition_in, delay_in, then_in, Pending, whole, right_of, bracket, operand, operated, statement, length_next, inverts, climb, finish, prefix, step}
use Rattle.syntax.specs.Parser as parser
use Rattle.syntax.specs.Tree.{Holds, HoldsStmt}
use Rattle.syntax.specs.Frames.{frame, Nots, Rows, Outers, Blocked, Topped, Stacked, Same, Operands, Climbs, Inverts, Awaits, Here, pushed, Adds, added}
use Rattle.syntax.specs.Reading.{Next, Read, Prefixes, Finishes}
use Rattle.syntax.specs.declared.frame.Frame.{Frame}
use Rattle.syntax.specs.declared.frame.Frame.TheVariants.{Bracket, RightOf, Not, Done, ThenIn, ElseIn, RepeatIn, AssignTo, ConditionIn, DelayIn}
use Rattle.syntax.specs.declared.node.Node.TheVariants.{Literal, Variable, Assign}
use Rattle.syntax.specs.declared.state.Parser.{Parser}
use Rattle.syntax.specs.declared.state.State.{State}
use Rattle.syntax.specs.declared.state.State.TheVariants.{Statement, LengthNext, Operand, Operated}
use Rattle.syntax.proofs.Levels.{strength_4}
use Rattle.syntax.proofs.Steps.{finish_climb, climb_stops}
use Rattle.syntax.proofs.Cells.{expr_kept, blocked_same, stacked_same, frames_same, untouched, frame_new, frames_below}
use Rattle.syntax.proofs.Climbs.{top_goal, top_whole, top_bracket}
use Rattle.syntax.proofs.Expects.{reach, refuse, from, only_same, only_other}

-- an operand is added, and the nots before it are done
leaf : (e : Expr) (p p₁ p' : Parser) → p₁ ≡ added p₁.nodes p → Same p.used p.nodes p₁.nodes → Holds p₁.nodes p.used e → Inverts p₁ p' → (k : ℕ) (w : Pending) → Awaits k w p → Operands w (inverts k e) p'
leaf e p p₁ p' z same h i k w a =
    let m = p₁.nodes in
    let on : Inverts (added m p) p' = subst (λ (q : Parser). Inverts q p') z i in
    on k w e (record { base = a.base; count = a.count; nots = a.nots; frames = stacked_same w p.used (p.used + 1) p.nodes m p.frames a.base same (omega arith) a.frames }) (omega arith, h)

module _ (p p₁ p' : Parser) (v : ℕ) where
  pub number_read : Adds (Literal v) p p₁ → Inverts p₁ p' → Read (number v) p Operand p' (Some Operated)
  unfolding step Holds
  number_read a i q l =
      from (number v) p' (Some Operated) l.2 (l.1, inverts l.0 (lit v), refl, leaf (lit v) p p₁ p' a.is (λ j q. a.wrote.others j (inl q)) (a.wrote.first, a.wrote.second) i l.0 l.1 l.3)

  pub name_read : Adds (Variable v) p p₁ → Inverts p₁ p' → Read (name v) p Operand p' (Some Operated)
  unfolding step Holds
  name_read a i q l =
      from (name v) p' (Some Operated) l.2 (l.1, inverts l.0 (var v), refl, leaf (var v) p p₁ p' a.is (λ j q. a.wrote.others j (inl q)) (a.wrote.first, a.wrote.second) i l.0 l.1 l.3)

pub no_operator : (o : Op) (p : Parser) → Read (operator o) p Operand p None
unfolding step
no_operator o p q l = from (operator o) p None l.2 refl

pub prefix_read : (x : Mark) (p p' : Parser) (r : Option State) → Prefixes x p p' r → Read (mark x) p Operand p' r
unfolding step
prefix_read x p p' r f q l = from (mark x) p' r l.2 (f l.0 l.1 l.3)

-- a not more
one_not_more : (s : List Frame) (c d : ℕ) → d < length s → Nots s c d → Nots (set s d Not) c (d + 1)
one_not_more s c d h a j lo hi =
    ⊎_elim
    (λ below. frames_below s d Not j below ∙ a j lo below)
    (λ at. let here : d ≡ j = omega arith in subst (λ (i : ℕ). frame (set s d Not) i ≡ Not) here (frame_new s d Not h))
    (order j d)

-- a mark before an operand
module _ (p : Parser) where
  pub a_not_mark : p.depth < length p.frames → Prefixes not_word p (pushed Not p) (Some Operand)
  unfolding prefix
  a_not_mark h k w a =
      let c = a.count in (
        suc k,
        w,
        refl,
        record {
          base = a.base;
          count = omega arith;
          nots = one_not_more p.frames a.base p.depth h a.nots;
          frames = frames_same w p.nodes p.used p.frames (set p.frames p.depth Not) a.base (λ j h. frames_below p.frames p.depth Not j (omega arith)) a.frames;
        },
      )

  pub an_open_mark : p.depth < length p.frames → Prefixes open_mark p (pushed Bracket p) (Some Operand)
  unfolding prefix Stacked
  an_open_mark h k w a =
      let c = a.count in
      let s' = set p.frames p.depth Bracket in (
        0,
        bracket k w,
        refl,
        record {
          base = p.depth + 1;
          count = omega arith;
          nots = λ j lo hi. absurd (omega arith);
          frames = (
            a.base,
            omega arith,
            subst (λ (i : ℕ). frame s' i ≡ Bracket) c (frame_new p.frames p.depth Bracket h),
            λ j lo hi. frames_below p.frames p.depth Bracket j (omega arith) ∙ a.nots j lo (omega arith),
            frames_same w p.nodes p.used p.frames s' a.base (λ j h. frames_below p.frames p.depth Bracket j (omega arith)) a.frames,
          );
        },
      )

  pub no_prefix : (x : Mark) → (x ≡ not_word → ⊥) → (x ≡ open_mark → ⊥) → Prefixes x p p None
  unfolding prefix
  no_prefix not_word a b k w l = absurd (a refl)
  no_prefix open_mark a b k w l = absurd (b refl)
  no_prefix x a b k w l = refl

-- after an operand
pub no_leaf : (t : Token) (p : Parser) → ((o : Op) → t ≡ operator o → ⊥) → ((x : Mark) → t ≡ mark x → ⊥) → Read t p Operated p None
unfolding step
no_leaf (number n) p a b q l = from (number n) p None l.2 refl
no_leaf (name i) p a b q l = from (name i) p None l.2 refl
no_leaf (operator o) p a b q l = absurd (a o refl)
no_leaf (mark x) p a b q l = absurd (b x refl)

pub an_operator : (o : Op) (l : ℕ) (p p' : Parser) → l ≡ strength o → Climbs l p p' → p'.depth < length p'.frames → Read (operator o) p Operated (pushed (RightOf o p'.last) p') (Some Operand)
unfolding step Stacked
an_operator o l p p' y c h q k =
    let x = p'.last in
    let d = p'.depth in
    let f : Pending × Expr = climb (strength o) k.0 k.1 in
    let g : Operands f.0 f.1 p' = subst (λ (i : ℕ). Operands (climb i k.0 k.1).0 (climb i k.0 k.1).1 p') y (c k.0 k.1 k.3) in
    from (operator o) (pushed (RightOf o x) p') (Some Operand) k.2 (
      0,
      right_of o f.1 f.0,
      refl,
      record {
        base = d + 1;
        count = omega arith;
        nots = λ j lo hi. absurd (omega arith);
        frames = (d, x, omega arith, frame_new p'.frames d (RightOf o x) h, g.tree, frames_same f.0 p'.nodes p'.used p'.frames (set p'.frames d (RightOf o x)) d (frames_below p'.frames d (RightOf o x)) g.frames);
      },
    )

-- a mark sees all joined
pub joined : (x : Mark) (l : ℕ) (p p₁ p' : Parser) (r : Option State) → l ≡ strength Or → Climbs l p p₁ → Finishes x p₁ p' r → Read (mark x) p Operated p' r
unfolding step strength
joined x l p p₁ p' r y c f q k =
    let all : Climbs 4 p p₁ = subst (λ (i : ℕ). Climbs i p p₁) y c in
    from (mark x) p' r k.2 (subst (λ (o : option.Option parser.State). Next o p' r) (sym (finish_climb 4 k.0 k.1 x)) (f (climb 4 k.0 k.1).0 (climb 4 k.0 k.1).1 (climb_stops 4 k.0 k.1) (all k.0 k.1 k.3)))

pub none_waits : (x : Mark) (p : Parser) → p.depth ≡ 0 → Finishes x p p None
unfolding Stacked
none_waits x p z (whole (assign_to i b)) e a o = absurd (omega (arith, o.frames.size))
none_waits x p z (whole (condition_in b)) e a o = absurd (omega (arith, o.frames.size))
none_waits x p z (whole (delay_in i j b)) e a o = absurd (omega (arith, o.frames.size))
none_waits x p z (bracket k w) e a o = absurd (omega (arith, o.frames.1))
none_waits x p z (right_of u y w) e a o = absurd (omega (arith, strength_4 u))

-- a mark ends no expression above the frame
abbrev pub Unfinished : Frame → Mark → Type 0
Unfinished Bracket x = x ≡ close_mark → ⊥
Unfinished (RightOf o y) x = Unit {0}
Unfinished Not x = Unit {0}
Unfinished (Done y) x = Unit {0}
Unfinished (ThenIn y) x = Unit {0}
Unfinished (ElseIn y z) x = Unit {0}
Unfinished (RepeatIn n) x = Unit {0}
Unfinished (AssignTo i) x = x ≡ semicolon → ⊥
Unfinished ConditionIn x = x ≡ then_word → ⊥
Unfinished (DelayIn i j) x = x ≡ comma → ⊥

pub ended_by_none : (f : Frame) (x : Mark) → (f ≡ Bracket → ⊥) → ((i : ℕ) → f ≡ AssignTo i → ⊥) → (f ≡ ConditionIn → ⊥) → ((i j : ℕ) → f ≡ DelayIn i j → ⊥) → Unfinished f x
ended_by_none Bracket x a b c d = absurd (a refl)
ended_by_none (AssignTo i) x a b c d = absurd (b i refl)
ended_by_none ConditionIn x a b c d = absurd (c refl)
ended_by_none (DelayIn i j) x a b c d = absurd (d i j refl)
ended_by_none f x a b c d = tt

module _ (p : Parser) (c : ℕ) (z : p.depth ≡ c + 1) where
  -- the block below what an expression is for
  block_at : {f : Frame} {b : Block} → Topped f b p.nodes p.frames p.used p.depth → Blocked b p.nodes p.frames p.used c
  block_at {b = b} g = let here : g.below ≡ c = omega (arith, g.size) in subst (λ (i : ℕ). Blocked b p.nodes p.frames p.used i) here g.block

  -- the frame below calls for another mark, or for none
  pub never_finished : (x : Mark) → Unfinished (frame p.frames c) x → Finishes x p p None
  unfolding finish Stacked
  never_finished x h (whole (assign_to i b)) e a o = refuse p _ (only_other semicolon x _ (subst (λ (f : Frame). Unfinished f x) (top_goal c o.frames z) h))
  never_finished x h (whole (condition_in b)) e a o = refuse p _ (only_other then_word x _ (subst (λ (f : Frame). Unfinished f x) (top_goal c o.frames z) h))
  never_finished x h (whole (delay_in i j b)) e a o = refuse p _ (only_other comma x _ (subst (λ (f : Frame). Unfinished f x) (top_goal c o.frames z) h))
  never_finished x h (bracket k w) e a o = refuse p _ (only_other close_mark x _ (subst (λ (f : Frame). Unfinished f x) (top_bracket k w p.nodes p.frames p.used p.depth c o.frames z) h))
  never_finished x h (right_of u y w) e a o = absurd (omega (arith, strength_4 u))

  -- a bracket is closed
  pub closes_bracket : (p' : Parser) → frame p.frames c ≡ Bracket → Inverts (record p { depth = c }) p' → Finishes close_mark p p' (Some Operated)
  unfolding finish Stacked
  closes_bracket p' k i (whole g) e a o = absurd ((top_whole g p.nodes p.frames p.used p.depth c o.frames z).0 k)
  closes_bracket p' k i (bracket j q) e a o =
      let w = o.frames in
      let here : c ≡ w.0 + j = omega (arith, w.1) in
      reach p' Operated _ (operated q (inverts j e)) (only_same close_mark _)
      (q, inverts j e, refl, i j q e (record { base = w.0; count = here; nots = λ y lo hi. w.3 y lo (omega arith); frames = w.4 }) o.tree)
  closes_bracket p' k i (right_of u y w) e a o = absurd (omega (arith, strength_4 u))

  -- an assignment is whole
  pub assigns : (i : ℕ) (p₁ : Parser) → frame p.frames c ≡ AssignTo i → Adds (Assign i p.last) p p₁ → c < length p.frames → Finishes semicolon p (record p₁ { frames = set p₁.frames c (Done p₁.last) }) (Some Statement)
  unfolding finish Stacked Rows HoldsStmt
  assigns i p₁ k x h (whole (assign_to j b)) e a o =
      let both : AssignTo i ≡ AssignTo j = sym k ∙ top_goal c o.frames z in
      let at : i ≡ j = cc in
      let n = p.used in
      let m = p₁.nodes in
      let s = set p.frames c (Done n) in
      let w = x.wrote in
      let same : Same n p.nodes m = λ j q. w.others j (inl q) in
      let l = blocked_same p.nodes m p.frames s n (n + 1) same (omega arith) b c (frames_below p.frames c (Done n)) (block_at o.frames) in
      let right = expr_kept e n n p.last p.nodes m same (omega arith) o.tree in
      let tree : HoldsStmt m n (assign j e) = (w.first, w.second ∙ at, rw w.third right.0, rw w.third right.1) in
      let here : Here (record (added m p) { frames = s }) (push (assign j e) b) = record { base = l.base; rows = (c, n, omega arith, frame_new p.frames c (Done n) h, (omega arith, tree), l.rows); outer = l.outer } in
      reach _ Statement _ (statement (push (assign j e) b)) (only_same semicolon _) (push (assign j e) b, refl, subst (λ (q : Parser). Here (record q { frames = set q.frames c (Done q.last) }) (push (assign j e) b)) (sym x.is) here)
  assigns i p₁ k x h (whole (condition_in b)) e a o = let f = top_goal c o.frames z in cc
  assigns i p₁ k x h (whole (delay_in j l b)) e a o = let f = top_goal c o.frames z in cc
  assigns i p₁ k x h (bracket j w) e a o = let f = top_bracket j w p.nodes p.frames p.used p.depth c o.frames z in cc
  assigns i p₁ k x h (right_of v f w) e a o = absurd (omega (arith, strength_4 v))

  -- a condition is whole
  pub branches : frame p.frames c ≡ ConditionIn → c < length p.frames → Finishes then_word p (record p { frames = set p.frames c (ThenIn p.last) }) (Some Statement)
  unfolding finish Stacked Rows Outers
  branches k h (whole (condition_in b)) e a o =
      let f = ThenIn p.last in
      let n = p.used in
      let l = blocked_same p.nodes p.nodes p.frames (set p.frames c f) n n (untouched n p.nodes) (omega arith) b c (frames_below p.frames c f) (block_at o.frames) in
      reach _ Statement _ (statement ([], then_in e b.0 b.1)) (only_same then_word _)
      (([], then_in e b.0 b.1), refl, record { base = p.depth; rows = refl; outer = (c, l.base, p.last, omega arith, frame_new p.frames c f h, l.rows, l.outer, o.tree) })
  branches k h (whole (assign_to i b)) e a o = let x = top_goal c o.frames z in cc
  branches k h (whole (delay_in i j b)) e a o = let x = top_goal c o.frames z in cc
  branches k h (bracket j w) e a o = let x = top_bracket j w p.nodes p.frames p.used p.depth c o.frames z in cc
  branches k h (right_of v f w) e a o = absurd (omega (arith, strength_4 v))

  -- a delay's condition is whole
  pub delays : (i j : ℕ) → frame p.frames c ≡ DelayIn i j → Finishes comma p (record p { depth = c }) (Some (LengthNext i j))
  unfolding finish Stacked
  delays i j k (whole (delay_in i' j' b)) e a o =
      let both : DelayIn i j ≡ DelayIn i' j' = sym k ∙ top_goal c o.frames z in
      let one : i' ≡ i = cc in
      let two : j' ≡ j = cc in
      reach _ (LengthNext i j) _ (length_next i' j' e b) (only_same comma _) (b, e, (λ h. length_next (one h) (two h) e b), block_at o.frames, o.tree)
  delays i j k (whole (assign_to l b)) e a o = let x = top_goal c o.frames z in cc
  delays i j k (whole (condition_in b)) e a o = let x = top_goal c o.frames z in cc
  delays i j k (bracket l w) e a o = let x = top_bracket l w p.nodes p.frames p.used p.depth c o.frames z in cc
  delays i j k (right_of v f w) e a o = absurd (omega (arith, strength_4 v))
