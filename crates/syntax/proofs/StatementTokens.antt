-- One token of a statement, outside of expressions, as the parser's step has it.
use Rattle.std.proofs.Common.{◌≡◌, ℕ, ◌+◌, ◌*◌, ◌<◌, [], None, Some, Option, length, set, sym, refl, ap, ◌∙◌, subst, inl, arith}
use mathlib.Core.Option as option
use Rattle.lexer.specs.declared.Mark.{Mark}
use Rattle.lexer.specs.declared.Mark.TheVariants.{Assign as assign_mark, Semicolon as semicolon, Comma as comma, If as if_word, Else as else_word, Repeat as repeat_word, Times as times_word, Delay as delay_word, End as end_word}
use Rattle.lexer.specs.declared.Token.{Token}
use Rattle.lexer.specs.declared.Token.TheVariants.{Number as number, Name as name, Mark as mark}
use Rattle.syntax.specs.Ast.{skip, branch, repeat, delay}
use Rattle.syntax.specs.Parser.{top, then_in, else_in, repeat_in, Block, push, assign_to, condition_in, delay_in, Goal, whole, statement, name_read, rounds_read, repeat_read, delay_read, out_read, out_comma, counter_read, length_next, ended, operand, closed, on_else, on_end, begin, only, step}
use Rattle.syntax.specs.Parser as parser
use Rattle.syntax.specs.Tree.{HoldsSetting, HoldsStmt, cell}
use Rattle.syntax.specs.Frames.{ExprAt, StmtAt, frame, Rows, Outers, Blocked, Topped, Stacked, Same, Awaits, Closes, Here, pushed, Adds, added}
use Rattle.syntax.specs.Reading.{Laid, Read, Begins, ReadsElse, ReadsEnd}
use Rattle.syntax.specs.declared.frame.Frame.{Frame}
use Rattle.syntax.specs.declared.frame.Frame.TheVariants.{Done, ThenIn, ElseIn, RepeatIn, AssignTo, ConditionIn, DelayIn}
use Rattle.syntax.specs.declared.node.Node.TheVariants.{Branch, Repeat, Delay, Setting}
use Rattle.syntax.specs.declared.state.Parser.{Parser}
use Rattle.syntax.specs.declared.state.State.{State}
use Rattle.syntax.specs.declared.state.State.TheVariants.{Statement, NameRead, RepeatRead, RoundsRead, DelayRead, OutRead, OutComma, CounterRead, LengthNext, Ended, Operand, Operated}
use Rattle.syntax.proofs.Cells.{expr_kept, stmt_kept, blocked_same, untouched, frames_untouched, frame_new, frames_below}
use Rattle.syntax.proofs.Closes.{frame_at}
use Rattle.syntax.proofs.Expects.{reach, refuse, from, only_same, only_other}

-- the innermost block is closed
module _ (p p₁ : Parser) (f : Closes p p₁) where
  -- `else`
  pub no_then : ((c x : ℕ) → p₁.depth ≡ c + 1 → frame p₁.frames c ≡ ThenIn x → ⊥) → ReadsElse p p₁ None
  unfolding on_else Outers
  no_then o (ss, top) h = refl
  no_then o (ss, else_in e u acc k) h = refl
  no_then o (ss, repeat_in i acc k) h = refl
  no_then o (ss, then_in e acc k) h = let g = (f (ss, then_in e acc k) h).0 in absurd (o g.0 g.2 (omega (arith, g.3)) g.4)

  pub then_closed : (c y : ℕ) → p₁.depth ≡ c + 1 → frame p₁.frames c ≡ ThenIn y → c < length p₁.frames → ReadsElse p (record p₁ { frames = set p₁.frames c (ElseIn y p₁.last) }) (Some Statement)
  unfolding on_else Outers Rows
  then_closed c y z k l (ss, top) h = absurd (omega (arith, (f (ss, top) h).0))
  then_closed c y z k l (ss, else_in e v acc o) h = let g = (f (ss, else_in e v acc o) h).0 in let x = frame_at p₁.frames g.0 c (omega (arith, g.4)) g.5 in cc
  then_closed c y z k l (ss, repeat_in i acc o) h = let g = (f (ss, repeat_in i acc o) h).0 in let x = frame_at p₁.frames g.0 c (omega (arith, g.2)) g.3 in cc
  then_closed c y z k l (ss, then_in e acc o) h =
      let m = p₁.nodes in
      let s = p₁.frames in
      let n = p₁.used in
      let a = f (ss, then_in e acc o) h in
      let g = a.0 in
      let here : g.0 ≡ c = omega (arith, g.3) in
      let both : ThenIn y ≡ ThenIn g.2 = sym k ∙ frame_at s g.0 c here g.4 in
      let at : g.2 ≡ y = cc in
      let e' = ElseIn y p₁.last in
      let around : Blocked (acc, o) m s n c = record { base = g.1; rows = subst (λ (i : ℕ). Rows m n s g.1 i acc) here g.5; outer = g.6 } in
      let b = blocked_same m m s (set s c e') n n (untouched n m) (omega arith) (acc, o) c (frames_below s c e') around in
      let condition : ExprAt m n y e = subst (λ (i : ℕ). ExprAt m n i e) at g.7 in
      (([], else_in e (closed ss skip) acc o), refl, record { base = p₁.depth; rows = refl; outer = (c, b.base, y, p₁.last, omega arith, frame_new s c e' l, b.rows, b.outer, condition, a.1) })

  -- `end`
  pub no_block : (p' : Parser) → ((c x y : ℕ) → p₁.depth ≡ c + 1 → frame p₁.frames c ≡ ElseIn x y → ⊥) → ((c j : ℕ) → p₁.depth ≡ c + 1 → frame p₁.frames c ≡ RepeatIn j → ⊥) → ReadsEnd p p' None
  unfolding on_end Outers
  no_block p' o r (ss, top) h = refl
  no_block p' o r (ss, then_in e acc k) h = refl
  no_block p' o r (ss, else_in e u acc k) h = let g = (f (ss, else_in e u acc k) h).0 in absurd (o g.0 g.2 g.3 (omega (arith, g.4)) g.5)
  no_block p' o r (ss, repeat_in i acc k) h = let g = (f (ss, repeat_in i acc k) h).0 in absurd (r g.0 i (omega (arith, g.2)) g.3)

  module _ (p' : Parser) (c : ℕ) (z : p₁.depth ≡ c + 1) where
    pub else_closed : (x y : ℕ) → frame p₁.frames c ≡ ElseIn x y → Adds (Branch x y p₁.last) (record p₁ { depth = c }) p' → ReadsEnd p p' (Some Ended)
    unfolding on_end Outers Rows HoldsStmt
    else_closed x y k d (ss, top) h = absurd (omega (arith, (f (ss, top) h).0))
    else_closed x y k d (ss, then_in e acc o) h = let g = (f (ss, then_in e acc o) h).0 in let x = frame_at p₁.frames g.0 c (omega (arith, g.3)) g.4 in cc
    else_closed x y k d (ss, repeat_in i acc o) h = let g = (f (ss, repeat_in i acc o) h).0 in let x = frame_at p₁.frames g.0 c (omega (arith, g.2)) g.3 in cc
    else_closed x y k d (ss, else_in e q acc o) h =
        let m = p₁.nodes in
        let m' = p'.nodes in
        let s = p₁.frames in
        let n = p₁.used in
        let w = d.wrote in
        let a = f (ss, else_in e q acc o) h in
        let g = a.0 in
        let here : g.0 ≡ c = omega (arith, g.4) in
        let both : ElseIn x y ≡ ElseIn g.2 g.3 = sym k ∙ frame_at s g.0 c here g.5 in
        let one : g.2 ≡ x = cc in
        let two : g.3 ≡ y = cc in
        let same : Same n m m' = λ j q. w.others j (inl q) in
        let around : Blocked (acc, o) m s n c = record { base = g.1; rows = subst (λ (i : ℕ). Rows m n s g.1 i acc) here g.6; outer = g.7 } in
        let l = blocked_same m m' s s n (n + 1) same (omega arith) (acc, o) c (frames_untouched c s) around in
        let condition = expr_kept e n n x m m' same (omega arith) (subst (λ (i : ℕ). ExprAt m n i e) one g.8) in
        let first = stmt_kept q n n y m m' same (omega arith) (subst (λ (i : ℕ). StmtAt m n i q) two g.9) in
        let second = stmt_kept (closed ss skip) n n p₁.last m m' same (omega arith) a.1 in
        let all : HoldsStmt m' n (branch e q (closed ss skip)) =
        (w.first, rw w.second condition.0, rw w.second condition.1, rw w.third first.0, rw w.third first.1, rw w.fourth second.0, rw w.fourth second.1) in
        subst (λ (r : Parser). Laid r Ended (ended (branch e q (closed ss skip)) (acc, o))) (sym d.is) ((acc, o), branch e q (closed ss skip), refl, l, (omega arith, all))

    pub repeat_closed : (j : ℕ) → frame p₁.frames c ≡ RepeatIn j → Adds (Repeat j p₁.last) (record p₁ { depth = c }) p' → ReadsEnd p p' (Some Ended)
    unfolding on_end Outers Rows HoldsStmt
    repeat_closed j k d (ss, top) h = absurd (omega (arith, (f (ss, top) h).0))
    repeat_closed j k d (ss, then_in e acc o) h = let g = (f (ss, then_in e acc o) h).0 in let x = frame_at p₁.frames g.0 c (omega (arith, g.3)) g.4 in cc
    repeat_closed j k d (ss, else_in e q acc o) h = let g = (f (ss, else_in e q acc o) h).0 in let x = frame_at p₁.frames g.0 c (omega (arith, g.4)) g.5 in cc
    repeat_closed j k d (ss, repeat_in i acc o) h =
        let m = p₁.nodes in
        let m' = p'.nodes in
        let s = p₁.frames in
        let n = p₁.used in
        let w = d.wrote in
        let a = f (ss, repeat_in i acc o) h in
        let g = a.0 in
        let here : g.0 ≡ c = omega (arith, g.2) in
        let both : RepeatIn j ≡ RepeatIn i = sym k ∙ frame_at s g.0 c here g.3 in
        let rounds : j ≡ i = cc in
        let same : Same n m m' = λ j q. w.others j (inl q) in
        let around : Blocked (acc, o) m s n c = record { base = g.1; rows = subst (λ (j : ℕ). Rows m n s g.1 j acc) here g.4; outer = g.5 } in
        let l = blocked_same m m' s s n (n + 1) same (omega arith) (acc, o) c (frames_untouched c s) around in
        let body = stmt_kept (closed ss skip) n n p₁.last m m' same (omega arith) a.1 in
        let all : HoldsStmt m' n (repeat i (closed ss skip)) = (w.first, w.second ∙ rounds, rw w.third body.0, rw w.third body.1) in
        subst (λ (r : Parser). Laid r Ended (ended (repeat i (closed ss skip)) (acc, o))) (sym d.is) ((acc, o), repeat i (closed ss skip), refl, l, (omega arith, all))

-- a frame is put on the stack
module _ (p : Parser) (f : Frame) (b : Block) (h : p.depth < length p.frames) (l : Here p b) where
  below : Blocked b p.nodes (set p.frames p.depth f) p.used p.depth
  below = blocked_same p.nodes p.nodes p.frames (set p.frames p.depth f) p.used p.used (untouched p.used p.nodes) (omega arith) b p.depth (frames_below p.frames p.depth f) l

  aimed : Topped f b p.nodes (set p.frames p.depth f) p.used (p.depth + 1)
  aimed = record { below = p.depth; size = omega arith; is = frame_new p.frames p.depth f h; block = below }

  awaited : (g : Goal) → Stacked p.nodes p.used (set p.frames p.depth f) (p.depth + 1) (whole g) → Awaits 0 (whole g) (pushed f p)
  awaited g k = record { base = p.depth + 1; count = omega arith; nots = λ j lo hi. absurd (omega arith); frames = k }

-- a mark where a statement could begin
module _ (p : Parser) where
  pub begins_if : p.depth < length p.frames → Begins if_word p (pushed ConditionIn p) (Some Operand)
  unfolding begin Stacked
  begins_if h b l = (0, whole (condition_in b), refl, awaited p ConditionIn b h l (condition_in b) (aimed p ConditionIn b h l))

  pub begins_else : (p' : Parser) (r : Option State) → ReadsElse p p' r → Begins else_word p p' r
  unfolding begin
  begins_else p' r g b l = g b l

  pub begins_repeat : Begins repeat_word p p (Some RepeatRead)
  unfolding begin
  begins_repeat b l = (b, refl, l)

  pub begins_delay : Begins delay_word p p (Some DelayRead)
  unfolding begin
  begins_delay b l = (b, refl, l)

  pub begins_end : (p' : Parser) (r : Option State) → ReadsEnd p p' r → Begins end_word p p' r
  unfolding begin
  begins_end p' r g b l = g b l

  pub begins_none : (x : Mark) → (x ≡ if_word → ⊥) → (x ≡ else_word → ⊥) → (x ≡ repeat_word → ⊥) → (x ≡ delay_word → ⊥) → (x ≡ end_word → ⊥) → Begins x p p None
  unfolding begin
  begins_none if_word a₁ a₂ a₃ a₄ a₅ b l = absurd (a₁ refl)
  begins_none else_word a₁ a₂ a₃ a₄ a₅ b l = absurd (a₂ refl)
  begins_none repeat_word a₁ a₂ a₃ a₄ a₅ b l = absurd (a₃ refl)
  begins_none delay_word a₁ a₂ a₃ a₄ a₅ b l = absurd (a₄ refl)
  begins_none end_word a₁ a₂ a₃ a₄ a₅ b l = absurd (a₅ refl)
  begins_none x a₁ a₂ a₃ a₄ a₅ b l = refl

-- a token that a program goes on with
module _ (p : Parser) where
  pub name_begins : (i : ℕ) → Read (name i) p Statement p (Some (NameRead i))
  unfolding step
  name_begins i q l = from (name i) p (Some (NameRead i)) l.1 (l.0, refl, l.2)

  pub mark_begins : (x : Mark) (p' : Parser) (r : Option State) → Begins x p p' r → Read (mark x) p Statement p' r
  unfolding step
  mark_begins x p' r g q l = from (mark x) p' r l.1 (g l.0 l.2)

  pub assigned : (i : ℕ) → p.depth < length p.frames → Read (mark assign_mark) p (NameRead i) (pushed (AssignTo i) p) (Some Operand)
  unfolding step Stacked
  assigned i h q l =
      from (mark assign_mark) _ (Some Operand) l.1 (reach _ Operand _ (operand 0 (whole (assign_to i l.0))) (only_same assign_mark _) (0, whole (assign_to i l.0), refl, awaited p (AssignTo i) l.0 h l.2 (assign_to i l.0) (aimed p (AssignTo i) l.0 h l.2)))

  pub rounds : (n : ℕ) → Read (number n) p RepeatRead p (Some (RoundsRead n))
  unfolding step
  rounds n q l = from (number n) p (Some (RoundsRead n)) l.1 (l.0, refl, l.2)

  pub times : (n : ℕ) → p.depth < length p.frames → Read (mark times_word) p (RoundsRead n) (pushed (RepeatIn n) p) (Some Statement)
  unfolding step Outers Rows
  times n h q l =
      let b = l.0 in
      let a = below p (RepeatIn n) b h l.2 in
      from (mark times_word) _ (Some Statement) l.1 (reach _ Statement _ (statement ([], repeat_in n b.0 b.1)) (only_same times_word _)
      (([], repeat_in n b.0 b.1), refl, record { base = p.depth + 1; rows = refl; outer = (p.depth, a.base, omega arith, frame_new p.frames p.depth (RepeatIn n) h, a.rows, a.outer) }))

  pub out : (i : ℕ) → Read (name i) p DelayRead p (Some (OutRead i))
  unfolding step
  out i q l = from (name i) p (Some (OutRead i)) l.1 (l.0, refl, l.2)

  pub a_comma : (i : ℕ) → Read (mark comma) p (OutRead i) p (Some (OutComma i))
  unfolding step
  a_comma i q l = from (mark comma) p (Some (OutComma i)) l.1 (reach p (OutComma i) _ (out_comma i l.0) (only_same comma _) (l.0, refl, l.2))

  pub counter : (i j : ℕ) → Read (name j) p (OutComma i) p (Some (CounterRead i j))
  unfolding step
  counter i j q l = from (name j) p (Some (CounterRead i j)) l.1 (l.0, refl, l.2)

  pub condition : (i j : ℕ) → p.depth < length p.frames → Read (mark comma) p (CounterRead i j) (pushed (DelayIn i j) p) (Some Operand)
  unfolding step Stacked
  condition i j h q l =
      from (mark comma) _ (Some Operand) l.1 (reach _ Operand _ (operand 0 (whole (delay_in i j l.0))) (only_same comma _) (0, whole (delay_in i j l.0), refl, awaited p (DelayIn i j) l.0 h l.2 (delay_in i j l.0) (aimed p (DelayIn i j) l.0 h l.2)))

  pub finished : p.depth < length p.frames → Read (mark semicolon) p Ended (pushed (Done p.last) p) (Some Statement)
  unfolding step Rows
  finished h q l =
      let f = Done p.last in
      let v = push l.1 l.0 in
      let a = below p f l.0 h l.3 in
      from (mark semicolon) _ (Some Statement) l.2 (reach _ Statement _ (statement v) (only_same semicolon _)
      (v, refl, record { base = a.base; rows = (p.depth, p.last, omega arith, frame_new p.frames p.depth f h, l.4, a.rows); outer = a.outer }))

  -- a delay's length
  pub a_length : (i j v : ℕ) (p₁ p₂ : Parser) → Adds (Setting p.last v) p p₁ → Adds (Delay i j p₁.last) p₁ p₂ → Read (number v) p (LengthNext i j) p₂ (Some Ended)
  unfolding step HoldsStmt
  a_length i j v p₁ p₂ x₁ x₂ q l =
      let b = l.0 in
      let e = l.1 in
      let n = p.used in
      let m₁ = p₁.nodes in
      let m₂ = p₂.nodes in
      let w₁ = x₁.wrote in
      let z₁ = x₁.is in
      let x₃ : Adds (Delay i j n) (added m₁ p) p₂ = subst (λ (r : Parser). Adds (Delay i j r.last) r p₂) z₁ x₂ in
      let w₂ = x₃.wrote in
      let same₁ : Same n p.nodes m₁ = λ j h. w₁.others j (inl h) in
      let same₂ : Same (n + 1) m₁ m₂ = λ j h. w₂.others j (inl h) in
      let k₁ = blocked_same p.nodes m₁ p.frames p.frames n (n + 1) same₁ (omega arith) b p.depth (frames_untouched p.depth p.frames) l.3 in
      let k₂ = blocked_same m₁ m₂ p.frames p.frames (n + 1) (n + 1 + 1) same₂ (omega arith) b p.depth (frames_untouched p.depth p.frames) k₁ in
      let tree : ExprAt m₂ n p.last e = expr_kept e n n p.last m₁ m₂ (λ j h. same₂ j (omega arith)) (omega arith) (expr_kept e n n p.last p.nodes m₁ same₁ (omega arith) l.4) in
      let c₁ : cell m₂ n 1 ≡ p.last = same₂ (4 * n + 1) (omega arith) ∙ w₁.second in
      let setting : HoldsSetting m₂ n e v = (same₂ (4 * n + 0) (omega arith) ∙ w₁.first, rw c₁ tree.0, rw c₁ tree.1, same₂ (4 * n + 2) (omega arith) ∙ w₁.third) in
      let all : HoldsStmt m₂ (n + 1) (delay i j e v) = (w₂.first, w₂.second, w₂.third, rw w₂.fourth (omega arith), rw w₂.fourth setting) in
      from (number v) p₂ (Some Ended) l.2 (subst (λ (r : Parser). Laid r Ended (ended (delay i j e v) b)) (sym x₃.is) (b, delay i j e v, refl, k₂, (omega arith, all)))

-- no program goes on with the token
abbrev pub Stuck : State → Token → Type 0
Stuck Statement t = ((i : ℕ) → t ≡ name i → ⊥) × ((x : Mark) → t ≡ mark x → ⊥)
Stuck (NameRead i) t = t ≡ mark assign_mark → ⊥
Stuck RepeatRead t = (n : ℕ) → t ≡ number n → ⊥
Stuck (RoundsRead n) t = t ≡ mark times_word → ⊥
Stuck DelayRead t = (i : ℕ) → t ≡ name i → ⊥
Stuck (OutRead i) t = t ≡ mark comma → ⊥
Stuck (OutComma i) t = (j : ℕ) → t ≡ name j → ⊥
Stuck (CounterRead i j) t = t ≡ mark comma → ⊥
Stuck (LengthNext i j) t = (n : ℕ) → t ≡ number n → ⊥
Stuck Ended t = t ≡ mark semicolon → ⊥
Stuck Operand t = ⊥
Stuck Operated t = ⊥

-- then its step leads nowhere
no_step : (p : Parser) (s : State) (t : Token) (q : parser.State) → Laid p s q → Stuck s t → step q t ≡ option.none
unfolding step
no_step p Statement (name i) q l h = absurd (h.0 i refl)
no_step p Statement (mark x) q l h = absurd (h.1 x refl)
no_step p Statement t q l h = ap (λ (r : parser.State). step r t) l.1
no_step p (NameRead i) (mark x) q l h = ap (λ (r : parser.State). step r (mark x)) l.1 ∙ only_other assign_mark x _ (λ e. h (ap mark e))
no_step p (NameRead i) t q l h = ap (λ (r : parser.State). step r t) l.1
no_step p RepeatRead (number n) q l h = absurd (h n refl)
no_step p RepeatRead t q l h = ap (λ (r : parser.State). step r t) l.1
no_step p (RoundsRead n) (mark x) q l h = ap (λ (r : parser.State). step r (mark x)) l.1 ∙ only_other times_word x _ (λ e. h (ap mark e))
no_step p (RoundsRead n) t q l h = ap (λ (r : parser.State). step r t) l.1
no_step p DelayRead (name i) q l h = absurd (h i refl)
no_step p DelayRead t q l h = ap (λ (r : parser.State). step r t) l.1
no_step p (OutRead i) (mark x) q l h = ap (λ (r : parser.State). step r (mark x)) l.1 ∙ only_other comma x _ (λ e. h (ap mark e))
no_step p (OutRead i) t q l h = ap (λ (r : parser.State). step r t) l.1
no_step p (OutComma i) (name j) q l h = absurd (h j refl)
no_step p (OutComma i) t q l h = ap (λ (r : parser.State). step r t) l.1
no_step p (CounterRead i j) (mark x) q l h = ap (λ (r : parser.State). step r (mark x)) l.1 ∙ only_other comma x _ (λ e. h (ap mark e))
no_step p (CounterRead i j) t q l h = ap (λ (r : parser.State). step r t) l.1
no_step p (LengthNext i j) (number n) q l h = absurd (h n refl)
no_step p (LengthNext i j) t q l h = ap (λ (r : parser.State). step r t) l.2
no_step p Ended (mark x) q l h = ap (λ (r : parser.State). step r (mark x)) l.2 ∙ only_other semicolon x _ (λ e. h (ap mark e))
no_step p Ended t q l h = ap (λ (r : parser.State). step r t) l.2
no_step p Operand t q l h = absurd h
no_step p Operated t q l h = absurd h

pub refused : (p : Parser) (s : State) (t : Token) → Stuck s t → Read t p s p None
refused p s t h q l = refuse p _ (no_step p s t q l h)
