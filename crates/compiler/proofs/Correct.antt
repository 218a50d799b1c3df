-- The code of a statement does what it means. Assumes nothing.
use Rattle.std.proofs.Common.{◌≡◌, ℕ, zero, suc, ◌+◌, ◌-◌, ◌*◌, ◌≤◌, max, Bool, true, false, cond, eqb, List, [], ◌∷◌, ◌++◌, length, get_or, sym, refl, ◌∙◌, add-zero, suc-mul, arith, length-append}
use Rattle.std.proofs.lemmas.Bool.{lt-leb, ne_eqb}
use Rattle.base.specs.Delays.{delayed}
use Rattle.base.specs.declared.Op.{Op}
use Rattle.syntax.specs.Ast.{Expr, lit, var, Stmt, skip, assign, seq, branch, repeat, delay}
use Rattle.base.specs.Words.{bit, truthy, apply_op, op_fault, first_of}
use Rattle.base.specs.Stores.{Store, update}
use Rattle.semantics.specs.Eval.{eval, faults, Values, iterate, exec}
use Rattle.semantics.specs.Needs.{Need, need, expr_need, stmt_need}
use Rattle.compiler.specs.Instr.{Instr, push, load, jump, jump_if_zero, enter, back, tick, stop}
use Rattle.compiler.specs.Machine.{Machine, step}
use Rattle.semantics.proofs.Faults.{first_zero, first_assoc}
use Rattle.compiler.specs.Compile.{compile_expr, compile}
use Rattle.compiler.proofs.Runs.{at, Placed, placed_left, placed_right, Runs, done, more, ◌then◌, one, by, land}

-- over stacks s and l, at a base o, there is room for a need
pub record Room (lim : Need) (a : Need) (s l : List ℕ) (o : ℕ) : Type 0 where
  pub stack_room : length s + a.height ≤ lim.height
  pub control_room : length l + a.depth ≤ lim.depth
  pub store_room : o + a.reach ≤ lim.reach

expr_height_pos : (e : Expr) → 1 ≤ (expr_need e).height
unfolding expr_need
expr_height_pos (lit n) = omega arith
expr_height_pos (var i) = omega arith
expr_height_pos (Expr.invert e) = expr_height_pos e
expr_height_pos (Expr.binary op a b) = omega (arith, expr_height_pos a)

-- a condition's code, the choice, and the two ways
abbrev branch_code : (c a b : List Instr) → List Instr
branch_code c a b = c ++ (jump_if_zero (suc (length a)) ∷ (a ++ (jump (length b) ∷ b)))

-- the state once a condition was worked out
abbrev tested : Values → (Store → ℕ) → Values
tested r e = record { store = r.store; fault = first_of r.fault (e r.store) }

-- at a base, in a code
module _ (elapsed o : ℕ) (code : List Instr) where
  -- code that, wherever it stands and whatever lies below, puts a value on the stack
  abbrev pub Yields : List Instr → Need → (Store → ℕ) → (Store → ℕ) → Type 0
  Yields c a v e =
      (lim : Need) (p : ℕ) (s l : List ℕ) (st : Store) (f : ℕ) → Placed code p c → Room lim (need 0 a.height 0 a.reach) s l o →
      Runs elapsed code lim a.cost (at p s l o st f) (at (p + length c) (v st ∷ s) l o st (first_of f (e st)))

  yields_push : (n : ℕ) → Yields (push n ∷ []) (need 1 1 0 0) (λ st. n) (λ st. 0)
  yields_push n lim p s l st f pl room = land (one (push n) pl.0 (search arith) (done (search arith))) (omega arith) (sym (first_zero f))

  yields_load : (i : ℕ) → Yields (load i ∷ []) (need 1 1 0 (suc i)) (λ st. st (o + i)) (λ st. 0)
  yields_load i lim p s l st f pl room = land (one (load i) pl.0 (search arith) (done (search arith))) (omega arith) (sym (first_zero f))

  yields_invert : (c : List Instr) (a : Need) (v e : Store → ℕ) → 1 ≤ a.height → Yields c a v e →
      Yields (c ++ Instr.invert ∷ []) (need (a.cost + 1) a.height 0 a.reach) (λ st. bit (eqb (v st) 0)) e
  yields_invert c a v e pos y lim p s l st f pl room =
      land (y lim p s l st f (placed_left code p c _ pl) (search arith) then one Instr.invert (placed_right code p c _ pl).0 (search arith) (done (search arith)))
      (omega (arith, length-append c (Instr.invert ∷ []))) refl

  yields_binary : (op : Op) (c d : List Instr) (a b : Need) (va vb ea eb : Store → ℕ) → 1 ≤ b.height → Yields c a va ea → Yields d b vb eb →
      Yields (c ++ (d ++ Instr.binary op ∷ [])) (need (a.cost + (b.cost + 1)) (max a.height (b.height + 1)) 0 (max a.reach b.reach))
      (λ st. apply_op op (va st) (vb st)) (λ st. first_of (ea st) (first_of (eb st) (op_fault op (vb st))))
  yields_binary op c d a b va vb ea eb pos ya yb lim p s l st f pl room =
      let pl' = placed_right code p c _ pl in
      let f' : ℕ = first_of f (ea st) in
      land (ya lim p s l st f (placed_left code p c _ pl) (search arith) then
      yb lim (p + length c) (va st ∷ s) l st f' (placed_left code (p + length c) d _ pl') (search arith) then
      one (Instr.binary op) (placed_right code (p + length c) d _ pl').0 (search arith) (done (search arith)))
      (simp length-append (omega arith))
      (first_assoc f' (eb st) _ ∙ first_assoc f (ea st) _)

  pub expr_yields : (e : Expr) → Yields (compile_expr e) (expr_need e) (λ st. eval o st e) (λ st. faults o st e)
  unfolding compile_expr expr_need eval faults
  expr_yields (lit n) = yields_push n
  expr_yields (var i) = yields_load i
  expr_yields (Expr.invert e) = yields_invert _ (expr_need e) _ _ (expr_height_pos e) (expr_yields e)
  expr_yields (Expr.binary op a b) = yields_binary op _ _ (expr_need a) (expr_need b) _ _ _ _ (expr_height_pos b) (expr_yields a) (expr_yields b)

  -- a machine in a state
  abbrev pub on : ℕ → List ℕ → List ℕ → Values → Machine
  on p s l r = at p s l o r.store r.fault

  -- code that, wherever it stands and whatever lies below, changes the state and leaves the stacks as they were
  abbrev pub Does : List Instr → Need → (Values → Values) → Type 0
  Does c a g =
      (lim : Need) (p : ℕ) (s l : List ℕ) (r : Values) → Placed code p c → Room lim a s l o →
      Runs elapsed code lim a.cost (on p s l r) (on (p + length c) s l (g r))

  -- the same, where the place alone is written in another way
  to : {lim : Need} {k p p' : ℕ} {s l : List ℕ} {r : Values} {m : Machine} → Runs elapsed code lim k m (on p s l r) → p ≡ p' → Runs elapsed code lim k m (on p' s l r)
  to x e = land x e refl

  does_skip : Does [] (need 0 0 0 0) (λ r. r)
  does_skip lim p s l r pl room = to (done (search arith)) (omega arith)

  does_store : (i : ℕ) (c : List Instr) (a : Need) (v e : Store → ℕ) → 1 ≤ a.height → Yields c a v e →
      Does (c ++ Instr.store i ∷ []) (need (a.cost + 1) a.height 0 (max a.reach (suc i)))
      (λ r. record { store = update r.store (o + i) (v r.store); fault = first_of r.fault (e r.store) })
  does_store i c a v e pos y lim p s l r pl room =
      to (y lim p s l r.store r.fault (placed_left code p c _ pl) (search arith) then one (Instr.store i) (placed_right code p c _ pl).0 (search arith) (done (search arith)))
      (simp length-append (omega arith))

  does_tick : (out counter preset : ℕ) (c : List Instr) (a : Need) (v e : Store → ℕ) → 1 ≤ a.height → Yields c a v e →
      Does (c ++ tick out counter preset ∷ []) (need (a.cost + 1) a.height 0 (max a.reach (max (suc out) (suc counter))))
      (λ r. record { store = delayed elapsed (o + out) (o + counter) preset (truthy (v r.store)) r.store; fault = first_of r.fault (e r.store) })
  does_tick out counter preset c a v e pos y lim p s l r pl room =
      to (y lim p s l r.store r.fault (placed_left code p c _ pl) (search arith) then one (tick out counter preset) (placed_right code p c _ pl).0 (search arith) (done (search arith)))
      (simp length-append (omega arith))

  does_seq : (c d : List Instr) (a b : Need) (f g : Values → Values) → Does c a f → Does d b g →
      Does (c ++ d) (need (a.cost + b.cost) (max a.height b.height) (max a.depth b.depth) (max a.reach b.reach)) (λ r. g (f r))
  does_seq c d a b f g x y lim p s l r pl room =
      to (x lim p s l r (placed_left code p c d pl) (search arith) then y lim (p + length c) s l (f r) (placed_right code p c d pl) (search arith))
      (simp length-append (omega arith))

  -- what the instructions that test do, once the test is known
  step_jump_zero : (n x q q' : ℕ) (s l : List ℕ) (r : Values) → eqb x 0 ≡ true → q + 1 + n ≡ q' → step elapsed (jump_if_zero n) (on q (x ∷ s) l r) ≡ on q' s l r
  step_jump_zero n x q q' s l r t e = rw (t, e)

  step_jump_on : (n x q : ℕ) (s l : List ℕ) (r : Values) → eqb x 0 ≡ false → step elapsed (jump_if_zero n) (on q (x ∷ s) l r) ≡ on (q + 1) s l r
  step_jump_on n x q s l r t = rw (t, add-zero)

  step_enter : (n past q : ℕ) (s l : List ℕ) (r : Values) → step elapsed (enter (suc n) past) (on q s l r) ≡ on (q + 1) s (suc n ∷ l) r
  step_enter n past q s l r = rw (ne_eqb (suc n) 0 (omega arith), add-zero)

  step_again : (far n q q' : ℕ) (s l : List ℕ) (r : Values) → q + 1 - far ≡ q' → step elapsed (back far) (on q s (suc (suc n) ∷ l) r) ≡ on q' s (suc n ∷ l) r
  step_again far n q q' s l r e =
      let one_less : suc (suc n) - 1 ≡ suc n = omega arith in
      rw (lt-leb (suc (suc n)) 1 (omega arith), one_less, e)

  does_branch : (c d d' : List Instr) (k a b : Need) (v e : Store → ℕ) (f g : Values → Values) → 1 ≤ k.height → Yields c k v e → Does d a f → Does d' b g →
      Does (branch_code c d d')
      (need (k.cost + (1 + max (a.cost + 1) b.cost)) (max k.height (max a.height b.height)) (max a.depth b.depth) (max k.reach (max a.reach b.reach)))
      (λ r. cond (eqb (v r.store) 0) (g (tested r e)) (f (tested r e)))
  does_branch c d d' k a b v e f g pos y xa xb lim p s l r pl room =
      let q : ℕ = p + length c in
      let pl' = placed_right code p c _ pl in
      let pa = placed_left code (q + 1) d _ pl'.1 in
      let pb = placed_right code (q + 1) d _ pl'.1 in
      y lim p s l r.store r.fault (placed_left code p c _ pl) (search arith) then
      way (eqb (v r.store) 0) refl q refl pl' pa pb
    where
      r' : Values
      r' = tested r e

      way : (z : Bool) → eqb (v r.store) 0 ≡ z → (q : ℕ) → q ≡ p + length c → Placed code q (jump_if_zero (suc (length d)) ∷ (d ++ (jump (length d') ∷ d'))) →
          Placed code (q + 1) d → Placed code (q + 1 + length d) (jump (length d') ∷ d') →
          Runs elapsed code lim (1 + max (a.cost + 1) b.cost) (on q (v r.store ∷ s) l r') (on (p + length (branch_code c d d')) s l (cond z (g r') (f r')))
      way true t q e pl' pa pb =
          more _ (to (by (jump_if_zero (suc (length d))) pl'.0 (step_jump_zero (suc (length d)) (v r.store) q (q + 1 + length d + 1) s l r' t (omega arith)) (search arith)
          (xb lim (q + 1 + length d + 1) s l r' pb.1 (search arith)))
          (simp length-append (omega arith)))
          (omega arith)
      way false t q e pl' pa pb =
          more _ (to (by (jump_if_zero (suc (length d))) pl'.0 (step_jump_on (suc (length d)) (v r.store) q s l r' t) (search arith)
          (xa lim (q + 1) s l r' pa (search arith) then one (jump (length d')) pb.0 (search arith) (done {k = 0} (search arith))))
          (simp length-append (omega arith)))
          (omega arith)

  -- so many rounds, at the start of one
  rounds : (c : List Instr) (a : Need) (g : Values → Values) → Does c a g → (lim : Need) (p : ℕ) (s l : List ℕ) → Placed code p c →
      get_or code (p + length c) stop ≡ back (suc (length c)) → Room lim (need 0 a.height (a.depth + 1) a.reach) s l o → (n : ℕ) (r : Values) →
      Runs elapsed code lim (suc n * (a.cost + 1)) (on p s (suc n ∷ l) r) (on (p + length c + 1) s l (iterate (suc n) g r))
  unfolding iterate
  rounds c a g x lim p s l pl last room zero r =
      more _ (x lim p s (1 ∷ l) r pl (search arith) then one (back (suc (length c))) last (search arith) (done {k = 0} (search arith))) (omega arith)
  rounds c a g x lim p s l pl last room (suc n) r =
      more _ (x lim p s (suc (suc n) ∷ l) r pl (search arith) then
      by (back (suc (length c))) last (step_again (suc (length c)) n (p + length c) p s l (g r) (omega arith)) (search arith)
      (rounds c a g x lim p s l pl last room n (g r)))
      (omega (arith, suc-mul (suc n) (a.cost + 1)))

  does_repeat : (n : ℕ) (c : List Instr) (a : Need) (g : Values → Values) → Does c a g →
      Does (enter n (suc (length c)) ∷ (c ++ back (suc (length c)) ∷ [])) (need (1 + n * (a.cost + 1)) a.height (a.depth + 1) a.reach) (iterate n g)
  unfolding iterate
  does_repeat zero c a g x lim p s l r pl room =
      more _ (to (one (enter 0 (suc (length c))) pl.0 (search arith) (done {k = 0} (search arith))) (simp length-append (omega arith))) (omega arith)
  does_repeat (suc n) c a g x lim p s l r pl room =
      more _ (to (by (enter (suc n) (suc (length c))) pl.0 (step_enter n (suc (length c)) p s l r) (search arith)
      (rounds c a g x lim (p + 1) s l (placed_left code (p + 1) c _ pl.1) (placed_right code (p + 1) c _ pl.1).0 (search arith) n r))
      (simp length-append (omega arith)))
      (omega arith)

pub stmt_does : (elapsed o : ℕ) (code : List Instr) (s : Stmt) → Does elapsed o code (compile s) (stmt_need s) (exec elapsed o s)
unfolding compile stmt_need exec
stmt_does elapsed o code skip = does_skip elapsed o code
stmt_does elapsed o code (assign i e) = does_store elapsed o code i _ (expr_need e) _ _ (expr_height_pos e) (expr_yields elapsed o code e)
stmt_does elapsed o code (seq s t) = does_seq elapsed o code _ _ (stmt_need s) (stmt_need t) _ _ (stmt_does elapsed o code s) (stmt_does elapsed o code t)
stmt_does elapsed o code (branch e s t) =
    does_branch elapsed o code _ _ _ (expr_need e) (stmt_need s) (stmt_need t) _ _ _ _ (expr_height_pos e) (expr_yields elapsed o code e) (stmt_does elapsed o code s) (stmt_does elapsed o code t)
stmt_does elapsed o code (repeat m s) = does_repeat elapsed o code m _ (stmt_need s) _ (stmt_does elapsed o code s)
stmt_does elapsed o code (delay out counter e preset) = does_tick elapsed o code out counter preset _ (expr_need e) _ _ (expr_height_pos e) (expr_yields elapsed o code e)
