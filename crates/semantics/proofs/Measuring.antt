-- What a tree needs, by what its parts need. Assumes nothing.
use Rattle.std.proofs.Common.{◌≡◌, ℕ, zero, suc, ◌+◌, ◌-◌, ◌*◌, ◌^◌, ◌<◌, ◌≤◌, min, List, refl, ap, ◌∙◌, ⊎_elim, suc-mul, zero-mul, arith}
use Rattle.std.proofs.lemmas.Bool.{cases_lt}
use Rattle.base.specs.declared.Op.{Op}
use Rattle.syntax.specs.Ast.{Expr, lit, var, invert, binary, Stmt, skip, assign, seq, branch, repeat, delay}
use Rattle.syntax.specs.Tree.{cell, Holds, HoldsStmt}
use Rattle.syntax.specs.Node.{IsExpr, IsStmt}
use Rattle.syntax.specs.declared.node.Node.TheVariants.{Not, Binary, Assign, Seq, Branch, Repeat, Delay}
use Rattle.semantics.specs.Needs.{expr_need, stmt_need}
use Rattle.semantics.specs.Joins.{told, one_more, raised, followed_by, either, repeated, reaching}
use Rattle.semantics.specs.Measured.{Measures, MeasuredExpr, MeasuredSetting, Measured}
use Rattle.semantics.specs.declared.limits.Needs.{Needs}

-- an expression repeats nothing
pub expr_flat : (e : Expr) → (expr_need e).depth ≡ 0
unfolding expr_need
expr_flat (lit n) = refl
expr_flat (var i) = refl
expr_flat (invert e) = refl
expr_flat (binary o a b) = refl

-- as children stand below their parent, what a node holds is no higher and no deeper than there are nodes up to it
expr_low : (m : List ℕ) (i : ℕ) (e : Expr) → Holds m i e → (expr_need e).height ≤ i + 1
unfolding expr_need Holds
expr_low m i (lit n) h = omega arith
expr_low m i (var n) h = omega arith
expr_low m i (invert e) h = omega (arith, expr_low m (cell m i 1) e h.2)
expr_low m i (binary o a b) h = omega (arith, expr_low m (cell m i 2) a h.3, expr_low m (cell m i 3) b h.5)

stmt_shallow : (m : List ℕ) (i : ℕ) (s : Stmt) → HoldsStmt m i s → (stmt_need s).depth ≤ i
unfolding stmt_need HoldsStmt
stmt_shallow m i skip h = omega arith
stmt_shallow m i (assign v e) h = omega arith
stmt_shallow m i (seq s t) h = omega (arith, stmt_shallow m (cell m i 1) s h.2, stmt_shallow m (cell m i 2) t h.4)
stmt_shallow m i (branch e s t) h = omega (arith, stmt_shallow m (cell m i 2) s h.4, stmt_shallow m (cell m i 3) t h.6)
stmt_shallow m i (repeat n s) h = omega (arith, stmt_shallow m (cell m i 2) s h.3)
stmt_shallow m i (delay x y e n) h = omega arith

-- expressions
pub measure_literal : (e : Expr) (n : ℕ) → e ≡ lit n → Measures (expr_need e) (told 1 1 0 0)
unfolding expr_need
measure_literal e n z = rw z (record { cost = refl; height = refl; depth = refl; reach = refl })

pub measure_variable : (e : Expr) (n : ℕ) → e ≡ var n → Measures (expr_need e) (reaching n (told 1 1 0 0))
unfolding expr_need
measure_variable e n z = rw z (record { cost = refl; height = refl; depth = refl; reach = omega arith })

module _ (m : List ℕ) where
  pub measure_not : (x : ℕ) (r : Needs) → MeasuredExpr m x r → (e : Expr) → IsExpr m (Not x) e →
      Measures (expr_need e) (one_more r)
  unfolding expr_need
  measure_not x r p e i =
      let q = p i.0 i.2 in
      rw i.1 (record { cost = omega arith; height = q.height; depth = q.depth ∙ expr_flat i.0; reach = q.reach })

  pub measure_binary : (o : Op) (x y : ℕ) (q r z : Needs) → y < 65536 → MeasuredExpr m x q → MeasuredExpr m y r → (r.height < 2 ^ 32 - 1 → z ≡ raised r) → (e : Expr) → IsExpr m (Binary o x y) e →
      Measures (expr_need e) (one_more (followed_by q z))
  unfolding expr_need
  measure_binary o x y q r z small f g is e i =
      let a = f i.0 i.3 in let b = g i.1 i.4 in
      rw (i.2, is (omega (arith, b.height, expr_low m y i.1 i.4)))
      (record { cost = omega (arith, a.cost, b.cost); height = omega arith; depth = omega (arith, expr_flat i.0, expr_flat i.1); reach = omega arith })

  -- statements
  pub measure_assign : (v x : ℕ) (r : Needs) → MeasuredExpr m x r → (s : Stmt) → IsStmt m (Assign v x) s →
      Measures (stmt_need s) (reaching v (one_more r))
  unfolding stmt_need
  measure_assign v x r p s i =
      let q = p i.0 i.2 in
      rw i.1 (record { cost = omega arith; height = q.height; depth = q.depth ∙ expr_flat i.0; reach = omega arith })

  pub measure_seq : (x y : ℕ) (q r : Needs) → Measured m x q → Measured m y r → (s : Stmt) → IsStmt m (Seq x y) s →
      Measures (stmt_need s) (followed_by q r)
  unfolding stmt_need
  measure_seq x y q r f g s i =
      let a = f i.0 i.3 in let b = g i.1 i.4 in
      rw i.2 (record { cost = omega arith; height = omega arith; depth = omega arith; reach = omega arith })

  pub measure_branch : (x y z : ℕ) (p q r : Needs) → MeasuredExpr m x p → Measured m y q → Measured m z r → (s : Stmt) → IsStmt m (Branch x y z) s →
      Measures (stmt_need s) (followed_by (one_more p) (either (one_more q) r))
  unfolding stmt_need
  measure_branch x y z p q r f g h s i =
      let a = f i.0 i.4 in let b = g i.1 i.5 in let c = h i.2 i.6 in
      rw i.3 (record { cost = omega arith; height = omega arith; depth = omega (arith, expr_flat i.0); reach = omega arith })

-- n rounds of what costs more than is counted cost more than is counted, or are none
capped : (n r c : ℕ) → r ≡ min c 20001 → min (1 + n * (r + 1)) 20001 ≡ min (1 + n * (c + 1)) 20001
capped zero r c e = omega (arith, zero-mul (r + 1), zero-mul (c + 1))
capped (suc n) r c e =
    ⊎_elim (λ h. let s : r ≡ c = omega arith in ap (λ q. min (1 + suc n * (q + 1)) 20001) s)
    (λ h. omega (arith, suc-mul n (r + 1), suc-mul n (c + 1))) (cases_lt c 20001)

module _ (m : List ℕ) where
  pub measure_repeat : (n x : ℕ) (r z : Needs) → x < 65536 → Measured m x r → (r.depth < 2 ^ 32 - 1 → z ≡ repeated n r) → (s : Stmt) → IsStmt m (Repeat n x) s → Measures (stmt_need s) z
  unfolding stmt_need
  measure_repeat n x r z small p is s i =
      let q = p i.0 i.2 in
      rw (i.1, is (omega (arith, q.depth, stmt_shallow m x i.0 i.2)))
      (record { cost = capped n r.cost (stmt_need i.0).cost q.cost; height = q.height; depth = omega arith; reach = q.reach })

  pub measure_delay : (out counter x : ℕ) (r : Needs) → MeasuredSetting m x r → (s : Stmt) → IsStmt m (Delay out counter x) s →
      Measures (stmt_need s) (reaching counter (reaching out (one_more r)))
  unfolding stmt_need
  measure_delay out counter x r p s i =
      let q = p i.0 i.1 i.3 in
      rw i.2 (record { cost = omega arith; height = q.height; depth = q.depth ∙ expr_flat i.0; reach = omega arith })

pub measure_skip : (s : Stmt) (r : Needs) → s ≡ skip → (r.cost ≡ 0) × ((r.height ≡ 0) × ((r.depth ≡ 0) × (r.reach ≡ 0))) → Measures (stmt_need s) r
unfolding stmt_need
measure_skip s r e z = rw e (record { cost = omega arith; height = z.1.0; depth = z.1.1.0; reach = z.1.1.1 })
