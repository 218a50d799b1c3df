-- A node that holds a tree is read as such. Assumes nothing.
use Rattle.std.proofs.Common.{◌≡◌, ℕ, ◌+◌, ◌*◌, ◌<◌, Bool, true, false, cond, ◌&&◌, eqb, ltb, List, get_or, sym, refl, ap, ◌∙◌, subst, add-zero, arith, lt-ltb}
use Rattle.std.proofs.lemmas.Bool.Decides.{nat_tests}
use Rattle.base.specs.Ops.{op_of}
use Rattle.base.proofs.OpLaws.{op_code_lt, op_of_code}
use Rattle.syntax.specs.Ast.{Expr, lit, var, invert, binary, Stmt, skip, assign, seq, branch, repeat, delay}
use Rattle.syntax.specs.Tree.{cell, Holds, HoldsSetting, HoldsStmt}
use Rattle.syntax.specs.Node.{node_of, Lower, IsExpr, IsStmt, IsSetting, Decoded}
use Rattle.syntax.specs.declared.node.Node.{Node}

-- a test passed, or not
guarded : (i : ℕ) (b : Bool) (x y : Node) → (b ≡ true → Lower i x) → Lower i y → Lower i (cond b x y)
guarded i true x y p q = p refl
guarded i false x y p q = q

lower : (i k a b c : ℕ) → Lower i (node_of i k a b c)
lower i k a b c =
    guarded i (eqb k 0) _ _ (λ h. tt) (guarded i (eqb k 1) _ _ (λ h. tt) (guarded i (eqb k 2 && ltb a i) _ _ (λ h. grind (arith, nat_tests))
    (guarded i (eqb k 3 && ltb a 8 && ltb b i && ltb c i) _ _ (λ h. (grind (arith, nat_tests), grind (arith, nat_tests))) (guarded i (eqb k 4) _ _ (λ h. tt) (guarded i (eqb k 5 && ltb b i) _ _ (λ h. grind (arith, nat_tests))
    (guarded i (eqb k 6 && ltb a i && ltb b i) _ _ (λ h. (grind (arith, nat_tests), grind (arith, nat_tests))) (guarded i (eqb k 7 && ltb a i && ltb b i && ltb c i) _ _ (λ h. (grind (arith, nat_tests), grind (arith, nat_tests), grind (arith, nat_tests))) (guarded i (eqb k 8 && ltb b i) _ _ (λ h. grind (arith, nat_tests))
    (guarded i (eqb k 9 && ltb c i) _ _ (λ h. grind (arith, nat_tests)) (guarded i (eqb k 10 && ltb a i) _ _ (λ h. grind (arith, nat_tests)) tt))))))))))

exprs : (m : List ℕ) (i : ℕ) (e : Expr) → Holds m i e → IsExpr m (node_of i (cell m i 0) (cell m i 1) (cell m i 2) (cell m i 3)) e
unfolding Holds
exprs m i (lit n) h = rw (h.0, h.1)
exprs m i (var n) h = rw (h.0, h.1)
exprs m i (invert e) h = rw (h.0, lt-ltb (cell m i 1) i h.1) (e, refl, h.2)
exprs m i (binary o x y) h =
    let small : cell m i 1 < 8 = omega (arith, h.1, op_code_lt o) in
    rw (h.0, lt-ltb (cell m i 1) 8 small, lt-ltb (cell m i 2) i h.2, lt-ltb (cell m i 3) i h.4) (x, y, ap (λ p. binary p x y) (sym (ap op_of h.1 ∙ op_of_code o)), h.3, h.5)

stmts : (m : List ℕ) (i : ℕ) (s : Stmt) → HoldsStmt m i s → IsStmt m (node_of i (cell m i 0) (cell m i 1) (cell m i 2) (cell m i 3)) s
unfolding HoldsStmt
stmts m i skip h = rw h
stmts m i (assign v e) h = rw (h.0, lt-ltb (cell m i 2) i h.2) (e, ap (λ (x : ℕ). assign x e) (sym h.1), h.3)
stmts m i (seq s t) h = rw (h.0, lt-ltb (cell m i 1) i h.1, lt-ltb (cell m i 2) i h.3) (s, t, refl, h.2, h.4)
stmts m i (branch e s t) h = rw (h.0, lt-ltb (cell m i 1) i h.1, lt-ltb (cell m i 2) i h.3, lt-ltb (cell m i 3) i h.5) (e, s, t, refl, h.2, h.4, h.6)
stmts m i (repeat n s) h = rw (h.0, lt-ltb (cell m i 2) i h.2) (s, ap (λ (x : ℕ). repeat x s) (sym h.1), h.3)
stmts m i (delay x y e n) h = rw (h.0, lt-ltb (cell m i 3) i h.3) (e, n, (λ j. delay (sym h.1 j) (sym h.2 j) e n), h.4)

settings : (m : List ℕ) (i : ℕ) (e : Expr) (n : ℕ) → HoldsSetting m i e n → IsSetting m (node_of i (cell m i 0) (cell m i 1) (cell m i 2) (cell m i 3)) e n
settings m i e n h = rw (h.0, lt-ltb (cell m i 1) i h.1) (sym h.3, h.2)

pub decoded : (m : List ℕ) (i : ℕ) (r : Node) → r ≡ node_of i (cell m i 0) (cell m i 1) (cell m i 2) (cell m i 3) → Decoded m i r
decoded m i r z =
    subst (Decoded m i) (sym z)
    (record { is = refl; lower = lower i (cell m i 0) (cell m i 1) (cell m i 2) (cell m i 3); expr = exprs m i; stmt = stmts m i; setting = settings m i })

-- the four numbers, read one by one
pub node_at_is : (m : List ℕ) (i k a b c : ℕ) → k ≡ get_or m (4 * i) 0 → a ≡ get_or m (4 * i + 1) 0 → b ≡ get_or m (4 * i + 2) 0 → c ≡ get_or m (4 * i + 3) 0 →
    node_of i k a b c ≡ node_of i (cell m i 0) (cell m i 1) (cell m i 2) (cell m i 3)
node_at_is m i k a b c p q r s =
    let z : k ≡ cell m i 0 = p ∙ ap (λ (x : ℕ). get_or m x 0) (sym (add-zero (4 * i))) in
    (λ j. node_of i (z j) (q j) (r j) (s j))
