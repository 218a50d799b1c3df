-- The code of a tree, by the code of its parts. Assumes nothing.
use Rattle.std.proofs.Common.{◌≡◌, ℕ, ◌+◌, ◌-◌, List, [], ◌∷◌, length, set}
use Rattle.base.specs.declared.Op.{Op}
use Rattle.syntax.specs.Ast.{Expr, Stmt}
use Rattle.syntax.specs.Node.{IsExpr, IsStmt}
use Rattle.syntax.specs.declared.node.Node.{Node}
use Rattle.syntax.specs.declared.node.Node.TheVariants.{Literal, Variable, Not, Binary, Assign, Seq, Branch, Repeat, Delay}
use Rattle.syntax.proofs.OtherNodes.{only_skip}
use Rattle.compiler.specs.Instr.{Instr, push, load, jump, jump_if_zero, enter, back, stop}
use Rattle.compiler.specs.Compile.{compile_expr, compile}
use Rattle.compiler.specs.Emitted.{Appends, EmitsExpr, EmitsDelay, Emits}
use Rattle.compiler.proofs.Emitting.{◌then◌, appends_none, appends_branch, appends_repeat}

module _ (t : List ℕ) {m m' : List Instr} where
  -- expressions
  pub emit_literal : (n : ℕ) → Appends (push n ∷ []) m m' → (e : Expr) → IsExpr t (Literal n) e → Appends (compile_expr e) m m'
  unfolding compile_expr
  emit_literal n p e i = rw i p

  pub emit_variable : (n : ℕ) → Appends (load n ∷ []) m m' → (e : Expr) → IsExpr t (Variable n) e → Appends (compile_expr e) m m'
  unfolding compile_expr
  emit_variable n p e i = rw i p

  pub emit_not : {m₁ : List Instr} (x : ℕ) → EmitsExpr t x m m₁ → Appends (Instr.invert ∷ []) m₁ m' → (e : Expr) → IsExpr t (Not x) e → Appends (compile_expr e) m m'
  unfolding compile_expr
  emit_not x p q e i = rw i.1 (p i.0 i.2 then q)

  pub emit_binary : {m₁ m₂ : List Instr} (o : Op) (x y : ℕ) → EmitsExpr t x m m₁ → EmitsExpr t y m₁ m₂ → Appends (Instr.binary o ∷ []) m₂ m' → (e : Expr) → IsExpr t (Binary o x y) e → Appends (compile_expr e) m m'
  unfolding compile_expr
  emit_binary o x y p q r e i = rw i.2 (p i.0 i.3 then q i.1 i.4 then r)

  -- statements
  pub emit_assign : {m₁ : List Instr} (v x : ℕ) → EmitsExpr t x m m₁ → Appends (Instr.store v ∷ []) m₁ m' → (s : Stmt) → IsStmt t (Assign v x) s → Appends (compile s) m m'
  unfolding compile
  emit_assign v x p q s i = rw i.1 (p i.0 i.2 then q)

  pub emit_seq : {m₁ : List Instr} (x y : ℕ) → Emits t x m m₁ → Emits t y m₁ m' → (s : Stmt) → IsStmt t (Seq x y) s → Appends (compile s) m m'
  unfolding compile
  emit_seq x y p q s i = rw i.2 (p i.0 i.3 then q i.1 i.4)

  pub emit_delay_lem : (out counter x : ℕ) → EmitsDelay t x out counter m m' → (s : Stmt) → IsStmt t (Delay out counter x) s → Appends (compile s) m m'
  unfolding compile
  emit_delay_lem out counter x p s i = rw i.2 (p i.0 i.1 i.3)

  pub emit_repeat : {m₁ m₂ m₃ : List Instr} (n x : ℕ) {head size : ℕ} → head ≡ length m → Appends (stop ∷ []) m m₁ → Emits t x m₁ m₂ → size ≡ length m₂ - head - 1 + 1 →
      m₃ ≡ set m₂ head (enter n size) → Appends (back size ∷ []) m₃ m' → (s : Stmt) → IsStmt t (Repeat n x) s → Appends (compile s) m m'
  unfolding compile
  emit_repeat n x h r b z u q s i = rw i.1 (appends_repeat n (compile i.0) h r (b i.0 i.2) z u q)

  -- a choice
  pub emit_branch : {m₁ m₂ m₃ m₄ m₅ m₆ : List Instr} (x y z : ℕ) {test join past over : ℕ} →
      EmitsExpr t x m m₁ → test ≡ length m₁ → Appends (stop ∷ []) m₁ m₂ → Emits t y m₂ m₃ → join ≡ length m₃ → Appends (stop ∷ []) m₃ m₄ →
      past ≡ length m₄ - test - 1 → m₅ ≡ set m₄ test (jump_if_zero past) → Emits t z m₅ m₆ → over ≡ length m₆ - join - 1 → m' ≡ set m₆ join (jump over) →
      (s : Stmt) → IsStmt t (Branch x y z) s → Appends (compile s) m m'
  unfolding compile
  emit_branch x y z a test_is r b join_is j past_is u c over_is v s i =
      rw i.3 (appends_branch (compile_expr i.0) (compile i.1) (compile i.2) (a i.0 i.4) test_is r (b i.1 i.5) join_is j past_is u (c i.2 i.6) over_is v)

-- a node of another kind holds nothing, or a skip
pub emit_other : (t : List ℕ) (m : List Instr) (r : Node) → ((v x : ℕ) → r ≡ Assign v x → ⊥) → ((x y : ℕ) → r ≡ Seq x y → ⊥) → ((x y z : ℕ) → r ≡ Branch x y z → ⊥) → ((n x : ℕ) → r ≡ Repeat n x → ⊥) → ((a b x : ℕ) → r ≡ Delay a b x → ⊥) →
    (s : Stmt) → IsStmt t r s → Appends (compile s) m m
unfolding compile
emit_other t m r a b c d e s h = rw (only_skip t r a b c d e s h) (appends_none m)
