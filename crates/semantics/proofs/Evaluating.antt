-- What a tree comes to, by what its parts come to. Assumes nothing.
use Rattle.std.proofs.Common.{◌≡◌, ℕ, zero, suc, ◌+◌, ◌-◌, ◌<◌, ◌≤◌, Bool, true, false, eqb, List, length, sym, refl, ap, ◌∙◌, zero-add, arith}
use mir.Val.{bool_byte}
use Rattle.base.specs.Delays.{delayed}
use Rattle.base.specs.declared.Op.{Op}
use Rattle.base.specs.Stores.{Store, update, cells}
use Rattle.base.specs.Words.{bit, truthy, apply_op, op_fault, first_of}
use Rattle.syntax.specs.Ast.{Expr, Stmt, skip, delay}
use Rattle.syntax.specs.Tree.{HoldsStmt}
use Rattle.syntax.specs.Node.{IsExpr, IsStmt, IsSetting}
use Rattle.syntax.specs.declared.node.Node.TheVariants.{Literal, Variable, Not, Binary, Assign, Seq, Branch, Repeat, Setting}
use Rattle.semantics.specs.Eval.{Values, eval, faults, iterate, exec}
use Rattle.semantics.specs.Needs.{stmt_need}
use Rattle.semantics.specs.Evaluated.{values_in, Valued, ValuesExpr, Ran, RunsStmt}
use Rattle.semantics.proofs.Faults.{first_zero, first_assoc}

-- a truth value as the code makes a number of it
bit_is : (b : Bool) → bool_byte b ≡ bit b
bit_is true = refl
bit_is false = refl

-- values by their parts
values : (s t : Store) (f g : ℕ) → s ≡ t → f ≡ g → ◌≡◌ {A = Values} (record { store = s; fault = f }) (record { store = t; fault = g })
values s t f g p q = λ j. record { store = p j; fault = q j }

module _ (m vars : List ℕ) (fault : ℕ) where
  -- expressions
  pub value_literal : (n : ℕ) (e : Expr) → IsExpr m (Literal n) e → Valued vars fault e n fault
  unfolding eval faults
  value_literal n e i = rw i (record { is = refl; noted = sym (first_zero fault) })

  pub value_variable : (n r : ℕ) → r ≡ cells vars n → (e : Expr) → IsExpr m (Variable n) e → Valued vars fault e r fault
  unfolding eval faults
  value_variable n r p e i = rw i (record { is = p ∙ ap (cells vars) (sym (zero-add n)); noted = sym (first_zero fault) })

  pub value_not : (x r f : ℕ) → ValuesExpr m x vars fault r f → (e : Expr) → IsExpr m (Not x) e → Valued vars fault e (bool_byte (eqb r 0)) f
  unfolding eval faults
  value_not x r f p e i =
      let q = p i.0 i.2 in
      rw i.1 (record { is = bit_is (eqb r 0) ∙ ap (λ (k : ℕ). bit (eqb k 0)) q.is; noted = q.noted })

  pub value_binary : (o : Op) (x y l r z f g h : ℕ) → ValuesExpr m x vars fault l f → ValuesExpr m y vars f r g → z ≡ apply_op o l r → h ≡ first_of g (op_fault o r) →
      (e : Expr) → IsExpr m (Binary o x y) e → Valued vars fault e z h
  unfolding eval faults
  value_binary o x y l r z f g h p q is noted-is e i =
      let a = p i.0 i.3 in
      let b = q i.1 i.4 in
      let u = op_fault o r in
      let c : u ≡ op_fault o (eval 0 (cells vars) i.1) = ap (op_fault o) b.is in
      let assoc = first_assoc fault (faults 0 (cells vars) i.0) (first_of (faults 0 (cells vars) i.1) u) in
      let assoc₂ = first_assoc (first_of fault (faults 0 (cells vars) i.0)) (faults 0 (cells vars) i.1) u in
      rw i.2 (record {
        is = is ∙ (λ j. apply_op o (a.is j) (b.is j));
        noted = noted-is ∙ ap (λ (k : ℕ). first_of k u) (b.noted ∙ ap (λ (k : ℕ). first_of k (faults 0 (cells vars) i.1)) a.noted) ∙ assoc₂ ∙ assoc
            ∙ ap (λ (k : ℕ). first_of fault (first_of (faults 0 (cells vars) i.0) (first_of (faults 0 (cells vars) i.1) k))) c;
      })

module _ (m : List ℕ) (elapsed : ℕ) (vars : List ℕ) (fault : ℕ) where
  -- statements
  pub run_assign : (v x r f : ℕ) (vars' : List ℕ) → ValuesExpr m x vars fault r f → (v < length vars → cells vars' ≡ update (cells vars) v r) →
      (s : Stmt) → IsStmt m (Assign v x) s → Ran elapsed s vars fault vars' f
  unfolding exec stmt_need
  run_assign v x r f vars' p w s i =
      let q = p i.0 i.2 in
      rw i.1 (λ near. values _ _ _ _ (w (omega arith) ∙ ap (update (cells vars) v) q.is ∙ ap (λ (k : ℕ). update (cells vars) k (eval 0 (cells vars) i.0)) (sym (zero-add v))) q.noted)

  pub run_seq : (x y f f' : ℕ) (vars₁ vars' : List ℕ) → length vars₁ ≡ length vars → RunsStmt m x elapsed vars fault vars₁ f → RunsStmt m y elapsed vars₁ f vars' f' →
      (s : Stmt) → IsStmt m (Seq x y) s → Ran elapsed s vars fault vars' f'
  unfolding exec stmt_need
  run_seq x y f f' vars₁ vars' kept p q s i =
      rw i.2 (λ near. q i.1 i.4 (omega arith) ∙ ap (exec elapsed 0 i.1) (p i.0 i.3 (omega arith)))

  pub run_else : (x y z r f f' : ℕ) (vars' : List ℕ) → ValuesExpr m x vars fault r f → eqb r 0 ≡ true → RunsStmt m z elapsed vars f vars' f' →
      (s : Stmt) → IsStmt m (Branch x y z) s → Ran elapsed s vars fault vars' f'
  unfolding exec stmt_need
  run_else x y z r f f' vars' p zero_is q s i =
      let a = p i.0 i.4 in
      let test : eqb (eval 0 (cells vars) i.0) 0 ≡ true = ap (λ (k : ℕ). eqb k 0) (sym a.is) ∙ zero_is in
      rw (i.3, test) (λ near. q i.2 i.6 (omega arith) ∙ ap (exec elapsed 0 i.2) (values _ _ _ _ refl a.noted))

  pub run_then : (x y z r f f' : ℕ) (vars' : List ℕ) → ValuesExpr m x vars fault r f → eqb r 0 ≡ false → RunsStmt m y elapsed vars f vars' f' →
      (s : Stmt) → IsStmt m (Branch x y z) s → Ran elapsed s vars fault vars' f'
  unfolding exec stmt_need
  run_then x y z r f f' vars' p zero_is q s i =
      let a = p i.0 i.4 in
      let test : eqb (eval 0 (cells vars) i.0) 0 ≡ false = ap (λ (k : ℕ). eqb k 0) (sym a.is) ∙ zero_is in
      rw (i.3, test) (λ near. q i.1 i.5 (omega arith) ∙ ap (exec elapsed 0 i.1) (values _ _ _ _ refl a.noted))

  pub run_setting : (x n out counter r f : ℕ) (on : Bool) (vars' : List ℕ) → ValuesExpr m x vars fault r f → on ≡ truthy r →
      (out < length vars → counter < length vars → cells vars' ≡ delayed elapsed out counter n on (cells vars)) →
      (e : Expr) (preset : ℕ) → IsSetting m (Setting x n) e preset → Ran elapsed (delay out counter e preset) vars fault vars' f
  unfolding exec stmt_need
  run_setting x n out counter r f on vars' p on_is w e preset i near =
      let a = p e i.1 in
      let o : out ≡ 0 + out = sym (zero-add out) in
      let c : counter ≡ 0 + counter = sym (zero-add counter) in
      let b : on ≡ truthy (eval 0 (cells vars) e) = on_is ∙ ap truthy a.is in
      values _ _ _ _ (w (omega arith) (omega arith) ∙ (λ j. delayed elapsed (o j) (c j) (sym i.0 j) (b j) (cells vars))) a.noted

-- what the rounds that are left come to is what all of them do
abbrev pub RoundsLeft : (m : List ℕ) (x elapsed rounds done : ℕ) (vars : List ℕ) (fault : ℕ) (vars' : List ℕ) (fault' : ℕ) → Type 0
RoundsLeft m x elapsed rounds done vars fault vars' fault' =
    (s : Stmt) → HoldsStmt m x s → (stmt_need s).reach ≤ length vars →
    iterate (rounds - done) (exec elapsed 0 s) (values_in vars' fault') ≡ iterate rounds (exec elapsed 0 s) (values_in vars fault)

module _ (m : List ℕ) (x elapsed rounds : ℕ) (vars : List ℕ) (fault : ℕ) where
  pub rounds_more : (done : ℕ) (vars₁ : List ℕ) (f : ℕ) (vars₂ : List ℕ) (g : ℕ) → done < rounds → length vars₁ ≡ length vars →
      RoundsLeft m x elapsed rounds done vars fault vars₁ f → RunsStmt m x elapsed vars₁ f vars₂ g → RoundsLeft m x elapsed rounds (done + 1) vars fault vars₂ g
  unfolding iterate
  rounds_more done vars₁ f vars₂ g less kept p q s h near =
      let e : rounds - done ≡ suc (rounds - (done + 1)) = omega arith in
      ap (iterate (rounds - (done + 1)) (exec elapsed 0 s)) (q s h (omega arith)) ∙ (rw e at (p s h near))

  pub rounds_all : (done : ℕ) (vars' : List ℕ) (f : ℕ) → rounds ≤ done → RoundsLeft m x elapsed rounds done vars fault vars' f → (s : Stmt) → IsStmt m (Repeat rounds x) s → Ran elapsed s vars fault vars' f
  unfolding iterate exec stmt_need
  rounds_all done vars' f all p s i =
      let e : rounds - done ≡ zero = omega arith in
      rw i.1 (λ near. rw e at (p i.0 i.2 near))

-- a skip does nothing
pub run_skip : (elapsed : ℕ) (vars : List ℕ) (fault : ℕ) (s : Stmt) → s ≡ skip → Ran elapsed s vars fault vars fault
unfolding exec
run_skip elapsed vars fault s e = rw e (λ near. refl)
