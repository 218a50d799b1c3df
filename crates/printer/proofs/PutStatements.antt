-- The tokens of statements by those of their parts.
use Rattle.std.proofs.Common.{◌≡◌, ℕ, List, [], ◌∷◌, ◌++◌}
use Rattle.syntax.specs.Ast.{Expr, Stmt, skip, assign, seq, branch, repeat, delay}
use Rattle.lexer.specs.declared.Token.TheVariants.{Number as number, Name as name, Mark as mark}
use Rattle.lexer.specs.declared.Mark.TheVariants.{Assign as assign_mark, Semicolon as semicolon, Comma as comma, If as if_word, Then as then_word, Else as else_word, Repeat as repeat_word, Times as times_word, Delay as delay_word, End as end_word}
use Rattle.syntax.specs.Printer.{print_expr, print}
use Rattle.syntax.specs.Tree.{Holds, HoldsSetting, HoldsStmt}
use Rattle.printer.specs.Printed.{Puts, PutsExpr, PutsStmt, PutsSetting}
use Rattle.printer.specs.declared.writer.Writer.{Writer}
use Rattle.printer.proofs.Putting.{◌then◌, puts_none}

module _ (m : List ℕ) {w w₁ w₂ w₃ w' : Writer} where
  pub put_setting : (x n : ℕ) → PutsExpr m x 5 w w₁ → Puts (mark comma ∷ []) w₁ w₂ → Puts (number n ∷ []) w₂ w₃ → Puts (mark semicolon ∷ []) w₃ w' → (e : Expr) (k : ℕ) → (k ≡ n) × Holds m x e →
      Puts (print_expr 5 e ++ (mark comma ∷ (number k ∷ (mark semicolon ∷ [])))) w w'
  put_setting x n q₁ q₂ q₃ q₄ e k i = rw i.0 (q₁ e i.1 then q₂ then q₃ then q₄)

  pub put_assign : (v x : ℕ) → Puts (name v ∷ []) w w₁ → Puts (mark assign_mark ∷ []) w₁ w₂ → PutsExpr m x 5 w₂ w₃ → Puts (mark semicolon ∷ []) w₃ w' → (s : Stmt) → (e : Expr) × (s ≡ assign v e) × Holds m x e →
      Puts (print s) w w'
  unfolding print
  put_assign v x q₁ q₂ q₃ q₄ s i = rw i.1 (q₁ then q₂ then q₃ i.0 i.2 then q₄)

module _ (m : List ℕ) {w w₁ w' : Writer} where
  pub put_seq : (x y : ℕ) → PutsStmt m x w w₁ → PutsStmt m y w₁ w' → (s : Stmt) → (a : Stmt) × (b : Stmt) × (s ≡ seq a b) × HoldsStmt m x a × HoldsStmt m y b →
      Puts (print s) w w'
  unfolding print
  put_seq x y q₁ q₂ s i = rw i.2 (q₁ i.0 i.3 then q₂ i.1 i.4)

  pub put_delay_lem : (o p x : ℕ) → Puts (mark delay_word ∷ (name o ∷ (mark comma ∷ (name p ∷ (mark comma ∷ []))))) w w₁ → PutsSetting m x w₁ w' →
      (s : Stmt) → (e : Expr) × (n : ℕ) × (s ≡ delay o p e n) × HoldsSetting m x e n → Puts (print s) w w'
  unfolding print
  put_delay_lem o p x q₁ q₂ s i = rw i.2 (q₁ then q₂ i.0 i.1 i.3)

pub put_branch : (m : List ℕ) {w w₁ w₂ w₃ w₄ w₅ w₆ w' : Writer} (x y z : ℕ) → Puts (mark if_word ∷ []) w w₁ → PutsExpr m x 5 w₁ w₂ → Puts (mark then_word ∷ []) w₂ w₃ → PutsStmt m y w₃ w₄ →
    Puts (mark else_word ∷ []) w₄ w₅ → PutsStmt m z w₅ w₆ → Puts (mark end_word ∷ (mark semicolon ∷ [])) w₆ w' →
    (s : Stmt) → (e : Expr) × (a : Stmt) × (b : Stmt) × (s ≡ branch e a b) × Holds m x e × HoldsStmt m y a × HoldsStmt m z b → Puts (print s) w w'
unfolding print
put_branch m x y z q₁ q₂ q₃ q₄ q₅ q₆ q₇ s i = rw i.3 (q₁ then q₂ i.0 i.4 then q₃ then q₄ i.1 i.5 then q₅ then q₆ i.2 i.6 then q₇)

pub put_repeat : (m : List ℕ) {w w₁ w₂ w₃ w₄ w' : Writer} (n x : ℕ) → Puts (mark repeat_word ∷ []) w w₁ → Puts (number n ∷ []) w₁ w₂ → Puts (mark times_word ∷ []) w₂ w₃ → PutsStmt m x w₃ w₄ →
    Puts (mark end_word ∷ (mark semicolon ∷ [])) w₄ w' → (s : Stmt) → (a : Stmt) × (s ≡ repeat n a) × HoldsStmt m x a → Puts (print s) w w'
unfolding print
put_repeat m n x q₁ q₂ q₃ q₄ q₅ s i = rw i.1 (q₁ then q₂ then q₃ then q₄ i.0 i.2 then q₅)

-- a skip is written as nothing
pub put_skip : (w : Writer) (s : Stmt) → s ≡ skip → Puts (print s) w w
unfolding print
put_skip w s e = rw e (puts_none w)
