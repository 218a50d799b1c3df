-- A tree written as tokens, with the brackets that are needed and no others. Assumes nothing: these are definitions.
use Rattle.std.specs.Prelude.{◌≡◌, ℕ, suc, ◌≤◌, Bool, cond, List, [], ◌∷◌, ◌++◌, length, nat_lt}
use Rattle.syntax.specs.Ast.{Expr, lit, var, invert, binary, Stmt, skip, assign, seq, branch, repeat, delay}
use Rattle.lexer.specs.declared.Token.{Token}
use Rattle.lexer.specs.declared.Token.TheVariants.{Number as number, Name as name, Operator as operator, Mark as mark}
use Rattle.lexer.specs.declared.Mark.TheVariants.{Not as not_word, Open as open_mark, Close as close_mark, Assign as assign_mark, Semicolon as semicolon, Comma as comma, If as if_word, Then as then_word, Else as else_word, Repeat as repeat_word, Times as times_word, Delay as delay_word, End as end_word}
use Rattle.syntax.specs.Grammar.{strength, ReadsExpr, Reads}
use Rattle.syntax.specs.Parser.{accepted, parse}

-- bare, or in brackets
abbrev pub bracketed : Bool → List Token → List Token
bracketed bare ts = cond bare ts (mark open_mark ∷ (ts ++ (mark close_mark ∷ [])))

-- the tokens of an expression where one of level l is expected
unfoldable pub print_expr : ℕ → Expr → List Token
print_expr l (lit n) = number n ∷ []
print_expr l (var i) = name i ∷ []
print_expr l (invert e) = mark not_word ∷ print_expr 0 e
print_expr l (binary o a b) = bracketed (nat_lt (strength o) l) (print_expr (suc (strength o)) a ++ (operator o ∷ print_expr (strength o) b))

-- the tokens of a program
unfoldable pub print : Stmt → List Token
print skip = []
print (seq s t) = print s ++ print t
print (assign i e) = name i ∷ (mark assign_mark ∷ (print_expr 5 e ++ (mark semicolon ∷ [])))
print (branch e s t) = mark if_word ∷ (print_expr 5 e ++ (mark then_word ∷ (print s ++ (mark else_word ∷ (print t ++ (mark end_word ∷ (mark semicolon ∷ [])))))))
print (repeat n s) = mark repeat_word ∷ (number n ∷ (mark times_word ∷ (print s ++ (mark end_word ∷ (mark semicolon ∷ [])))))
print (delay out counter e preset) = mark delay_word ∷ (name out ∷ (mark comma ∷ (name counter ∷ (mark comma ∷ (print_expr 5 e ++ (mark comma ∷ (number preset ∷ (mark semicolon ∷ []))))))))

-- the trees that a text can have: statements chained to the right, to a skip at the end
pub data Program : Stmt → Type 0 where
  nothing : Program skip
  an_assign : (i : ℕ) (e : Expr) (s : Stmt) → Program s → Program (seq (assign i e) s)
  a_branch : (e : Expr) (s t u : Stmt) → Program s → Program t → Program u → Program (seq (branch e s t) u)
  a_repeat : (n : ℕ) (s u : Stmt) → Program s → Program u → Program (seq (repeat n s) u)
  a_delay : (out counter preset : ℕ) (e : Expr) (u : Stmt) → Program u → Program (seq (delay out counter e preset) u)

-- each tree that a text can have is read from what is printed of it, and no other tree has a text
pub record PrintsBack : Type 0 where
  pub programs : (ts : List Token) (s : Stmt) → Reads ts s → Program s
  pub exprs : (l : ℕ) (e : Expr) → ReadsExpr l (print_expr l e) e
  pub reads : (s : Stmt) → Program s → Reads (print s) s
  pub parses : (s : Stmt) → Program s → parse (print s) ≡ accepted s

-- no text of the tree is shorter, and each other one is longer
pub record Shortest : Type 0 where
  pub exprs : (l : ℕ) (ts : List Token) (e : Expr) → ReadsExpr l ts e → length (print_expr l e) ≤ length ts
  pub programs : (ts : List Token) (s : Stmt) → Reads ts s → length (print s) ≤ length ts
  pub only_expr : (l : ℕ) (ts : List Token) (e : Expr) → ReadsExpr l ts e → length ts ≤ length (print_expr l e) → ts ≡ print_expr l e
  pub only_program : (ts : List Token) (s : Stmt) → Reads ts s → length ts ≤ length (print s) → ts ≡ print s
