-- Which tokens are the text of which tree. Assumes nothing: these are definitions.
use Rattle.std.specs.Prelude.{ℕ, suc, List, [], ◌∷◌, ◌++◌}
use Rattle.base.specs.declared.Op.{Op}
use Rattle.base.specs.declared.Op.TheVariants.{Add, Sub, Mul, Div, Less, Equal, And, Or}
use Rattle.syntax.specs.Ast.{Expr, lit, var, invert, binary, Stmt, skip, assign, seq, branch, repeat, delay}
use Rattle.lexer.specs.declared.Token.{Token}
use Rattle.lexer.specs.declared.Token.TheVariants.{Number as number, Name as name, Operator as operator, Mark as mark}
use Rattle.lexer.specs.declared.Mark.TheVariants.{Not as not_word, Open as open_mark, Close as close_mark, Assign as assign_mark, Semicolon as semicolon, Comma as comma, If as if_word, Then as then_word, Else as else_word, Repeat as repeat_word, Times as times_word, Delay as delay_word, End as end_word}

-- how tightly an operator binds, one less than its level: products 0, sums 1, comparisons 2, and 3, or 4
unfoldable pub strength : Op → ℕ
strength Add = 1
strength Sub = 1
strength Mul = 0
strength Div = 0
strength Less = 2
strength Equal = 2
strength And = 3
strength Or = 4

-- the tokens are an expression of a level: operators of one level associate to the left
pub data ReadsExpr : ℕ → List Token → Expr → Type 0 where
  a_number : (n : ℕ) → ReadsExpr 0 (number n ∷ []) (lit n)
  a_name : (i : ℕ) → ReadsExpr 0 (name i ∷ []) (var i)
  a_not : (ts : List Token) (e : Expr) → ReadsExpr 0 ts e → ReadsExpr 0 (mark not_word ∷ ts) (invert e)
  in_brackets : (ts : List Token) (e : Expr) → ReadsExpr 5 ts e → ReadsExpr 0 (mark open_mark ∷ (ts ++ (mark close_mark ∷ []))) e
  looser : (l : ℕ) (ts : List Token) (e : Expr) → ReadsExpr l ts e → ReadsExpr (suc l) ts e
  an_operation : (o : Op) (ts us : List Token) (a b : Expr) → ReadsExpr (suc (strength o)) ts a → ReadsExpr (strength o) us b → ReadsExpr (suc (strength o)) (ts ++ (operator o ∷ us)) (binary o a b)

-- the tokens are statements one after the other, taken from the right
pub data Reads : List Token → Stmt → Type 0 where
  no_more : Reads [] skip
  an_assign : (i : ℕ) (ts us : List Token) (e : Expr) (s : Stmt) → ReadsExpr 5 ts e → Reads us s → Reads (name i ∷ (mark assign_mark ∷ (ts ++ (mark semicolon ∷ us)))) (seq (assign i e) s)
  a_branch : (ts xs ys us : List Token) (e : Expr) (s t u : Stmt) → ReadsExpr 5 ts e → Reads xs s → Reads ys t → Reads us u →
      Reads (mark if_word ∷ (ts ++ (mark then_word ∷ (xs ++ (mark else_word ∷ (ys ++ (mark end_word ∷ (mark semicolon ∷ us)))))))) (seq (branch e s t) u)
  a_repeat : (n : ℕ) (xs us : List Token) (s u : Stmt) → Reads xs s → Reads us u →
      Reads (mark repeat_word ∷ (number n ∷ (mark times_word ∷ (xs ++ (mark end_word ∷ (mark semicolon ∷ us)))))) (seq (repeat n s) u)
  a_delay : (out counter preset : ℕ) (ts us : List Token) (e : Expr) (u : Stmt) → ReadsExpr 5 ts e → Reads us u →
      Reads (mark delay_word ∷ (name out ∷ (mark comma ∷ (name counter ∷ (mark comma ∷ (ts ++ (mark comma ∷ (number preset ∷ (mark semicolon ∷ us))))))))) (seq (delay out counter e preset) u)
