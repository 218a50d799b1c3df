-- The variables that a program names, and its numbers. Assumes nothing: these are definitions.
use Rattle.std.specs.Prelude.{ℕ, ◌<◌, List, [], ◌∷◌}
use Rattle.lexer.specs.declared.Token.{Token}
use Rattle.lexer.specs.declared.Token.TheVariants.{Number as number, Name as name, Operator as operator, Mark as mark}
use Rattle.syntax.specs.Grammar.{Reads}
use Rattle.syntax.specs.Ast.{Expr, lit, var, invert, binary, Stmt, skip, assign, seq, branch, repeat, delay}

-- every variable that an expression names is below n
abbrev pub ExprBelow : ℕ → Expr → Type 0
ExprBelow n (lit k) = Unit {0}
ExprBelow n (var i) = i < n
ExprBelow n (invert e) = ExprBelow n e
ExprBelow n (binary o a b) = ExprBelow n a × ExprBelow n b

-- every variable that a statement names is below n
abbrev pub Below : ℕ → Stmt → Type 0
Below n skip = Unit {0}
Below n (assign i e) = (i < n) × ExprBelow n e
Below n (seq s t) = Below n s × Below n t
Below n (branch e s t) = ExprBelow n e × Below n s × Below n t
Below n (repeat k s) = Below n s
Below n (delay out counter e preset) = (out < n) × (counter < n) × ExprBelow n e

-- every literal of an expression is a word
abbrev pub ExprWords : Expr → Type 0
ExprWords (lit k) = k < 65536
ExprWords (var i) = Unit {0}
ExprWords (invert e) = ExprWords e
ExprWords (binary o a b) = ExprWords a × ExprWords b

-- every literal, number of rounds and length of a statement is a word
abbrev pub Words : Stmt → Type 0
Words skip = Unit {0}
Words (assign i e) = ExprWords e
Words (seq s t) = Words s × Words t
Words (branch e s t) = ExprWords e × Words s × Words t
Words (repeat k s) = (k < 65536) × Words s
Words (delay out counter e preset) = ExprWords e × (preset < 65536)

-- a number is a word, and a name below n
abbrev pub TokenFits : ℕ → Token → Type 0
TokenFits n (number k) = k < 65536
TokenFits n (name i) = i < n
TokenFits n (operator o) = Unit {0}
TokenFits n (mark m) = Unit {0}

-- every number among the tokens is a word, and every name below n
unfoldable pub TokensFit : ℕ → List Token → Type 0
TokensFit n [] = Unit {0}
TokensFit n (t ∷ ts) = TokenFits n t × TokensFit n ts

-- then so it is in the program
abbrev pub ProgramFits : Type 0
ProgramFits = (n : ℕ) (ts : List Token) (s : Stmt) → Reads ts s → TokensFit n ts → Below n s × Words s
