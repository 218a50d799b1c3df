-- A parser that takes one token at a time, as an automaton with a stack. Assumes nothing: these are definitions.
use Rattle.std.specs.Prelude.{ℕ, zero, suc, ◌≤◌, Bool, false, cond, List, [], ◌∷◌, ◌==◌, nat_le}
use Rattle.std.proofs.Math.Option.{Option, none, some}
use Rattle.base.specs.declared.Op.{Op}
use Rattle.syntax.specs.Ast.{Expr, lit, var, invert, binary, Stmt, skip, assign, seq, branch, repeat, delay}
use Rattle.lexer.specs.declared.Mark.{Mark}
use Rattle.lexer.specs.declared.Token.{Token}
use Rattle.lexer.specs.declared.Token.TheVariants.{Number as number, Name as name, Operator as operator, Mark as mark}
use Rattle.lexer.specs.Pairs.{code}
use Rattle.lexer.specs.declared.Mark.TheVariants.{Not as not_word, Open as open_mark, Close as close_mark, Assign as assign_mark, Semicolon as semicolon, Comma as comma, If as if_word, Then as then_word, Else as else_word, Repeat as repeat_word, Times as times_word, Delay as delay_word, End as end_word}
use Rattle.syntax.specs.Grammar.{strength}

-- the blocks around the one that is being read, innermost first, each with its statements so far, the last one first
pub data Outer : Type 0 where
  top : Outer
  then_in : Expr → List Stmt → Outer → Outer
  else_in : Expr → Stmt → List Stmt → Outer → Outer
  repeat_in : ℕ → List Stmt → Outer → Outer

-- the statements of the innermost block so far, the last one first, and what is around it
abbrev pub Block : Type 0
Block = List Stmt × Outer

-- what the expression that is being read is for
pub data Goal : Type 0 where
  assign_to : ℕ → Block → Goal
  condition_in : Block → Goal
  delay_in : (out counter : ℕ) → Block → Goal

-- what waits for the operand that comes next: a left operand with its operator, or a bracket with the nots before it
pub data Pending : Type 0 where
  whole : Goal → Pending
  right_of : Op → Expr → Pending → Pending
  bracket : ℕ → Pending → Pending

pub data State : Type 0 where
  statement : Block → State
  name_read : ℕ → Block → State
  repeat_read : Block → State
  rounds_read : ℕ → Block → State
  delay_read : Block → State
  out_read : ℕ → Block → State
  out_comma : ℕ → Block → State
  counter_read : (out counter : ℕ) → Block → State
  length_next : (out counter : ℕ) → Expr → Block → State
  ended : Stmt → Block → State
  operand : ℕ → Pending → State
  operated : Pending → Expr → State

-- a block's statements so far, and then s
unfoldable pub closed : List Stmt → Stmt → Stmt
closed [] s = s
closed (t ∷ acc) s = closed acc (seq t s)

-- one more statement in the innermost block
abbrev pub push : Stmt → Block → Block
push s b = (s ∷ b.0, b.1)

unfoldable pub inverts : ℕ → Expr → Expr
inverts zero e = e
inverts (suc k) e = inverts k (invert e)

-- what binds at least as tightly as an operator of strength l is joined before it
unfoldable pub climb : ℕ → Pending → Expr → Pending × Expr
climb l (whole g) e = (whole g, e)
climb l (bracket k p) e = (bracket k p, e)
climb l (right_of o a p) e = cond (nat_le (strength o) l) (climb l p (binary o a e)) (right_of o a p, e)

-- what waits binds at most as tightly as level l
abbrev pub Above : Pending → ℕ → Type 0
Above (whole g) l = Unit {0}
Above (bracket k p) l = Unit {0}
Above (right_of o a p) l = l ≤ strength o

-- two marks are the same
abbrev pub same_mark : Mark → Mark → Bool
same_mark m m' = code m == code m'

-- a token is a mark
abbrev pub is_mark : Mark → Token → Bool
is_mark m (number n) = false
is_mark m (name i) = false
is_mark m (operator o) = false
is_mark m (mark m') = same_mark m m'

-- a state that only one mark leads to
unfoldable pub only : Mark → Mark → State → Option State
only m m' s = cond (same_mark m m') (some s) none

-- a mark after an operand: all is joined up to the bracket or the whole expression
unfoldable pub finish : Pending → Expr → Mark → Option State
finish (whole (assign_to i b)) e m = only semicolon m (statement (push (assign i e) b))
finish (whole (condition_in b)) e m = only then_word m (statement ([], then_in e b.0 b.1))
finish (whole (delay_in out counter b)) e m = only comma m (length_next out counter e b)
finish (bracket k p) e m = only close_mark m (operated p (inverts k e))
finish (right_of o a p) e m = finish p (binary o a e) m

-- else and end close a block
unfoldable pub on_else : List Stmt → Outer → Option State
on_else ss top = none
on_else ss (then_in e acc k) = some (statement ([], else_in e (closed ss skip) acc k))
on_else ss (else_in e t acc k) = none
on_else ss (repeat_in n acc k) = none

unfoldable pub on_end : List Stmt → Outer → Option State
on_end ss top = none
on_end ss (then_in e acc k) = none
on_end ss (else_in e t acc k) = some (ended (branch e t (closed ss skip)) (acc, k))
on_end ss (repeat_in n acc k) = some (ended (repeat n (closed ss skip)) (acc, k))

unfoldable pub begin : Mark → Block → Option State
begin if_word b = some (operand 0 (whole (condition_in b)))
begin repeat_word b = some (repeat_read b)
begin delay_word b = some (delay_read b)
begin else_word b = on_else b.0 b.1
begin end_word b = on_end b.0 b.1
begin not_word b = none
begin open_mark b = none
begin close_mark b = none
begin assign_mark b = none
begin semicolon b = none
begin comma b = none
begin then_word b = none
begin times_word b = none

unfoldable pub prefix : Mark → ℕ → Pending → Option State
prefix not_word k p = some (operand (suc k) p)
prefix open_mark k p = some (operand 0 (bracket k p))
prefix close_mark k p = none
prefix assign_mark k p = none
prefix semicolon k p = none
prefix comma k p = none
prefix if_word k p = none
prefix then_word k p = none
prefix else_word k p = none
prefix repeat_word k p = none
prefix times_word k p = none
prefix delay_word k p = none
prefix end_word k p = none

-- one token
unfoldable pub step : State → Token → Option State
step (statement b) (number n) = none
step (statement b) (name i) = some (name_read i b)
step (statement b) (operator o) = none
step (statement b) (mark m) = begin m b
step (name_read i b) (number n) = none
step (name_read i b) (name j) = none
step (name_read i b) (operator o) = none
step (name_read i b) (mark m) = only assign_mark m (operand 0 (whole (assign_to i b)))
step (repeat_read b) (number n) = some (rounds_read n b)
step (repeat_read b) (name i) = none
step (repeat_read b) (operator o) = none
step (repeat_read b) (mark m) = none
step (rounds_read n b) (number m) = none
step (rounds_read n b) (name i) = none
step (rounds_read n b) (operator o) = none
step (rounds_read n b) (mark m) = only times_word m (statement ([], repeat_in n b.0 b.1))
step (delay_read b) (number n) = none
step (delay_read b) (name i) = some (out_read i b)
step (delay_read b) (operator o) = none
step (delay_read b) (mark m) = none
step (out_read i b) (number n) = none
step (out_read i b) (name j) = none
step (out_read i b) (operator o) = none
step (out_read i b) (mark m) = only comma m (out_comma i b)
step (out_comma i b) (number n) = none
step (out_comma i b) (name j) = some (counter_read i j b)
step (out_comma i b) (operator o) = none
step (out_comma i b) (mark m) = none
step (counter_read i j b) (number n) = none
step (counter_read i j b) (name k) = none
step (counter_read i j b) (operator o) = none
step (counter_read i j b) (mark m) = only comma m (operand 0 (whole (delay_in i j b)))
step (length_next i j e b) (number n) = some (ended (delay i j e n) b)
step (length_next i j e b) (name k) = none
step (length_next i j e b) (operator o) = none
step (length_next i j e b) (mark m) = none
step (ended s b) (number n) = none
step (ended s b) (name i) = none
step (ended s b) (operator o) = none
step (ended s b) (mark m) = only semicolon m (statement (push s b))
step (operand k p) (number n) = some (operated p (inverts k (lit n)))
step (operand k p) (name i) = some (operated p (inverts k (var i)))
step (operand k p) (operator o) = none
step (operand k p) (mark m) = prefix m k p
step (operated p e) (number n) = none
step (operated p e) (name i) = none
step (operated p e) (operator o) = some (let c = climb (strength o) p e in operand 0 (right_of o c.1 c.0))
step (operated p e) (mark m) = finish p e m

-- the program that has been read, where it may end
unfoldable pub at_top : List Stmt → Outer → Option Stmt
at_top ss top = some (closed ss skip)
at_top ss (then_in e acc k) = none
at_top ss (else_in e t acc k) = none
at_top ss (repeat_in n acc k) = none

unfoldable pub whole_program : State → Option Stmt
whole_program (statement b) = at_top b.0 b.1
whole_program (name_read i b) = none
whole_program (repeat_read b) = none
whole_program (rounds_read n b) = none
whole_program (delay_read b) = none
whole_program (out_read i b) = none
whole_program (out_comma i b) = none
whole_program (counter_read i j b) = none
whole_program (length_next i j e b) = none
whole_program (ended s b) = none
whole_program (operand k p) = none
whole_program (operated p e) = none

unfoldable pub start : State
start = statement ([], top)

-- a tree, or the first place at which no program goes on so
pub data Parsed : Type 0 where
  accepted : Stmt → Parsed
  refused : ℕ → Parsed

-- the automaton on the tokens from place i on
unfoldable pub run : ℕ → State → List Token → Parsed
run i s [] = elim (whole_program s) [ some p ↦ accepted p | none ↦ refused i ]
run i s (t ∷ ts) = elim (step s t) [ some s' ↦ run (suc i) s' ts | none ↦ refused i ]

unfoldable pub parse : List Token → Parsed
parse ts = run 0 start ts
