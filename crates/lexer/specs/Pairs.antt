-- Tokens as pairs of numbers, and back. Assumes nothing: these are definitions.
use Rattle.std.specs.Prelude.{ℕ, Bool, true, false, cond, ◌&&◌, List, [], ◌∷◌, Some, None, Option, ◌==◌, nat_lt}
use Rattle.base.specs.Ops.{op_code, op_of}
use Rattle.lexer.specs.declared.Mark.{Mark}
use Rattle.lexer.specs.declared.Mark.TheVariants.{Not, Open, Close, Assign, Semicolon, Comma, If, Then, Else, Repeat, Times, Delay, End}
use Rattle.lexer.specs.declared.Token.{Token}
use Rattle.lexer.specs.declared.Token.TheVariants.{Number as number, Name as name, Operator as operator, Mark as mark}

-- a mark's number
unfoldable pub code : Mark → ℕ
code Not = 0
code Open = 1
code Close = 2
code Assign = 3
code Semicolon = 4
code Comma = 5
code If = 6
code Then = 7
code Else = 8
code Repeat = 9
code Times = 10
code Delay = 11
code End = 12

-- the mark of a number; from 12 on End
unfoldable pub mark_of : ℕ → Mark
mark_of n =
    cond (n == 0) Not (cond (n == 1) Open (cond (n == 2) Close (cond (n == 3) Assign (cond (n == 4) Semicolon (cond (n == 5) Comma (cond (n == 6) If
    (cond (n == 7) Then (cond (n == 8) Else (cond (n == 9) Repeat (cond (n == 10) Times (cond (n == 11) Delay End)))))))))))

-- a token's kind: number, name, operator or mark
abbrev pub kind : Token → ℕ
kind (number n) = 0
kind (name i) = 1
kind (operator o) = 2
kind (mark m) = 3

-- which of its kind a token is
abbrev pub value : Token → ℕ
value (number n) = n
value (name i) = i
value (operator o) = op_code o
value (mark m) = code m

-- tokens laid out in numbers, two for each
unfoldable pub pairs : List Token → List ℕ
pairs [] = []
pairs (t ∷ ts) = kind t ∷ (value t ∷ pairs ts)

-- the token of a pair; where the pair is none, some token all the same
unfoldable pub token_of : ℕ → ℕ → Token
token_of k n = cond (k == 0) (number n) (cond (k == 1) (name n) (cond (k == 2) (operator (op_of n)) (mark (mark_of n))))

-- the tokens of a list of pairs; half a pair at the end is none
unfoldable pub tokens_in : List ℕ → List Token
tokens_in [] = []
tokens_in (k ∷ []) = []
tokens_in (k ∷ n ∷ xs) = token_of k n ∷ tokens_in xs

-- a pair of words is a token
abbrev pub shaped : (kind value : ℕ) → Bool
shaped k v = cond (k == 0) true (cond (k == 1) (nat_lt v 64) (cond (k == 2) (nat_lt v 8) (cond (k == 3) (nat_lt v 13) false)))

-- the token of a pair, if it is one
abbrev pub token_if : (kind value : ℕ) → Option Token
token_if k v = cond (shaped k v && nat_lt v 65536) (Some (token_of k v)) None
