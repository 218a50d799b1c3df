-- How tokens are written, and what it is for a text to be cut into them. Assumes nothing: these are definitions.
use Rattle.std.specs.Prelude.{◌≡◌, ℕ, ◌<◌, ◌≤◌, Bool, true, false, ◌||◌, List, [], ◌∷◌, ◌++◌, length, take, drop, codes, decimal, ◌==◌, slice_index}
use Rattle.std.specs.Str.Parse.{digits_value, IsNumeral}
use Rattle.std.specs.Char.{is_ascii_alphanumeric}
use Rattle.base.specs.declared.Op.{Op}
use Rattle.base.specs.declared.Op.TheVariants.{Add, Sub, Mul, Div, Less, Equal, And, Or}
use Rattle.lexer.specs.declared.Mark.{Mark}
use Rattle.lexer.specs.declared.Mark.TheVariants.{Not, Open, Close, Assign, Semicolon, Comma, If, Then, Else, Repeat, Times, Delay, End}
use Rattle.lexer.specs.declared.Token.{Token}
use Rattle.lexer.specs.declared.Token.TheVariants.{Number as number, Name as name, Operator as operator, Mark as mark}

-- a blank, a tab or a line end
abbrev pub blank : ℕ → Bool
blank b = (b == 32 || b == 9) || (b == 10 || b == 13)

-- how an operation is written
abbrev pub operation : Op → List ℕ
operation Add = codes "+"
operation Sub = codes "-"
operation Mul = codes "*"
operation Div = codes "/"
operation Less = codes "<"
operation Equal = codes "="
operation And = codes "and"
operation Or = codes "or"

-- how a mark is written
abbrev pub marking : Mark → List ℕ
marking Not = codes "not"
marking Open = codes "("
marking Close = codes ")"
marking Assign = codes ":="
marking Semicolon = codes ";"
marking Comma = codes ","
marking If = codes "if"
marking Then = codes "then"
marking Else = codes "else"
marking Repeat = codes "repeat"
marking Times = codes "times"
marking Delay = codes "delay"
marking End = codes "end"

-- the bytes w are a spelling of the token: a number in decimal, leading zeros allowed, a name with none, and every other token in its one way
abbrev pub Spells : List ℕ → Token → Type 0
Spells w (number n) = IsNumeral 10 w × (digits_value 10 w ≡ n) × (n < 65536)
Spells w (name i) = (w ≡ 118 ∷ decimal i) × (i < 64)
Spells w (operator o) = w ≡ operation o
Spells w (mark m) = w ≡ marking m

-- a token that has more than one spelling, or of which there are many
abbrev pub Varied : Token → Type 0
Varied (number n) = Unit {0}
Varied (name i) = Unit {0}
Varied (operator o) = ⊥
Varied (mark m) = ⊥

-- a piece of letters and digits is not followed by another letter or digit
abbrev pub Parted : List ℕ → List ℕ → Type 0
Parted w bs = is_ascii_alphanumeric (slice_index w 0) ≡ true → is_ascii_alphanumeric (slice_index bs 0) ≡ false

-- the front of a text, as it stands before the rest, is cut into tokens, with blanks between them
pub data Cuts : List ℕ → List Token → List ℕ → Type 0 where
  none : {rest : List ℕ} → Cuts [] [] rest
  skip : {b : ℕ} {bs : List ℕ} {ts : List Token} {rest : List ℕ} → blank b ≡ true → Cuts bs ts rest → Cuts (b ∷ bs) ts rest
  piece : (w : List ℕ) {bs : List ℕ} (t : Token) {ts : List Token} {rest : List ℕ} → Spells w t → Parted w (bs ++ rest) → Cuts bs ts rest → Cuts (w ++ bs) (t ∷ ts) rest

-- no token begins here
abbrev pub Stuck : List ℕ → Type 0
Stuck rest = (w bs : List ℕ) (t : Token) → rest ≡ w ++ bs → Spells w t → Parted w bs → ⊥

-- a token begins here, and its spelling is n bytes long
pub record First (rest : List ℕ) (t : Token) (n : ℕ) : Type 0 where
  pub some : 0 < n
  pub within : n ≤ length rest
  pub spells : Spells (take n rest) t
  pub parted : Parted (take n rest) (drop n rest)
