-- Words read as numbers, names and keywords, one after another. Assumes nothing: these are definitions.
use Rattle.std.specs.Prelude.{◌≡◌, ℕ, Bool, true, false, cond, List, [], Some, None, Ok, Err, Option, Result, nat_lt}
use Rattle.std.specs.Str.{bytes_eq}
unfoldable pub use Rattle.base.specs.Numerals.{number_of, name_of}
use Rattle.lines.specs.declared.line.Line.{Line}
use Rattle.lines.specs.declared.words.ReadError.{ReadError}
use Rattle.lines.specs.declared.words.ReadError.TheVariants.{Memory, At}
use Rattle.lines.specs.Words.{Words, end, word, words_on}

-- the words of a line that are not read yet
unfoldable pub left : Line → Words
left l = words_on l.at [] l.text.now

-- a number that is below a limit
abbrev pub below : ℕ → Option ℕ → Option ℕ
below limit None = None
below limit (Some n) = cond (nat_lt n limit) (Some n) None

-- one of the 64 variables
abbrev pub variable_of : List ℕ → Option ℕ
variable_of w = below 64 (name_of w)

-- a number up to 65,535
abbrev pub value_of : List ℕ → Option ℕ
value_of w = below 65536 (number_of w)

-- what was read, and the words left; or the place of the first word that does not fit
pub data Took (X : Type 0) : Type 0 where
  took : X → Words → Took X
  wrong : ℕ → Took X

abbrev pub and_then : {X Y : Type 0} → Took X → (X → Words → Took Y) → Took Y
and_then (took x ws) k = k x ws
and_then (wrong p) k = wrong p

-- the next word with its place; where the line ends, its end does not fit
abbrev pub take_word : Words → Took (ℕ × List ℕ)
take_word (end p) = wrong p
take_word (word p w ws) = took (p, w) ws

-- what was made of the word at a place
abbrev pub read_as : {X : Type 0} → ℕ → Option X → Words → Took X
read_as p None ws = wrong p
read_as p (Some x) ws = took x ws

-- the next word, as f reads it
abbrev pub take : {X : Type 0} → (List ℕ → Option X) → Words → Took X
take f ws = and_then (take_word ws) (λ w us. read_as w.0 (f w.1) us)

-- wherever R says what is made of a word, it is what f says
abbrev pub Makes : {X : Type 0} → (List ℕ → Option X → Type 0) → (List ℕ → Option X) → Type 0
Makes {X} R f = (w : List ℕ) (o : Option X) → R w o → o ≡ f w

abbrev pub take_number : Words → Took ℕ
take_number = take number_of

abbrev pub take_name : Words → Took ℕ
take_name = take name_of

abbrev pub take_variable : Words → Took ℕ
take_variable = take variable_of

abbrev pub take_value : Words → Took ℕ
take_value = take value_of

-- this word and no other
abbrev pub take_keyword : List ℕ → Words → Took (Unit {0})
take_keyword k ws = and_then (take_word ws) (λ w us. cond (bytes_eq w.1 k) (took tt us) (wrong w.0))

-- is no word left
abbrev pub ended : Words → Bool
ended (end p) = true
ended (word p w ws) = false

-- where the next word stands, or the line ends
abbrev pub first_place : Words → ℕ
first_place (end p) = p
first_place (word p w ws) = p

-- no word
abbrev pub take_end : Words → Took (Unit {0})
take_end (end p) = took tt (end p)
take_end (word p w ws) = wrong p

-- the error is the place of t, or, under M, want of memory
abbrev pub Misses : {X : Type 0} → Type 0 → ReadError → Took X → Type 0
Misses M Memory t = M
Misses M (At p) t = t ≡ wrong p

-- r answers what t says, where y stands for `of y`; want of memory is answered only under M
abbrev pub Answers : {X Y : Type 0} → Type 0 → Result Y ReadError → (Y → Took X) → Took X → Type 0
Answers M (Ok y) of t = t ≡ of y
Answers M (Err e) of t = Misses M e t

-- what was read of a whole line
abbrev pub outcome : {X : Type 0} → Took X → Result X ℕ
outcome (took x ws) = Ok x
outcome (wrong p) = Err p

abbrev pub and_ok : {X Y : Type 0} → Result X ℕ → (X → Result Y ℕ) → Result Y ℕ
and_ok (Ok x) k = k x
and_ok (Err p) k = Err p

-- the same of what is read as a whole
abbrev pub Fails : {X : Type 0} → Type 0 → ReadError → Result X ℕ → Type 0
Fails M Memory t = M
Fails M (At p) t = t ≡ Err p

abbrev pub Reads : {X Y : Type 0} → Type 0 → Result Y ReadError → (Y → X) → Result X ℕ → Type 0
Reads M (Ok y) of t = t ≡ Ok (of y)
Reads M (Err e) of t = Fails M e t
