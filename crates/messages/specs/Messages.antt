-- What the line says that a refused project or script ends a program with. Assumes nothing: these are definitions.
use Rattle.std.specs.Prelude.{◌≡◌, ℕ, ◌+◌, ◌<◌, ◌≤◌, min, cond, List, [], ◌++◌, length, Ok, Err, codes, Result, ◌==◌}
use Rattle.base.specs.declared.Refusal.{Refusal}
use Rattle.base.specs.declared.Refusal.TheVariants.{Token as BadToken, Program as NoProgram, Limit, Room, Length, Off, Time, Stamp, Point}
use Rattle.base.specs.Refusals.{place_of}
use Rattle.lexer.specs.declared.Token.{Token}
use Rattle.lexer.specs.Outcome.{PlaceOfToken}
use Rattle.lines.specs.Words.{lines_on}
use Rattle.headers.specs.Header.{Plan, read_project}
use Rattle.loading.specs.Loading.{CutUp}
use Rattle.loading.specs.declared.load.Failure.{Failure}
use Rattle.loading.specs.declared.load.Failure.TheVariants.{Memory, Header, Program, Script}
use Rattle.messages.specs.MessageText.{line_place, message}

-- where a project's program begins in its text, and the program's text; of a header that can't be read the whole text
abbrev pub start_in : Result Plan ℕ → ℕ
start_in (Ok h) = h.at
start_in (Err p) = 0

abbrev pub text_in : List ℕ → Result Plan ℕ → List ℕ
text_in text (Ok h) = h.program
text_in text (Err p) = text

abbrev pub program_start : List ℕ → ℕ
program_start text = start_in (read_project text)

abbrev pub program_text : List ℕ → List ℕ
program_text text = text_in text (read_project text)

-- where the line stands that begins with a word
abbrev pub header_line : (text word : List ℕ) → ℕ
header_line text word = line_place word (lines_on 0 [] text)

-- what is said of a limit: 0 cost, 1 height, 2 depth
abbrev pub limit_text : ℕ → List ℕ
limit_text k =
    cond (k == 0) (codes "the program costs more than 20000")
    (cond (k == 1) (codes "the program needs more than 32 values at a time")
    (codes "the program has more than 8 repetitions one in another"))

-- one thing of a refusal 1, by its place, and another of any other refusal
abbrev pub by_token : {A : Type 0} → Refusal → (ℕ → A) → A → A
by_token (BadToken p) of-token other = of-token p
by_token (NoProgram p) of-token other = other
by_token (Limit p) of-token other = other
by_token (Room p) of-token other = other
by_token (Length p) of-token other = other
by_token Off of-token other = other
by_token Time of-token other = other
by_token Stamp of-token other = other
by_token (Point p) of-token other = other

-- where a header is wrong: at the word that does not fit, or else in its line `kept`
abbrev pub header_place : List ℕ → Refusal → ℕ
header_place text e = by_token e (λ p. p) (header_line text (codes "kept"))

abbrev pub header_sentence : Refusal → List ℕ
header_sentence e = by_token e (λ _. codes "this does not belong here in a header") (codes "more than 64 variables are kept")

-- where a token of a program that begins at `start` stands in a project's text, one of n: where it begins; past the last one where the text ends
abbrev pub TokenStands : (text program : List ℕ) → (start n i at : ℕ) → Type 0
TokenStands text program start n i at =
    (i < n → (q : ℕ) × PlaceOfToken program i q × (at ≡ min (length text) (start + q))) × (n ≤ i → at ≡ length text)

-- a line at this place, with some sentence
pub record PointsAt (file text : List ℕ) (at : ℕ) (e : Refusal) (line : List ℕ) : Type 0 where
  pub sentence : List ℕ
  pub is : line ≡ message file text at e sentence

-- a line that points at token i of a program
pub record Mismatched (file text : List ℕ) (start : ℕ) (program : List ℕ) (i : ℕ) (line : List ℕ) : Type 0 where
  pub at : ℕ
  pub points : PointsAt file text at (NoProgram i) line
  pub stands : (ts : List Token) → CutUp program ts → TokenStands text program start (length ts) i at

-- what is said of a program: at the character, at the token, or at the line `program`
abbrev pub LimitSays : (file text : List ℕ) → Refusal → (line : List ℕ) → Type 0
LimitSays file text e line = line ≡ message file text (header_line text (codes "program")) e (limit_text (place_of e))

abbrev pub ProgramSays : (file text : List ℕ) → Refusal → (line : List ℕ) → Type 0
ProgramSays file text (BadToken p) line = PointsAt file text (min (length text) (program_start text + p)) (BadToken p) line
ProgramSays file text (NoProgram i) line = Mismatched file text (program_start text) (program_text text) i line
ProgramSays file text (Limit k) line = LimitSays file text (Limit k) line
ProgramSays file text (Room k) line = LimitSays file text (Room k) line
ProgramSays file text (Length k) line = LimitSays file text (Length k) line
ProgramSays file text Off line = LimitSays file text Off line
ProgramSays file text Time line = LimitSays file text Time line
ProgramSays file text Stamp line = LimitSays file text Stamp line
ProgramSays file text (Point k) line = LimitSays file text (Point k) line

-- the line names the file, a line and a column of its text, the refusal's number and place, and ends with a sentence
pub record Points (file text : List ℕ) (e : Refusal) (line : List ℕ) : Type 0 where
  pub at : ℕ
  pub sentence : List ℕ
  pub is : line ≡ message file text at e sentence

-- what is said of a failure
abbrev pub Says : (file project script : List ℕ) → Failure → (line : List ℕ) → Type 0
Says file project script Memory line = line ≡ file ++ codes ": out of memory"
Says file project script (Header e) line = Points file project e line
Says file project script (Program e) line = Points file project e line
Says file project script (Script e) line = line ≡ message (codes "script") script (place_of e) e (codes "no event goes on so")

-- and exactly where it points: at the word of a header, at the character or the token of a program, or at the line that passes a limit
abbrev pub SaysWhere : (file project script : List ℕ) → Failure → (line : List ℕ) → Type 0
SaysWhere file project script Memory line = line ≡ file ++ codes ": out of memory"
SaysWhere file project script (Header e) line = line ≡ message file project (header_place project e) e (header_sentence e)
SaysWhere file project script (Program e) line = ProgramSays file project e line
SaysWhere file project script (Script e) line = line ≡ message (codes "script") script (place_of e) e (codes "no event goes on so")
