-- A text read line by line. Assumes nothing: these are definitions.
use Rattle.std.specs.Prelude.{◌≡◌, ℕ, suc, ◌+◌, List, [], ◌∷◌, ◌++◌, length, Some, None, Option}
use Rattle.lines.specs.declared.line.Line.{Line}
use Rattle.lines.specs.Words.{Lines, last, line, lines_on}

-- the lines of what is left of a text
abbrev pub lines_of : Line → Lines
lines_of l = lines_on l.at [] l.text.now

-- a whole text is left
abbrev pub AllLeft : List ℕ → Option Line → Type 0
AllLeft text None = ⊥
AllLeft text (Some l) = (l.at ≡ 0) × (l.text.now ≡ text)

-- l is the first line of what is left of a text, and more follows
pub record FirstLine (left l more : Line) : Type 0 where
  pub at : l.at ≡ left.at
  pub parts : left.text.now ≡ l.text.now ++ (10 ∷ more.text.now)
  pub begins : more.at ≡ l.at + (length l.text.now + 1)
  pub lines : lines_of left ≡ line l.at l.text.now (lines_of more)

-- l is all that is left of a text
pub record LastLine (left l : Line) : Type 0 where
  pub at : l.at ≡ left.at
  pub whole : l.text.now ≡ left.text.now
  pub lines : lines_of left ≡ last l.at l.text.now

-- the next line of what is left of a text, if there is one, and what is left after it
abbrev pub Gives : (left next more : Option Line) → Type 0
Gives None next more = (next ≡ None) × (more ≡ None)
Gives (Some l) None more = ⊥
Gives (Some l) (Some n) None = LastLine l n
Gives (Some l) (Some n) (Some m) = FirstLine l n m

-- how many lines are left at most
abbrev pub lines_left : Option Line → ℕ
lines_left None = 0
lines_left (Some l) = suc (length l.text.now)
