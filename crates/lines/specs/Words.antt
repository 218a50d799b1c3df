-- A text cut into lines, and a line into words, each with the place of its first character. Assumes nothing: these are definitions.
use Rattle.std.specs.Prelude.{ℕ, ◌+◌, Bool, cond, List, [], ◌∷◌, ◌++◌, length, ◌==◌}
use Rattle.std.specs.Char.{char_set_contains}

-- the lines of a text, each with its place; there is always a last one, which no line feed ends
pub data Lines : Type 0 where
  last : ℕ → List ℕ → Lines
  line : ℕ → List ℕ → Lines → Lines

-- a text from the place `at` on, of whose first line `seen` was read
unfoldable pub lines_on : ℕ → List ℕ → List ℕ → Lines
lines_on at seen [] = last at seen
lines_on at seen (b ∷ bs) =
    cond (b == 10) (line at seen (lines_on (at + length seen + 1) [] bs)) (lines_on at (seen ++ (b ∷ [])) bs)

-- the words of a line, each with its place, and the place where the line ends
pub data Words : Type 0 where
  end : ℕ → Words
  word : ℕ → List ℕ → Words → Words

-- spaces, tabs and carriage returns part words
unfoldable pub blank : ℕ → Bool
blank b = char_set_contains (32 ∷ 9 ∷ 13 ∷ []) b

-- a word, unless it is empty, and the words after it
abbrev pub then_words : ℕ → List ℕ → Words → Words
then_words at [] ws = ws
then_words at (b ∷ bs) ws = word at (b ∷ bs) ws

-- a line from the place `at` on, of whose first word `seen` was read; a colon is a word by itself
unfoldable pub words_on : ℕ → List ℕ → List ℕ → Words
words_on at seen [] = then_words at seen (end (at + length seen))
words_on at seen (b ∷ bs) =
    cond (blank b) (then_words at seen (words_on (at + length seen + 1) [] bs))
    (cond (b == 58) (then_words at seen (word (at + length seen) (58 ∷ []) (words_on (at + length seen + 1) [] bs)))
    (words_on at (seen ++ (b ∷ [])) bs))
