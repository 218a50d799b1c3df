-- Messages for people: where in a file something is refused, its number and place, and a sentence. Assumes nothing: these are definitions.
use Rattle.std.specs.Prelude.{ℕ, ◌+◌, cond, List, [], ◌∷◌, ◌++◌, length, take, Some, None, codes, decimal, Option, ◌==◌}
use Rattle.std.specs.Option.{unwrap_or}
use Rattle.std.specs.Str.{bytes_eq}
use Rattle.base.specs.declared.Refusal.{Refusal}
use Rattle.base.specs.Refusals.{number_of, place_of}
use Rattle.lines.specs.Words.{words_on, Lines, last, line}
use Rattle.lines.specs.Reading.{Took, took, wrong, take_word}

-- how many line feeds stand in bs
unfoldable pub line_feeds : List ℕ → ℕ
line_feeds [] = 0
line_feeds (b ∷ bs) = cond (b == 10) 1 0 + line_feeds bs

-- how many bytes stand after the last line feed of bs, where n stood before bs
unfoldable pub since_feed : ℕ → List ℕ → ℕ
since_feed n [] = n
since_feed n (b ∷ bs) = since_feed (cond (b == 10) 0 (n + 1)) bs

-- the line and the column of a place, both from 1
abbrev pub line_at : List ℕ → ℕ → ℕ
line_at text place = 1 + line_feeds (take place text)

abbrev pub column_at : List ℕ → ℕ → ℕ
column_at text place = 1 + since_feed 0 (take place text)

-- where a line's first word stands, if it is this one
abbrev pub keyword_place : List ℕ → Took (ℕ × List ℕ) → Option ℕ
keyword_place k (took w ws) = cond (bytes_eq w.1 k) (Some w.0) None
keyword_place k (wrong p) = None

-- where the first line that begins with this word has it; the end of the text if there is none
unfoldable pub line_place : List ℕ → Lines → ℕ
line_place k (last at bs) = unwrap_or (keyword_place k (take_word (words_on at [] bs))) (at + length bs)
line_place k (line at bs ls) = unwrap_or (keyword_place k (take_word (words_on at [] bs))) (line_place k ls)

-- the whole message: file, line and column of a place in its text, the refusal's number and place, and a sentence
abbrev pub message : (file text : List ℕ) (at : ℕ) → Refusal → (sentence : List ℕ) → List ℕ
message file text at refusal sentence =
    file ++ (codes ":" ++ (decimal (line_at text at) ++ (codes ":" ++ (decimal (column_at text at) ++ (codes ": refused " ++ (decimal (number_of refusal) ++ (codes " at " ++ (decimal (place_of refusal) ++ (codes ": " ++ sentence)))))))))
