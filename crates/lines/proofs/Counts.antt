-- How many words of a line are left.
use Rattle.std.proofs.Common.{◌≡◌, ℕ, suc, ◌<◌, List, Some, None, Option, ap, arith}
use Rattle.lines.specs.Words.{Words, end, word}
use Rattle.lines.specs.Reading.{took, read_as, take}

-- how many words are left
abbrev pub word_count : Words → ℕ
word_count (end p) = 0
word_count (word p w ws) = suc (word_count ws)

read_left : {X : Type 0} (p : ℕ) (o : Option X) (x : X) (ws us : Words) → read_as p o ws ≡ took x us → word_count us ≡ word_count ws
read_left p None x ws us e = absurd (let z : ◌≡◌ {A = ℕ} 0 1 = cc in omega arith)
read_left p (Some y) x ws us e = let z : us ≡ ws = cc in ap word_count z

-- each word that is read is one less
pub take_falls : {X : Type 0} (f : List ℕ → Option X) (ws us : Words) (x : X) → take f ws ≡ took x us → word_count us < word_count ws
take_falls f (end p) us x e = absurd (let z : ◌≡◌ {A = ℕ} 0 1 = cc in omega arith)
take_falls f (word p w ws) us x e = let z = read_left p (f w) x ws us e in omega arith
