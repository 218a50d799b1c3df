-- What holds of every text. Assumes nothing: these are statements.
use Rattle.std.specs.Prelude.{◌≡◌, ℕ, true, List, [], ◌∷◌, ◌++◌, length, take, drop, Some}
use Rattle.std.specs.Str.{chars}
use Rattle.lexer.specs.declared.Token.{Token}
use Rattle.lexer.specs.Token.{blank, Spells, Cuts}
use Rattle.lexer.specs.Text.{token_text}
use Rattle.lexer.specs.Pairs.{kind, value, pairs, tokens_in, token_if}
use Rattle.lexer.specs.Outcome.{Whole, Broken}

-- a text is cut in at most one way
abbrev pub OneWay : Type 0
OneWay = (text : List ℕ) (ts us : List Token) → Cuts text ts [] → Cuts text us [] → ts ≡ us

-- a text that is refused can't be cut into at most 4,096 tokens
abbrev pub RefusedRightly : Type 0
RefusedRightly = (text : List ℕ) (p n : ℕ) → Broken text p → Whole text n → ⊥

-- a text is refused at one place
abbrev pub OnePlace : Type 0
OnePlace = (text : List ℕ) (p q : ℕ) → Broken text p → Broken text q → p ≡ q

-- the place is counted in bytes and in characters alike
abbrev pub PlaceInCharacters : Type 0
PlaceInCharacters =
    (text : List ℕ) (p : ℕ) → Broken text p → (chars text ≡ chars (take p text) ++ chars (drop p text)) × (length (chars (take p text)) ≡ p)

-- where there is a blank, one more changes nothing
abbrev pub BlanksAlike : Type 0
BlanksAlike =
    (front rest : List ℕ) (b c : ℕ) (ts : List Token) → blank b ≡ true → blank c ≡ true →
    (Cuts (front ++ b ∷ rest) ts [] → Cuts (front ++ b ∷ c ∷ rest) ts []) × (Cuts (front ++ b ∷ c ∷ rest) ts [] → Cuts (front ++ b ∷ rest) ts [])

-- between two tokens, before the first and after the last, a blank changes nothing
abbrev pub BlanksBetween : Type 0
BlanksBetween =
    (front rest : List ℕ) (b : ℕ) (ts us : List Token) → blank b ≡ true → Cuts front ts rest → Cuts rest us [] → Cuts (front ++ b ∷ rest) (ts ++ us) []

-- tokens laid out in pairs are read back as they were
abbrev pub PairsBack : Type 0
PairsBack = (ts : List Token) → tokens_in (pairs ts) ≡ ts

-- the pair of a token that can be written is a token's pair, and that token's
abbrev pub PairIsToken : Type 0
PairIsToken = (w : List ℕ) (t : Token) → Spells w t → token_if (kind t) (value t) ≡ Some t

-- a token's pair is the only one that is this token
abbrev pub OnePair : Type 0
OnePair = (k v : ℕ) (t : Token) → token_if k v ≡ Some t → (kind t ≡ k) × (value t ≡ v)

-- what is written for a token that a text can have is a spelling of it
abbrev pub TextIsSpelling : Type 0
TextIsSpelling = (w : List ℕ) (t : Token) → Spells w t → Spells (token_text t) t
