-- What `tokenize` answers, and what the room holds afterwards. Assumes nothing: these are definitions.
use Rattle.std.specs.Prelude.{◌≡◌, ℕ, ◌*◌, ◌<◌, ◌≤◌, false, ◌⊎◌, List, [], ◌++◌, length, drop, Ok, Err, Result, ◌≢◌, slice_index}
use Rattle.base.specs.declared.Refusal.{Refusal}
use Rattle.base.specs.declared.Refusal.TheVariants.{Token as BadToken, Program, Limit, Room, Length, Off, Time, Stamp, Point}
use Rattle.lexer.specs.declared.Token.{Token}
use Rattle.lexer.specs.Token.{blank, Cuts, Stuck}
use Rattle.lexer.specs.Pairs.{pairs}

-- the text is cut into n tokens, and these are not too many
pub record Whole (text : List ℕ) (n : ℕ) : Type 0 where
  pub tokens : List Token
  pub cuts : Cuts text tokens []
  pub count : length tokens ≡ n
  pub few : n ≤ 4096

-- the text is cut up to the place p, and there no token begins, or one too many would
pub record Broken (text : List ℕ) (p : ℕ) : Type 0 where
  pub front : List ℕ
  pub rest : List ℕ
  pub tokens : List Token
  pub split : front ++ rest ≡ text
  pub place : length front ≡ p
  pub more : 0 < length rest
  pub solid : blank (slice_index rest 0) ≡ false
  pub cuts : Cuts front tokens rest
  pub few : length tokens ≤ 4096
  pub wrong : (length tokens ≡ 4096) ⊎ Stuck rest

-- what counting the tokens of a text answers
abbrev pub Counted : List ℕ → Result ℕ Refusal → Type 0
Counted text (Ok n) = Whole text n
Counted text (Err e) = (p : ℕ) × (e ≡ BadToken p) × Broken text p

-- the room holds the text's tokens in front, and is as it was from there on
pub record Written (text room room₁ : List ℕ) (n : ℕ) : Type 0 where
  pub tokens : List Token
  pub cuts : Cuts text tokens []
  pub count : length tokens ≡ n
  pub fits : 2 * n ≤ length room
  pub holds : room₁ ≡ pairs tokens ++ drop (2 * n) room

-- why a text and a room are refused: the text can't be cut, or it can and the room has another length than it should have
abbrev pub Refused : (text room : List ℕ) → Refusal → Type 0
Refused text room (BadToken p) = Broken text p
Refused text room (Program p) = ⊥
Refused text room (Limit p) = ⊥
Refused text room (Room p) = ⊥
Refused text room (Length i) = (i ≡ 1) × ((n : ℕ) × Whole text n) × (length room ≢ 8192)
Refused text room Off = ⊥
Refused text room Time = ⊥
Refused text room Stamp = ⊥
Refused text room (Point p) = ⊥

-- what cutting a text into a room answers and leaves behind; what is refused changes nothing
abbrev pub Tokenized : (text room : List ℕ) → Result ℕ Refusal → List ℕ → Type 0
Tokenized text room (Ok n) room₁ = Written text room room₁ n × (n ≤ 4096) × (length room ≡ 8192)
Tokenized text room (Err e) room₁ = Refused text room e × (room₁ ≡ room)

-- token number i of the text, counted from 0, begins at the place p
pub record Begins (text : List ℕ) (i p : ℕ) : Type 0 where
  pub front : List ℕ
  pub rest : List ℕ
  pub tokens : List Token
  pub split : front ++ rest ≡ text
  pub place : length front ≡ p
  pub solid : blank (slice_index rest 0) ≡ false
  pub cuts : Cuts front tokens rest
  pub count : length tokens ≡ i

-- the place of a token in a text: it is in the text, and where the text has this token it begins there
abbrev pub PlaceOfToken : (text : List ℕ) → (i p : ℕ) → Type 0
PlaceOfToken text i p = (p ≤ length text) × ((n : ℕ) → Whole text n → i < n → Begins text i p)

-- where the text has fewer tokens, the place is its end
abbrev pub EndsIfFewer : (text : List ℕ) → (i p : ℕ) → Type 0
EndsIfFewer text i p = (n : ℕ) → Whole text n → n ≤ i → p ≡ length text
