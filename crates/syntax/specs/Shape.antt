-- Pairs of numbers that are tokens. Assumes nothing: these are definitions.
use Rattle.std.specs.Prelude.{◌≡◌, ℕ, ◌+◌, ◌*◌, ◌<◌, ◌≤◌, true, List, length, Some, None, Option, slice_index, slice_index_or}
use Rattle.lexer.specs.Pairs.{shaped}

-- pair j is whole, a token, and not one too many
pub record Fine (xs : List ℕ) (j : ℕ) : Type 0 where
  pub there : 2 * j + 2 ≤ length xs
  pub few : j < 4096
  pub word : slice_index_or xs (2 * j + 1) 0 < 65536
  pub is : shaped (slice_index xs (2 * j)) (slice_index xs (2 * j + 1)) ≡ true

-- the same of a pair that is cut out
abbrev pub IsFine : ℕ → List ℕ → Type 0
IsFine i pair = (i < 4096) × (length pair ≡ 2) × (shaped (slice_index pair 0) (slice_index pair 1) ≡ true)

-- every pair is
abbrev pub WellShaped : List ℕ → Type 0
WellShaped xs = (j : ℕ) → 2 * j < length xs → Fine xs j

-- the first pair that isn't
pub record Misshapen (xs : List ℕ) (i : ℕ) : Type 0 where
  pub there : 2 * i < length xs
  pub before : (j : ℕ) → j < i → Fine xs j
  pub here : Fine xs i → ⊥

-- what a search for it answers
abbrev pub Checked : List ℕ → Option ℕ → Type 0
Checked xs (Some i) = Misshapen xs i
Checked xs None = WellShaped xs
