-- What the walk over a text gives, token by token. Assumes nothing: these are definitions.
use Rattle.std.specs.Prelude.{◌≡◌, ℕ, ◌+◌, ◌<◌, ◌≤◌, ◌⊎◌, List, length, drop, Some, None, Option, MatchOption}
use Rattle.std.specs.List.{prefix_len}
use Rattle.lexer.specs.declared.Token.{Token}
use Rattle.lexer.specs.Token.{blank, Stuck, First}

-- the first place from p on at which no blank stands
abbrev pub solid_from : (text : List ℕ) (p : ℕ) → ℕ
solid_from text p = p + prefix_len blank (drop p text)

-- after n tokens in the first p bytes comes this, and the walk goes on after m tokens in the first q bytes
abbrev pub Gives : (text : List ℕ) (p n : ℕ) → Option (ℕ × Option Token) → (q m : ℕ) → Type 0
Gives text p n None q m = (solid_from text p ≡ length text) × (q ≡ p) × (m ≡ n)
Gives text p n (Some (at, o)) q m =
    (at ≡ solid_from text p) × (at < length text)
    × MatchOption o (((4096 ≤ n) ⊎ Stuck (drop at text)) × (q ≡ length text) × (m ≡ n)) (λ t. (n < 4096) × ((k : ℕ) × (q ≡ at + k) × First (drop at text) t k) × (m ≡ n + 1))
