-- What a stack in an array stands for. Assumes nothing: these are definitions.
use Rattle.std.specs.Prelude.{ℕ, zero, suc, List, [], ◌∷◌, slice_index}

-- the first so many of a row, the last of them on top
unfoldable pub stacked : List ℕ → ℕ → List ℕ
stacked xs zero = []
stacked xs (suc n) = slice_index xs n ∷ stacked xs n
