-- Delays: the time that they count, and the two variables that they set. Assumes nothing: these are definitions.
use Rattle.std.specs.Prelude.{ℕ, ◌+◌, min, Bool, cond, ◌&&◌, nat_le}
use Rattle.base.specs.Stores.{Store, update}
use Rattle.base.specs.Words.{bit}

-- the time that a delay has counted: 0 where its condition is false, and at most the preset
abbrev pub counted : (elapsed count preset : ℕ) → Bool → ℕ
counted elapsed count preset c = cond c (min (count + elapsed) preset) 0

-- a delay's two variables: the counter counts, and the output is 1 once it is at the preset
abbrev pub delayed : (elapsed out counter preset : ℕ) → Bool → Store → Store
delayed elapsed out counter preset c s =
    update (update s counter (counted elapsed (s counter) preset c)) out (bit (c && nat_le preset (counted elapsed (s counter) preset c)))
