-- Which limit a program passes. Assumes nothing: these are definitions.
use Rattle.std.specs.Prelude.{ℕ, None, Option, nat_le}
use Rattle.base.specs.Refusals.{unless}

-- refused by the first limit that is passed: 20,000 instructions, 32 values at a time, 8 repetitions one in another
abbrev pub passes_limit : (cost height depth : ℕ) → Option (ℕ × ℕ)
passes_limit cost height depth = unless (nat_le cost 20000) 3 0 (unless (nat_le height 32) 3 1 (unless (nat_le depth 8) 3 2 None))
