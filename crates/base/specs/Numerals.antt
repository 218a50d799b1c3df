-- Words that are numbers or names. Assumes nothing: these are definitions.
use Rattle.std.specs.Prelude.{ℕ, Bool, cond, not, ◌&&◌, List, [], ◌∷◌, length, Some, None, Option, ◌==◌, nat_lt, slice_index}
use Rattle.std.specs.Str.Parse.{digits_value}
use Rattle.std.specs.Str.{all_ascii_digits}

-- digits that write a number below 2^64; zeros may lead it
unfoldable pub number_of : List ℕ → Option ℕ
number_of w = cond (all_ascii_digits w && (nat_lt 0 (length w) && nat_lt (digits_value 10 w) 18446744073709551616)) (Some (digits_value 10 w)) None

-- is it a zero with more digits after it
abbrev pub zero_leads : List ℕ → Bool
zero_leads ds = nat_lt 1 (length ds) && slice_index ds 0 == 48

-- a `v` and a number that no zero leads
unfoldable pub name_of : List ℕ → Option ℕ
name_of [] = None
name_of (c ∷ ds) = cond (c == 118 && not (zero_leads ds)) (number_of ds) None
