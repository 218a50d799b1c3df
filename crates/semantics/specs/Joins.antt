-- The needs of a whole by those of its parts, in the numbers of the code. Assumes nothing: these are definitions.
use Rattle.std.specs.Prelude.{ℕ, ◌+◌, ◌*◌, min, max}
use Rattle.semantics.specs.declared.limits.Needs.{Needs}

-- needs by their numbers
abbrev pub told : (cost height depth reach : ℕ) → Needs
told c h d r = record { cost = c; height = h; depth = d; reach = r }

-- one instruction more; costs above 20,000 are told as 20,001
abbrev pub one_more : Needs → Needs
one_more a = told (min (a.cost + 1) 20001) a.height a.depth a.reach

-- over one value more
abbrev pub raised : Needs → Needs
raised a = told a.cost (a.height + 1) a.depth a.reach

-- one after the other
abbrev pub followed_by : Needs → Needs → Needs
followed_by a b = told (min (a.cost + b.cost) 20001) (max a.height b.height) (max a.depth b.depth) (max a.reach b.reach)

-- one or the other
abbrev pub either : Needs → Needs → Needs
either a b = told (max a.cost b.cost) (max a.height b.height) (max a.depth b.depth) (max a.reach b.reach)

-- so many rounds, with an instruction before the first and one at the end of each
abbrev pub repeated : (rounds : ℕ) → Needs → Needs
repeated n a = told (min (1 + n * (a.cost + 1)) 20001) a.height (a.depth + 1) a.reach

-- and this variable
abbrev pub reaching : (variable : ℕ) → Needs → Needs
reaching i a = told a.cost a.height a.depth (max a.reach (i + 1))
