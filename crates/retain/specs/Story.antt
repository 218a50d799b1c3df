-- The story of kept values: saves that end and saves that a power cut breaks off. It knows no slots, stamps or cells. Assumes nothing: these are definitions.
use Rattle.std.specs.Prelude.{ℕ, suc, Bool, cond, List, [], ◌∷◌, nat_le, nat_lt}
use Rattle.base.specs.Stores.{Store}

-- a cut at write k of n leaves the old values before the last write, the next ones after it, and in the last write those that `new` tells
unfoldable pub cut_leaves : (n k : ℕ) (new : Bool) (old next : Store) → Store
cut_leaves n k new old next = cond (nat_lt (suc k) n) old (cond (nat_le n k) next (cond new next old))

-- a save that ended; and one that was cut at write k of so many, told whether the new values came out of a cut in the last one
pub data Step : Type 0 where
  finished : (values : Store) → Step
  interrupted : (values : Store) → (k writes : ℕ) → (new : Bool) → Step

-- the values after a row of such steps, the latest first
unfoldable pub story : (first : Store) → List Step → Store
story first [] = first
story first (finished values ∷ steps) = values
story first (interrupted values k writes new ∷ steps) = cut_leaves writes k new (story first steps) values
