-- The writes of a commit that are still to come. Assumes nothing: these are definitions.
use Rattle.std.specs.Prelude.{ℕ, ◌+◌, List, [], ◌∷◌, ◌++◌, drop}
use Rattle.base.specs.Stores.{Store, cells}
use Rattle.retain.specs.declared.Write.{Write}
use Rattle.retain.specs.declared.slots.Target.{Target}
use Rattle.retain.specs.declared.writing.Writes.{Writes}
use Rattle.retain.specs.Device.{value_writes}

-- the writes of a commit to a target: the stamp, the values, the stamp
abbrev pub planned : ℕ → Target → Store → List Write
planned kept t v =
    record { cell = t.cell; value = t.stamp }
    ∷ (value_writes (t.cell + 1) v 0 kept ++ (record { cell = t.cell + 1 + kept; value = t.stamp } ∷ []))

-- those that are still to come, after the first `next` of them
abbrev pub to_come : Writes → List Write
to_come w = drop w.next (planned w.kept w.target (cells w.values.now))
