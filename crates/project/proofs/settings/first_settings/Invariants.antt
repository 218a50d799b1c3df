use Rattle.std.proofs.Common.{◌≡◌, ◌-◌, ◌++◌, vec_items}
use Rattle.base.specs.Stores.{cells}
use Rattle.project.specs.Play.{values_from}
use Rattle.project.proofs.settings.first_settings.Given as goal

-- the settings so far, and those still to come
abbrev pub invariant-loop-i : goal.invariant-loop-i
invariant-loop-i l = values_from 0 l.count (cells l.values) ≡ vec_items l.all ++ values_from l.i (l.count - l.i) (cells l.values)
