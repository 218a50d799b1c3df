use Rattle.std.proofs.Common.{◌≡◌, ◌-◌, ◌++◌, vec_items}
use Rattle.base.specs.Stores.{cells}
use Rattle.project.specs.Play.{changed_from}
use Rattle.project.proofs.settings.changed_settings.Given as goal

-- the settings so far, and those still to come
abbrev pub invariant-loop-i : goal.invariant-loop-i
invariant-loop-i l = changed_from 0 64 (cells l.before) (cells l.shown) ≡ vec_items l.all ++ changed_from l.i (64 - l.i) (cells l.before) (cells l.shown)
