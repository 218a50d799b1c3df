use Rattle.base.specs.Stores.{cells}
use Rattle.controller.proofs.Filled.{Filled}
use Rattle.controller.proofs.lent.first_values.Given as goal

abbrev pub invariant-loop-i : goal.invariant-loop-i
invariant-loop-i l = Filled l.i (cells l.firsts) l.values
