use Rattle.controller.proofs.Pairs.{Handed}
use Rattle.controller.proofs.lent.hand_out.Given as goal

abbrev pub invariant-loop-i : goal.invariant-loop-i
invariant-loop-i l = Handed l.list l.initial.writes l.i l.writes
