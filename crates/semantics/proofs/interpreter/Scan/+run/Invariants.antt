use Rattle.semantics.specs.Evaluated.{SameScan}
use Rattle.semantics.proofs.Evaluating.{RoundsLeft}
use Rattle.semantics.proofs.interpreter.Scan.+run.Given as goal

abbrev pub decreases-run : goal.decreases-run
decreases-run l = l.i

abbrev pub invariant-loop-round : goal.invariant-loop-round
invariant-loop-round l =
    let r = l.initial.self in
    record { same : SameScan r l.self; left : RoundsLeft r.nodes.now l.body r.elapsed l.rounds l._round r.vars.now r.fault l.self.vars.now l.self.fault }
