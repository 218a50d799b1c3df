use Rattle.semantics.proofs.interpreter.Scan.+value.Given as goal

abbrev pub decreases-value : goal.decreases-value
decreases-value l = l.i
