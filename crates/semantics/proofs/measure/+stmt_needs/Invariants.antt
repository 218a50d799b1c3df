use Rattle.semantics.proofs.measure.+stmt_needs.Given as goal

abbrev pub decreases-stmt_needs : goal.decreases-stmt_needs
decreases-stmt_needs l = l.i
