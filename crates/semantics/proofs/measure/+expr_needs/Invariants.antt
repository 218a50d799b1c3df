use Rattle.semantics.proofs.measure.+expr_needs.Given as goal

abbrev pub decreases-expr_needs : goal.decreases-expr_needs
decreases-expr_needs l = l.i
