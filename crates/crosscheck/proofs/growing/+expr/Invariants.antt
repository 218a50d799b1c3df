use Rattle.crosscheck.proofs.growing.+expr.Given as goal

abbrev pub decreases-expr : goal.decreases-expr
decreases-expr l = l.fuel
