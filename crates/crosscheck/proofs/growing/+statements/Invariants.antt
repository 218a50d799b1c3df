use Rattle.crosscheck.proofs.growing.+statements.Given as goal

abbrev pub decreases-statements : goal.decreases-statements
decreases-statements l = l.fuel
