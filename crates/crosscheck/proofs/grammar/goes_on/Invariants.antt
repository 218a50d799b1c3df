use Rattle.std.proofs.Common.{vec_len}
use Rattle.crosscheck.proofs.grammar.goes_on.Given as goal

abbrev pub decreases-loop-goal : goal.decreases-loop-goal
decreases-loop-goal l = vec_len l.goals
