use Rattle.std.proofs.Common.{◌+◌, ◌-◌, ◌*◌}
use Rattle.printer.proofs.writer.Writer.+put_expr.Given as goal

abbrev pub decreases-put_expr : goal.decreases-put_expr
decreases-put_expr l = 6 * l.i + (5 - l.level)
