use Rattle.printer.proofs.Putting.{◌then◌}
use Rattle.printer.proofs.writer.Writer.put_delay.Goals as goal

pub returns-clause-puts : goal.returns-clause-puts
returns-clause-puts c = c.put_mark.ensures.puts then c.put.ensures.puts then c.put_mark-2.ensures.puts then c.put-2.ensures.puts then c.put_mark-3.ensures.puts
