use Rattle.printer.proofs.PutStatements.{put_setting}
use Rattle.printer.proofs.writer.Writer.put_setting.Goals as goal

pub returns-in-Setting-clause-puts : goal.returns-in-Setting-clause-puts
returns-in-Setting-clause-puts c e n h =
    put_setting c.args.nodes.now c.in-Setting.condition c.in-Setting.length c.put_expr.ensures.puts c.put_mark.ensures.puts c.put.ensures.puts c.put_mark-in-Setting.ensures.puts e n (c.in-Setting.ensures.setting e n h)
