use Rattle.syntax.proofs.OtherNodes.{only_skip}
use Rattle.printer.proofs.PutStatements.{put_assign, put_seq, put_branch, put_repeat, put_delay_lem, put_skip}
use Rattle.printer.proofs.writer.Writer.+put_stmt.Goals as goal

pub returns-in-Assign-clause-puts : goal.returns-in-Assign-clause-puts
returns-in-Assign-clause-puts t c s h =
    put_assign c.args.nodes.now c.in-Assign.variable c.in-Assign.value c.put.ensures.puts c.put_mark.ensures.puts c.put_expr.ensures.puts c.put_mark-in-Assign.ensures.puts s (c.in-Assign.ensures.stmt s h)

pub returns-in-Seq-clause-puts : goal.returns-in-Seq-clause-puts
returns-in-Seq-clause-puts t c s h = put_seq c.args.nodes.now c.in-Seq.first c.in-Seq.second c.put_stmt.ensures.puts c.put_stmt-in-Seq.ensures.puts s (c.in-Seq.ensures.stmt s h)

pub returns-in-Branch-clause-puts : goal.returns-in-Branch-clause-puts
returns-in-Branch-clause-puts t c s h =
    put_branch c.args.nodes.now c.in-Branch.condition c.in-Branch.yes c.in-Branch.no c.put_mark-in-Branch.ensures.puts c.put_expr-in-Branch.ensures.puts c.put_mark-in-Branch-2.ensures.puts c.put_stmt-in-Branch.ensures.puts
    c.put_mark-in-Branch-3.ensures.puts c.put_stmt-in-Branch-2.ensures.puts c.put_end.ensures.puts s (c.in-Branch.ensures.stmt s h)

pub returns-in-Repeat-clause-puts : goal.returns-in-Repeat-clause-puts
returns-in-Repeat-clause-puts t c s h =
    put_repeat c.args.nodes.now c.in-Repeat.rounds c.in-Repeat.body c.put_mark-in-Repeat.ensures.puts c.put-in-Repeat.ensures.puts c.put_mark-in-Repeat-2.ensures.puts c.put_stmt-in-Repeat.ensures.puts
    c.put_end-in-Repeat.ensures.puts s (c.in-Repeat.ensures.stmt s h)

pub returns-in-Delay-clause-puts : goal.returns-in-Delay-clause-puts
returns-in-Delay-clause-puts t c s h = put_delay_lem c.args.nodes.now c.in-Delay.out c.in-Delay.counter c.in-Delay.setting c.put_delay.ensures.puts c.put_setting.ensures.puts s (c.in-Delay.ensures.stmt s h)

pub returns-in_default-clause-puts : goal.returns-in_default-clause-puts
returns-in_default-clause-puts t c s h =
    let r = c.in_default in
    put_skip c.args.self.now s (only_skip c.args.nodes.now c.node_at.result r.not-Assign r.not-Seq r.not-Branch r.not-Repeat r.not-Delay s (c.node_at.ensures.stmt s h))
