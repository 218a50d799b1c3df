use Rattle.std.proofs.Common.{◌+◌, ap}
use Rattle.compiler.proofs.TreeCode.{emit_assign, emit_seq, emit_branch, emit_repeat, emit_delay_lem, emit_other}
use Rattle.compiler.proofs.draft.Draft.+put_stmt.Goals as goal

pub returns-in-Assign : goal.returns-in-Assign
returns-in-Assign t c s h = emit_assign c.args.nodes.now c.in-Assign.variable c.in-Assign.value c.put_expr.ensures c.put.ensures s (c.in-Assign.ensures.stmt s h)

pub returns-in-Seq : goal.returns-in-Seq
returns-in-Seq t c s h = emit_seq c.args.nodes.now c.in-Seq.first c.in-Seq.second c.put_stmt.ensures c.put_stmt-in-Seq.ensures s (c.in-Seq.ensures.stmt s h)

pub returns-in-Branch : goal.returns-in-Branch
returns-in-Branch t c s h =
    emit_branch c.args.nodes.now c.in-Branch.condition c.in-Branch.yes c.in-Branch.no c.put_expr-in-Branch.ensures c.reserve-test.ensures.here c.reserve-test.ensures.reserves c.put_stmt-in-Branch.ensures c.reserve-join.ensures.here
    c.reserve-join.ensures.reserves c.since-past.ensures.since c.patch.ensures c.put_stmt-in-Branch-2.ensures c.since-over.ensures.since c.patch-in-Branch.ensures s (c.in-Branch.ensures.stmt s h)

pub returns-in-Repeat : goal.returns-in-Repeat
returns-in-Repeat t c s h =
    emit_repeat c.args.nodes.now c.in-Repeat.rounds c.in-Repeat.body c.reserve-head.ensures.here c.reserve-head.ensures.reserves c.put_stmt-in-Repeat.ensures (ap (λ n. n + 1) c.since-size.ensures.since) c.patch-in-Repeat.ensures c.put-in-Repeat.ensures s (c.in-Repeat.ensures.stmt s h)

pub returns-in-Delay : goal.returns-in-Delay
returns-in-Delay t c s h = emit_delay_lem c.args.nodes.now c.in-Delay.out c.in-Delay.counter c.in-Delay.setting c.put_delay.ensures s (c.in-Delay.ensures.stmt s h)

pub returns-in_default : goal.returns-in_default
returns-in_default t c s h =
    let r = c.in_default in
    emit_other c.args.nodes.now c.args.self.now c.node_at.result r.not-Assign r.not-Seq r.not-Branch r.not-Repeat r.not-Delay s (c.node_at.ensures.stmt s h)
