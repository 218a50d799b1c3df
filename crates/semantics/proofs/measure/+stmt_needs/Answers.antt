use Rattle.std.proofs.Common.{arith}
use Rattle.syntax.proofs.OtherNodes.{only_skip}
use Rattle.semantics.proofs.Measuring.{measure_assign, measure_seq, measure_branch, measure_repeat, measure_delay, measure_skip}
use Rattle.semantics.proofs.measure.+stmt_needs.Goals as goal

pub returns-in-Assign : goal.returns-in-Assign
returns-in-Assign t c s h =
    rw (c.reaching.ensures, c.one_more.ensures) (measure_assign c.args.nodes.now c.in-Assign.variable c.in-Assign.value c.expr_needs.result c.expr_needs.ensures s (c.in-Assign.ensures.stmt s h))

pub returns-in-Seq : goal.returns-in-Seq
returns-in-Seq t c s h =
    rw c.followed_by.ensures
    (measure_seq c.args.nodes.now c.in-Seq.first c.in-Seq.second c.stmt_needs-first.result c.stmt_needs-second.result c.stmt_needs-first.ensures c.stmt_needs-second.ensures s (c.in-Seq.ensures.stmt s h))

pub returns-in-Branch : goal.returns-in-Branch
returns-in-Branch t c s h =
    rw (c.followed_by-in-Branch.ensures, c.one_more-test.ensures, c.either.ensures, c.one_more-yes.ensures)
    (measure_branch c.args.nodes.now c.in-Branch.condition c.in-Branch.yes c.in-Branch.no c.expr_needs-in-Branch.result c.stmt_needs.result c.stmt_needs-no.result
    c.expr_needs-in-Branch.ensures c.stmt_needs.ensures c.stmt_needs-no.ensures s (c.in-Branch.ensures.stmt s h))

pub returns-in-Repeat : goal.returns-in-Repeat
returns-in-Repeat t c s h =
    measure_repeat c.args.nodes.now c.in-Repeat.rounds c.in-Repeat.body c.stmt_needs-in-Repeat.result c.repeated.result (omega (arith, c.in-Repeat.ensures.lower))
    c.stmt_needs-in-Repeat.ensures c.repeated.ensures s (c.in-Repeat.ensures.stmt s h)

pub returns-in-Delay : goal.returns-in-Delay
returns-in-Delay t c s h =
    rw (c.reaching-in-Delay-2.ensures, c.reaching-in-Delay.ensures, c.one_more-test-in-Delay.ensures)
    (measure_delay c.args.nodes.now c.in-Delay.out c.in-Delay.counter c.in-Delay.setting c.setting_needs.result c.setting_needs.ensures s (c.in-Delay.ensures.stmt s h))

pub returns-in_default : goal.returns-in_default
returns-in_default t c s h =
    let r = c.in_default in
    measure_skip s c.default.result (only_skip c.args.nodes.now c.node_at.result r.not-Assign r.not-Seq r.not-Branch r.not-Repeat r.not-Delay s (c.node_at.ensures.stmt s h)) c.default.ensures
