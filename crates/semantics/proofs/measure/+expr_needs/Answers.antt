use Rattle.std.proofs.Common.{arith}
use Rattle.semantics.proofs.Measuring.{measure_literal, measure_variable, measure_not, measure_binary}
use Rattle.semantics.proofs.measure.+expr_needs.Goals as goal

pub returns-in-Literal : goal.returns-in-Literal
returns-in-Literal t c e h = measure_literal e c.in-Literal.field-0 (c.in-Literal.ensures.expr e h)

pub returns-in-Variable : goal.returns-in-Variable
returns-in-Variable t c e h = rw c.reaching.ensures (measure_variable e c.in-Variable.variable (c.in-Variable.ensures.expr e h))

pub returns-in-Not : goal.returns-in-Not
returns-in-Not t c e h = rw c.one_more.ensures (measure_not c.args.nodes.now c.in-Not.operand c.expr_needs.result c.expr_needs.ensures e (c.in-Not.ensures.expr e h))

pub returns-in-Binary : goal.returns-in-Binary
returns-in-Binary t c e h =
    rw (c.one_more-in-Binary.ensures, c.followed_by.ensures)
    (measure_binary c.args.nodes.now c.in-Binary.field-0 c.in-Binary.left c.in-Binary.right c.expr_needs-left.result c.expr_needs-right.result c.raised.result (omega (arith, c.in-Binary.ensures.lower))
    c.expr_needs-left.ensures c.expr_needs-right.ensures c.raised.ensures e (c.in-Binary.ensures.expr e h))
