use Rattle.compiler.proofs.TreeCode.{emit_literal, emit_variable, emit_not, emit_binary}
use Rattle.compiler.proofs.draft.Draft.+put_expr.Goals as goal

pub returns-in-Literal : goal.returns-in-Literal
returns-in-Literal t c e h = emit_literal c.args.nodes.now c.in-Literal.number c.put.ensures e (c.in-Literal.ensures.expr e h)

pub returns-in-Variable : goal.returns-in-Variable
returns-in-Variable t c e h = emit_variable c.args.nodes.now c.in-Variable.variable c.put-in-Variable.ensures e (c.in-Variable.ensures.expr e h)

pub returns-in-Not : goal.returns-in-Not
returns-in-Not t c e h = emit_not c.args.nodes.now c.in-Not.operand c.put_expr.ensures c.put-in-Not.ensures e (c.in-Not.ensures.expr e h)

pub returns-in-Binary : goal.returns-in-Binary
returns-in-Binary t c e h =
    emit_binary c.args.nodes.now c.in-Binary.op c.in-Binary.left c.in-Binary.right c.put_expr-in-Binary.ensures c.put_expr-in-Binary-2.ensures c.put-in-Binary.ensures e (c.in-Binary.ensures.expr e h)
