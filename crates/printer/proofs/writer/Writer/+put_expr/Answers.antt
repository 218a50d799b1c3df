use Rattle.printer.proofs.Putting.{put_literal, put_variable, put_not, put_bare, put_bracketed}
use Rattle.printer.proofs.writer.Writer.+put_expr.Goals as goal

pub returns-in-Literal-clause-puts : goal.returns-in-Literal-clause-puts
returns-in-Literal-clause-puts t c e h = put_literal c.args.level c.in-Literal.number c.put.ensures.puts e (c.in-Literal.ensures.expr e h)

pub returns-in-Variable-clause-puts : goal.returns-in-Variable-clause-puts
returns-in-Variable-clause-puts t c e h = put_variable c.args.level c.in-Variable.variable c.put-in-Variable.ensures.puts e (c.in-Variable.ensures.expr e h)

pub returns-in-Not-clause-puts : goal.returns-in-Not-clause-puts
returns-in-Not-clause-puts t c e h = put_not c.args.nodes.now c.args.level c.in-Not.operand c.put_mark.ensures.puts c.put_expr.ensures.puts e (c.in-Not.ensures.expr e h)

pub returns-then-strength-level-clause-puts : goal.returns-then-strength-level-clause-puts
returns-then-strength-level-clause-puts t c e h =
    put_bare c.args.nodes.now c.args.level c.in-Binary.op c.strength_of-strength.result c.in-Binary.left c.in-Binary.right c.strength_of-strength.ensures.is c.if-strength-level.true
    c.put_expr-then-strength-level.ensures.puts c.put-then-strength-level.ensures.puts c.put_expr-then-strength-level-2.ensures.puts e (c.in-Binary.ensures.expr e h)

pub returns-else-strength-level-clause-puts : goal.returns-else-strength-level-clause-puts
returns-else-strength-level-clause-puts t c e h =
    let is = c.in-Binary.ensures.expr e h in
    put_bracketed c.args.nodes.now c.args.i c.args.level c.in-Binary.op c.strength_of-strength.result c.strength_of-strength.ensures.is c.strength_of-strength.ensures.small c.if-strength-level.false
    c.put_mark-else-strength-level.ensures.puts c.put_expr-else-strength-level.ensures.puts c.put_mark-else-strength-level-2.ensures.puts e h (is.0, is.1, is.2)
