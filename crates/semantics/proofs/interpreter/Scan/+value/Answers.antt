use Rattle.semantics.proofs.Evaluating.{value_literal, value_variable, value_not, value_binary}
use Rattle.semantics.proofs.interpreter.Scan.+value.Goals as goal

pub returns-in-Literal-clause-values : goal.returns-in-Literal-clause-values
returns-in-Literal-clause-values t c e h = let r = c.args.self.now in value_literal r.nodes.now r.vars.now r.fault c.in-Literal.number e (c.in-Literal.ensures.expr e h)

pub returns-in-Variable-clause-values : goal.returns-in-Variable-clause-values
returns-in-Variable-clause-values t c e h =
    let r = c.args.self.now in value_variable r.nodes.now r.vars.now r.fault c.in-Variable.variable c.variable.result c.variable.ensures e (c.in-Variable.ensures.expr e h)

pub returns-in-Not-clause-values : goal.returns-in-Not-clause-values
returns-in-Not-clause-values t c e h =
    let r = c.args.self.now in value_not r.nodes.now r.vars.now r.fault c.in-Not.operand c.value.result c.value.new.self.fault c.value.ensures.values e (c.in-Not.ensures.expr e h)

pub returns-in-Binary-clause-values : goal.returns-in-Binary-clause-values
returns-in-Binary-clause-values t c e h =
    let r = c.args.self.now in
    let left = c.value-left.ensures in
    let right = rw (left.same.nodes, left.vars) at c.value-right.ensures.values in
    value_binary r.nodes.now r.vars.now r.fault c.in-Binary.op c.in-Binary.left c.in-Binary.right c.value-left.result c.value-right.result c.apply.result
    c.value-left.new.self.fault c.value-right.new.self.fault c.apply.new.fault left.values right c.apply.ensures.value c.apply.ensures.fault e (c.in-Binary.ensures.expr e h)
