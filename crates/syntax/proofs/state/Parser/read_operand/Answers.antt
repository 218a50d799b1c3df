use Rattle.syntax.proofs.ExpressionTokens.{number_read, name_read, no_operator, prefix_read}
use Rattle.syntax.proofs.state.Parser.read_operand.Goals as goal

pub returns-in-Number-clause-reads : goal.returns-in-Number-clause-reads
returns-in-Number-clause-reads c = rw c.in-Number.is (number_read c.args.self.now _ _ c.in-Number.n c.add.ensures c.invert.ensures.inverts)

pub returns-in-Name-clause-reads : goal.returns-in-Name-clause-reads
returns-in-Name-clause-reads c = rw c.in-Name.is (name_read c.args.self.now _ _ c.in-Name.i c.add-in-Name.ensures c.invert-in-Name.ensures.inverts)

pub returns-in-Operator-clause-reads : goal.returns-in-Operator-clause-reads
returns-in-Operator-clause-reads c = rw c.in-Operator.is (no_operator _ c.args.self.now)

pub returns-in-Mark-clause-reads : goal.returns-in-Mark-clause-reads
returns-in-Mark-clause-reads c = rw c.in-Mark.is (prefix_read c.in-Mark.mark c.args.self.now _ _ c.prefix.ensures.reads)
