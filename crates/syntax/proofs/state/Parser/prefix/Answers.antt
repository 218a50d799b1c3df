use Rattle.std.proofs.Common.{arith}
use Rattle.syntax.proofs.ExpressionTokens.{a_not_mark, an_open_mark, no_prefix}
use Rattle.syntax.proofs.state.Parser.prefix.Goals as goal

pub returns-in-Not-clause-reads : goal.returns-in-Not-clause-reads
returns-in-Not-clause-reads c = rw (c.in-Not.is, c.push.ensures.is) (a_not_mark c.args.self.now (omega arith))

pub returns-in-Open-clause-reads : goal.returns-in-Open-clause-reads
returns-in-Open-clause-reads c = rw (c.in-Open.is, c.push-in-Open.ensures.is) (an_open_mark c.args.self.now (omega arith))

pub returns-in_default : goal.returns-in_default
returns-in_default c = record { within = tt; reads = no_prefix c.args.self.now c.args.mark c.in_default.not-Not c.in_default.not-Open }
