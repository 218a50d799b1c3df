use Rattle.std.proofs.Common.{arith}
use Rattle.syntax.proofs.StatementTokens.{begins_if, begins_else, begins_repeat, begins_delay, begins_end, begins_none}
use Rattle.syntax.proofs.state.Parser.begin.Goals as goal

pub returns-in-If-clause-reads : goal.returns-in-If-clause-reads
returns-in-If-clause-reads c = rw (c.in-If.is, c.push.ensures.is) (begins_if c.args.self.now (omega arith))

pub returns-in-Else-clause-reads : goal.returns-in-Else-clause-reads
returns-in-Else-clause-reads c = rw c.in-Else.is (begins_else c.args.self.now _ _ c.read_else.ensures.reads)

pub returns-in-Repeat-clause-reads : goal.returns-in-Repeat-clause-reads
returns-in-Repeat-clause-reads c = rw c.in-Repeat.is (begins_repeat c.args.self.now)

pub returns-in-Delay-clause-reads : goal.returns-in-Delay-clause-reads
returns-in-Delay-clause-reads c = rw c.in-Delay.is (begins_delay c.args.self.now)

pub returns-in-End-clause-reads : goal.returns-in-End-clause-reads
returns-in-End-clause-reads c = rw c.in-End.is (begins_end c.args.self.now _ _ c.read_end.ensures.reads)

pub returns-in_default : goal.returns-in_default
returns-in_default c =
    let r = c.in_default in
    record { within = tt; reads = begins_none c.args.self.now c.args.mark r.not-If r.not-Else r.not-Repeat r.not-Delay r.not-End }
