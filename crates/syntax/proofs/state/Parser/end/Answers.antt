use Rattle.syntax.proofs.Wholes.{ends_whole, ends_inside, ends_elsewhere}
use Rattle.syntax.proofs.state.Parser.end.Goals as goal

pub returns-then-self-eq0 : goal.returns-then-self-eq0
returns-then-self-eq0 c = rw c.in-Statement.is (ends_whole c.args.self.now c.close.new.self c.close.ensures.closes c.close.ensures.size c.if-self-eq0.true)

pub returns-else-self-eq0 : goal.returns-else-self-eq0
returns-else-self-eq0 c = rw c.in-Statement.is (ends_inside c.args.self.now c.close.new.self c.close.ensures.closes c.if-self-eq0.false)

pub returns-in_default : goal.returns-in_default
returns-in_default c = ends_elsewhere c.args.self.now c.args.self.now c.args.state c.in_default.not-Statement
