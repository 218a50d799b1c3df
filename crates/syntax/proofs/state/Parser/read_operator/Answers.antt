use Rattle.syntax.proofs.ExpressionTokens.{no_leaf, an_operator, joined}
use Rattle.syntax.proofs.state.Parser.read_operator.Goals as goal

pub returns-in-Operator-clause-reads : goal.returns-in-Operator-clause-reads
returns-in-Operator-clause-reads c = rw (c.in-Operator.is, c.push.ensures.is) (an_operator c.in-Operator.op _ c.args.self.now c.climb.new.self c.strength_of.ensures.is c.climb.ensures.climbs c.push.ensures.there)

pub returns-in-Mark-clause-reads : goal.returns-in-Mark-clause-reads
returns-in-Mark-clause-reads c = rw c.in-Mark.is (joined c.in-Mark.mark _ c.args.self.now _ _ _ c.strength_of-in-Mark.ensures.is c.climb-in-Mark.ensures.climbs c.finish.ensures.finishes)

pub returns-in_default-clause-reads : goal.returns-in_default-clause-reads
returns-in_default-clause-reads c = no_leaf c.args.token c.args.self.now c.in_default.not-Operator c.in_default.not-Mark
