use Rattle.std.proofs.Common.{rules}
use Rattle.syntax.proofs.Climbs.{climbs}
use Rattle.syntax.proofs.state.Parser.climb.Goals as goal

pub returns-clause-climbs : goal.returns-clause-climbs
returns-clause-climbs c = climbs c.args.strength _ (λ f x y k. search rules) c.join.ensures.joined
