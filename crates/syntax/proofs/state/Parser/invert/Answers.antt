use Rattle.std.proofs.Common.{rules}
use Rattle.syntax.proofs.Climbs.{inverted}
use Rattle.syntax.proofs.state.Parser.invert.Goals as goal

pub returns-clause-inverts : goal.returns-clause-inverts
returns-clause-inverts c = inverted _ (λ f x y k. search rules) c.join.ensures.joined
