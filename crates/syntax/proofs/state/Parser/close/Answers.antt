use Rattle.std.proofs.Common.{rules}
use Rattle.syntax.proofs.Closes.{closes}
use Rattle.syntax.proofs.state.Parser.close.Goals as goal

pub returns-clause-closes : goal.returns-clause-closes
returns-clause-closes c = closes _ (λ f x y k. search rules) c.add.ensures c.join.ensures.joined
