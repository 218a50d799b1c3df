use Rattle.std.proofs.Common.{◌≡◌, ◌-◌, arith}
use Rattle.syntax.specs.Frames.{ends, joins}
use Rattle.syntax.proofs.state.Parser.join.Goals as goal

pub returns-in_default-clause-joined : goal.returns-in_default-clause-joined
returns-in_default-clause-joined g c = c.loop-self.invariant.rest _ (ends _ (λ x z. let at : c.loop-self.self.depth - 1 ≡ x = omega arith in rw at at c.in_default.ensures))

pub loop-self-preserved : goal.loop-self-preserved
loop-self-preserved g c =
    record {
      size = rw c.add.ensures.is (omega arith);
      rest = λ p r. c.loop-self.invariant.rest p (joins _ p (c.loop-self.self.depth - 1) c.add.new.self.nodes c.in-Some.node (omega arith) c.in-Some.ensures c.add.ensures.wrote (rw c.add.ensures.is at r));
    }

pub returns-clause-joined : goal.returns-clause-joined
returns-clause-joined g c = c.loop-self.invariant.rest _ (ends _ (λ x z. absurd (omega arith)))
