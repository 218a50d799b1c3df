use Rattle.std.proofs.Common.{arith}
use Rattle.syntax.proofs.Closes.{frame_at}
use Rattle.syntax.proofs.StatementTokens.{no_then, then_closed}
use Rattle.syntax.proofs.state.Parser.read_else.Goals as goal

pub returns-in_err-below-clause-reads : goal.returns-in_err-below-clause-reads
returns-in_err-below-clause-reads c = rw c.from_residual.ensures (no_then c.args.self.now c.close.new.self c.close.ensures.closes (λ b x e q. omega (arith, c.in_err-below.ensures)))

pub returns-in_default : goal.returns-in_default
returns-in_default c = record { within = tt; reads = no_then c.args.self.now c.close.new.self c.close.ensures.closes (λ b x e q. c.in_default.not-ThenIn x (frame_at c.close.new.self.frames b c.in_ok-below.below (omega (arith, c.in_ok-below.ensures)) q)) }

pub returns-clause-reads : goal.returns-clause-reads
returns-clause-reads c =
    then_closed c.args.self.now c.close.new.self c.close.ensures.closes c.in_ok-below.below c.in-ThenIn.condition (omega (arith, c.in_ok-below.ensures)) c.in-ThenIn.is (omega (arith, c.in_ok-below.ensures, c.close.ensures.size))
