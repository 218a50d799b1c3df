use Rattle.std.proofs.Common.{arith}
use Rattle.syntax.proofs.Closes.{frame_at}
use Rattle.syntax.proofs.StatementTokens.{no_block, else_closed, repeat_closed}
use Rattle.syntax.proofs.state.Parser.read_end.Goals as goal

pub returns-in_err-self-clause-reads : goal.returns-in_err-self-clause-reads
returns-in_err-self-clause-reads c = rw c.from_residual.ensures (no_block c.args.self.now c.close.new.self c.close.ensures.closes _ (λ b x y e q. omega (arith, c.in_err-self.ensures)) (λ b x e q. omega (arith, c.in_err-self.ensures)))

pub returns-in-ElseIn-clause-reads : goal.returns-in-ElseIn-clause-reads
returns-in-ElseIn-clause-reads c =
    let r = c.in-ElseIn in
    else_closed c.args.self.now c.close.new.self c.close.ensures.closes _ c.in_ok-self.field-0 (omega (arith, c.in_ok-self.ensures)) r.condition r.first r.is c.add.ensures

pub returns-in-RepeatIn-clause-reads : goal.returns-in-RepeatIn-clause-reads
returns-in-RepeatIn-clause-reads c = repeat_closed c.args.self.now c.close.new.self c.close.ensures.closes _ c.in_ok-self.field-0 (omega (arith, c.in_ok-self.ensures)) c.in-RepeatIn.rounds c.in-RepeatIn.is c.add-in-RepeatIn.ensures

pub returns-in_default : goal.returns-in_default
returns-in_default c =
    let f = c.close.new.self.frames in
    let below = c.in_ok-self.field-0 in
    let r = c.in_default in
    record {
      within = tt;
      reads = no_block c.args.self.now c.close.new.self c.close.ensures.closes _
          (λ b x y e q. r.not-ElseIn x y (frame_at f b below (omega (arith, c.in_ok-self.ensures)) q)) (λ b x e q. r.not-RepeatIn x (frame_at f b below (omega (arith, c.in_ok-self.ensures)) q));
    }
