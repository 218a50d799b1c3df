use Rattle.std.proofs.Common.{ap, arith}
use Rattle.printer.proofs.Putting.{puts_one, puts_past}
use Rattle.printer.specs.declared.writer.Writer.{Writer}
use Rattle.printer.proofs.writer.Writer.put.Goals.{then-self, else-self}
use Rattle.printer.proofs.writer.Writer.put.Goals as goal

pub returns-clause-puts : goal.returns-clause-puts
returns-clause-puts c = elim c.if-self.branch [
  | then-self w ↦ puts_one c.args.self.now _ c.args.token _ _ w.pair-kind.ensures (omega (arith, ap (λ (x : Writer). x.count) w.self-is)) (ap (λ (x : Writer). x.room.now) w.self-is)
  | else-self w ↦ puts_past c.args.self.now _ c.args.token w.if-self.false (omega (arith, ap (λ (x : Writer). x.count) w.self-is))
]
