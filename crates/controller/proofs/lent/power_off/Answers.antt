use Rattle.controller.proofs.Parts.{front_cleared}
use Rattle.controller.proofs.lent.power_off.Goals as goal

pub returns : goal.returns
returns c = front_cleared 194 c.args.memory.now c.fill.new.self c.requires (c.fill.ensures.after (λ y e. e))
