use Rattle.std.proofs.Common.{◌∙◌, sym, arith, rules, tests}
use Rattle.controller.specs.Memory.{input_cell}
use Rattle.controller.proofs.Images.{input_at, input_past}
use Rattle.controller.proofs.Filled.{filled, made}
use Rattle.controller.proofs.given.Given.image.Goals as goal

pub returns : goal.returns
returns c =
    let inputs = c.args.self.inputs.now in
    let outside = c.args.self.outside.now in
    let m = c.args.memory.cells.now in
    filled _ c.from_fn.result c.from_fn.ensures.items.long
    (λ i h. made _ _ c.from_fn.result (input_cell inputs outside m) (λ k y q e. search (rules, tests)) 64 c.from_fn.ensures.items i h ∙ sym (input_at m i inputs outside h))
    (λ i h. input_past m i inputs outside h (omega arith))
