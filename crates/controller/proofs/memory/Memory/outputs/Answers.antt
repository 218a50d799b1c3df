use Rattle.std.proofs.Common.{◌∙◌, sym, arith, rules, tests}
use Rattle.controller.specs.Memory.{output_cell}
use Rattle.controller.proofs.Images.{output_at, output_past}
use Rattle.controller.proofs.Filled.{filled, made}
use Rattle.controller.proofs.memory.Memory.outputs.Goals as goal

pub returns : goal.returns
returns c =
    let m = c.args.self.cells.now in
    let values = c.args.values.now in
    filled _ c.from_fn.result c.from_fn.ensures.items.long
    (λ i h. made _ _ c.from_fn.result (output_cell m values) (λ k y q e. search (rules, tests)) 64 c.from_fn.ensures.items i h ∙ sym (output_at m i values h))
    (λ i h. output_past m i values h (omega arith))
