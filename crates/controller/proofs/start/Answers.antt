use Rattle.std.proofs.Common.{◌≤◌, length, refl, ap, ◌∙◌, arith}
use Rattle.base.specs.Stores.{cells}
use Rattle.controller.proofs.Parts.{part_long, part_cleared, put_length}
use Rattle.controller.proofs.Starts.{start_done}
use Rattle.controller.proofs.start.Goals as goal

pub returns : goal.returns
returns c =
    let fits = c.in_ok-check_start.ensures.1.1 in
    let m = c.store_values.new.memory in
    let long : 192 ≤ length m = omega (arith, fits.memory_long, c.store_values.auto.memory) in
    let cleared = part_cleared 64 128 m c.fill.new.self long (c.fill.ensures.after (λ y e. e)) in
    let size = put_length 64 128 m c.fill.new.self long (c.fill.ensures.len ∙ part_long 64 128 m long) in (
      c.in_ok-check_start.ensures.0,
      (
        refl,
        start_done c.args.kept c.args.firsts.now c.args.memory.now c.first_values-values.result c.recover.new.out m _
            fits.low fits.firsts_long (omega (arith, fits.memory_long)) (size ∙ c.store_values.auto.memory) (c.first_values-values.ensures ∙ ap cells c.in_ok-check_start.ensures.1.0) c.in_ok-recover.ensures.1 c.store_values.ensures cleared,
      ),
    )
