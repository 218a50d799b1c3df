use Rattle.std.proofs.Common.{◌≡◌, ◌-◌, length, refl, ap, ◌∙◌, arith}
use Rattle.base.proofs.Checks.{not_both}
use Rattle.base.specs.Stores.{cells}
use Rattle.retain.specs.Device.{factory as new_device}
use Rattle.controller.proofs.Passed.{shape_taken}
use Rattle.controller.proofs.Parts.{slice_length, part_device}
use Rattle.controller.proofs.States.{device_same}
use Rattle.controller.proofs.Factory.{new_done}
use Rattle.controller.proofs.works.Goals as goal

pub returns-in_err-format : goal.returns-in_err-format
returns-in_err-format c =
    let fits = c.in_ok-check_start.ensures.1.1 in
    absurd (not_both _ _ (shape_taken c.args.kept c.args.memory.now (length c.first_values-values.result) fits.low fits.memory_long (omega (arith, fits.low))) c.in_err-format.ensures.0)

pub returns : goal.returns
returns c =
    let m = c.args.memory.now in
    let dev = c.format.new.device in
    let fits = c.in_ok-check_start.ensures.1.1 in
    let size : length dev ≡ length m - 194 = omega (arith, slice_length m) in (
      c.in_ok-check_start.ensures.0,
      (
        refl,
        new_done c.args.kept c.args.firsts.now c.power_off.new.memory (λ k h. c.power_off.ensures.inside k (omega arith) h)
            (device_same _ _ (λ k h. c.power_off.ensures.above k h) ∙ part_device m dev (omega (arith, fits.memory_long)) size ∙ c.in_ok-format.ensures.1.cells_are
            ∙ ap (new_device c.args.kept) (c.first_values-values.ensures ∙ ap cells c.in_ok-check_start.ensures.1.0)),
      ),
    )
