use Rattle.std.proofs.Common.{◌≡◌, length, get_or, ap, ap₂, ◌∙◌, arith, length-take-le}
use Rattle.base.specs.Stores.{cells}
use Rattle.base.proofs.Regions.{front_written}
use Rattle.retain.specs.Device.{recovered}
use Rattle.retain.proofs.Histories.{retained}
use Rattle.retain.proofs.recover.Goals as goal

pub returns : goal.returns
returns c =
    let n = c.args.kept in
    let d = c.args.device.now in
    let o = c.copy_from_slice.new.self in
    let fits = c.in_ok-held.ensures.1 in
    let size : length o ≡ n = omega (arith, c.copy_from_slice.ensures.len, length-take-le n c.args.out.now fits.2) in
    let w = front_written n (recovered n (cells d)) c.args.out.now o size fits.2
    (λ i l. ap (λ xs. get_or xs i 0) c.copy_from_slice.ensures.after ∙ c.values.ensures.held i (omega arith) ∙ ap₂ (λ k xs. recovered k (cells xs) i) fits.0 fits.1) in (
      c.in_ok-held.ensures.0,
      record {
        inside = λ i l. w.inside i (omega arith) l;
        past = w.above;
        history = λ first h e i l. w.inside i (omega arith) l ∙ ap (λ x. recovered n x i) e ∙ retained n first h i l;
      },
    )
