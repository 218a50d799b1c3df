use Rattle.std.proofs.Common.{◌≡◌, ◌+◌, ◌-◌, ◌∙◌, length, arith, length-take-le, get_or, get_or-take, set, ap, subst}
use borrow.Rule.Slice.PartMut.{put_mid}
use Rattle.retain.specs.Entry.{Formatted}
use Rattle.retain.proofs.Outcome.{formatted}
use Rattle.retain.proofs.Shape.{shaped}
use Rattle.retain.proofs.format.Goals as goal

pub returns : goal.returns
returns c =
    let n = c.args.kept in
    let after = c.copy_from_slice.ensures.after in
    let s = shaped n c.args.device.now _ c.in_ok-new.ensures.0 in
    let k : n ≡ n + 1 - 1 = omega arith in (
      c.in_ok-new.ensures.0,
      subst (λ m. Formatted n c.args.first.now (set (put_mid 1 m (set c.fill.new.self 0 1) c.copy_from_slice.new.self) (n + 1) 1)) k
          (formatted n c.args.first.now c.fill.new.self c.copy_from_slice.new.self (omega (arith, c.fill.ensures.len)) _ (c.fill.ensures.after (λ y e. e)) (omega (arith, ap length after, length-take-le n c.args.first.now s.values))
          (λ i l. ap (λ xs. get_or xs i 0) after ∙ get_or-take n c.args.first.now i 0 l)),
    )
