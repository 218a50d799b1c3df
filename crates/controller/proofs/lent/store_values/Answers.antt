use Rattle.std.proofs.Common.{length, get_or, ap, arith, length-take-le}
use Rattle.base.specs.Stores.{cells}
use Rattle.base.proofs.Regions.{front_written}
use Rattle.controller.proofs.lent.store_values.Goals as goal

pub copy_from_slice-requires : goal.copy_from_slice-requires
copy_from_slice-requires c = omega (arith, length-take-le 64 c.args.memory.now c.requires)

pub returns : goal.returns
returns c =
    front_written 64 (cells c.args.values.now) c.args.memory.now c.copy_from_slice.new.self (omega (arith, ap length c.copy_from_slice.ensures.after)) (omega arith)
    (λ k h. ap (λ xs. get_or xs k 0) c.copy_from_slice.ensures.after)
