use Rattle.std.proofs.Common.{◌≡◌, ◌+◌, length, take, sym, arith}
use Rattle.std.proofs.lemmas.List.{get_or-take, get_or_past}
use Rattle.base.specs.Stores.{cells}
use Rattle.base.proofs.Regions.{region_is}
use Rattle.project.proofs.settings.values_in.Goals as goal

pub returns : goal.returns
returns c =
    let m = c.args.memory.now in
    let xs = c.copy_from_slice.new.self in
    let e : xs ≡ take 64 m = c.copy_from_slice.ensures.after in
    let long : length xs ≡ 64 = c.copy_from_slice.ensures.len in
    sym (region_is m 0 64 (cells xs) (λ i h. let z : 0 + i ≡ i = omega arith in rw (z, e) (sym (get_or-take 64 m i 0 h))) (λ i h. get_or_past xs i 0 (omega arith)))
