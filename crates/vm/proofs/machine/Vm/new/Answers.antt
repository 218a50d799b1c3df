use Rattle.std.proofs.Common.{refl}
use Rattle.vm.proofs.StackLaws.{stacked_none}
use Rattle.vm.proofs.machine.Vm.new.Goals as goal

pub returns : goal.returns
returns c =
    record {
      start = refl;
      boots = λ items vars.
          let s = stacked_none items.values c.new.result.height c.new.ensures in
          let t = stacked_none items.control c.new-2.result.height c.new-2.ensures in
          cc;
    }
