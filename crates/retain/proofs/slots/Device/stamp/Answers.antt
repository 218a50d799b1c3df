use Rattle.std.proofs.Common.{rules}
use Rattle.retain.specs.Device.{stamp}
use Rattle.retain.proofs.slots.Device.stamp.Goals as goal

pub returns : goal.returns
unfolding stamp
returns c = search rules
