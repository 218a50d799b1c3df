use Rattle.std.proofs.Common.{sym}
use Rattle.base.specs.Stores.{cells}
use Rattle.retain.proofs.Cells.{planned_is}
use Rattle.retain.proofs.slots.Device.next_commit.Goals as goal

pub returns : goal.returns
returns c = (c.in_ok-next_target.ensures.0, sym (planned_is c.args.self.kept (cells c.args.self.cells.now) (cells c.args.values.now) c.in_ok-next_target.field-0 c.in_ok-next_target.ensures.1))
