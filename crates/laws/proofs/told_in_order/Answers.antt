use Rattle.laws.proofs.Order.{told_in_order_lem}
use Rattle.laws.proofs.told_in_order.Goals as goal

pub returns : goal.returns
returns c = told_in_order_lem
