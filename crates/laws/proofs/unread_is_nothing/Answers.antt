use Rattle.laws.proofs.Unread.{unread_is_nothing_lem}
use Rattle.laws.proofs.unread_is_nothing.Goals as goal

pub returns : goal.returns
returns c = unread_is_nothing_lem
