use Rattle.laws.proofs.Unseen.{unread_unseen_lem}
use Rattle.laws.proofs.unread_unseen.Goals as goal

pub returns : goal.returns
returns c = unread_unseen_lem
