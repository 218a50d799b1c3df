use Rattle.laws.proofs.Unassigned.{unassigned_stays_lem}
use Rattle.laws.proofs.unassigned_stays.Goals as goal

pub returns : goal.returns
returns c = unassigned_stays_lem
