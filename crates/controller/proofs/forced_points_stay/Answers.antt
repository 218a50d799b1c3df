use Rattle.controller.proofs.Stays.{force_stays}
use Rattle.controller.proofs.forced_points_stay.Goals as goal

pub returns : goal.returns
returns c = force_stays
