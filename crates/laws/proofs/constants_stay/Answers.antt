use Rattle.laws.proofs.Constants.{constants}
use Rattle.laws.proofs.constants_stay.Goals as goal

pub returns : goal.returns
returns c = constants
