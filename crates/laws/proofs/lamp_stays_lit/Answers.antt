use Rattle.laws.proofs.Lamps.{lamp_stays}
use Rattle.laws.proofs.lamp_stays_lit.Goals as goal

pub returns : goal.returns
returns c = lamp_stays
