use Rattle.retain.proofs.night_of_cuts.Goals as goal
use Rattle.retain.proofs.Examples.{night}

pub returns : goal.returns
returns c = night
