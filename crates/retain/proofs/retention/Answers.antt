use Rattle.retain.proofs.retention.Goals as goal
use Rattle.retain.proofs.Histories.{retained, ruled}

pub returns : goal.returns
returns c = record { retained = retained; ruled = ruled }
