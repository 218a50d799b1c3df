use Rattle.semantics.proofs.Faulted.{first_fault_stays, goes_on}
use Rattle.semantics.proofs.faults_are_noted.Goals as goal

pub returns : goal.returns
returns c = record { stays = first_fault_stays; onward = goes_on }
