use Rattle.vm.proofs.Meaning.{never_trapped_lem}
use Rattle.vm.proofs.never_trapped.Goals as goal

pub returns : goal.returns
returns c = never_trapped_lem
