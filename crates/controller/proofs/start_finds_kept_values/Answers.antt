use Rattle.controller.proofs.Rules.{start_finds}
use Rattle.controller.proofs.start_finds_kept_values.Goals as goal

pub returns : goal.returns
returns c = start_finds
