use Rattle.controller.proofs.Rules.{ruled}
use Rattle.controller.proofs.scans_save_and_cuts_choose.Goals as goal

pub returns : goal.returns
returns c = ruled
