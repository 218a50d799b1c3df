use Rattle.controller.proofs.Stamps.{stamps_last_lem}
use Rattle.controller.proofs.stamps_last.Goals as goal

pub returns : goal.returns
returns c = stamps_last_lem
