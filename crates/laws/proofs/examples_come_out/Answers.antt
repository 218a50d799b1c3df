use Rattle.laws.proofs.Tables.{examples_come_out_lem}
use Rattle.laws.proofs.examples_come_out.Goals as goal

pub returns : goal.returns
returns c = examples_come_out_lem
