use Rattle.laws.proofs.Taken.{one_reading_lem, one_answer}
use Rattle.laws.proofs.one_reading.Goals as goal

pub returns : goal.returns
returns c = record { reading = one_reading_lem; answer = one_answer }
