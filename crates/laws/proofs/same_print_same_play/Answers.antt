use Rattle.laws.proofs.Taken.{same_print, same_play, print_is_taken}
use Rattle.laws.proofs.same_print_same_play.Goals as goal

pub returns : goal.returns
returns c = record { told = same_print; answer = same_play; taken = print_is_taken }
