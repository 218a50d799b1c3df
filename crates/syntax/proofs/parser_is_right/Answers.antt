use Rattle.syntax.proofs.Complete.{complete, one_tree}
use Rattle.syntax.proofs.Naming.{program_fits}
use Rattle.syntax.proofs.Place.{right_place, one_place}
use Rattle.syntax.proofs.Sound.{sound}
use Rattle.syntax.proofs.parser_is_right.Goals as goal

pub returns : goal.returns
returns c = record { sound = sound; complete = complete; unique = one_tree; placed = right_place; once = one_place; fits = program_fits }
