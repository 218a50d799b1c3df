use Rattle.printer.proofs.ReadsBack.{prints_back}
use Rattle.syntax.proofs.Shortest.{shortest_texts}
use Rattle.printer.proofs.printer_is_right.Goals as goal

pub returns : goal.returns
returns c = record { back = prints_back; shortest = shortest_texts }
