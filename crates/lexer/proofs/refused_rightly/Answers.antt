use Rattle.lexer.proofs.Cutting.{refused_rightly_lem}
use Rattle.lexer.proofs.Places.{one_place, place_in_characters}
use Rattle.lexer.proofs.refused_rightly.Goals as goal

pub returns : goal.returns
returns c = record { cut = refused_rightly_lem; place = one_place; characters = place_in_characters }
