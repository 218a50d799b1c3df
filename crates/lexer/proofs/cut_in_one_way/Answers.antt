use Rattle.lexer.proofs.Cutting.{one_way}
use Rattle.lexer.proofs.cut_in_one_way.Goals as goal

pub returns : goal.returns
returns c = one_way
