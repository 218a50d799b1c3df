use Rattle.std.proofs.Common.{arith}
use Rattle.std.proofs.lemmas.Grind.{common_steps}
use Rattle.lexer.proofs.Spelling.{spells_utf8}
use Rattle.lexer.proofs.piece.read_piece.Goals as goal

pub returns-in_err-word : goal.returns-in_err-word
returns-in_err-word c = rw c.from_residual.ensures (λ t s. let text = spells_utf8 _ t s in let q = c.from_utf8.ensures.cases in let e = c.in_err-word.ensures.variant in grind (arith, common_steps, q, e))
