use Rattle.lexer.proofs.Pieces.{stuck_from, first_from}
use Rattle.lexer.proofs.piece.first_token.Goals as goal

pub returns-in_err-token : goal.returns-in_err-token
returns-in_err-token c = rw c.from_residual.ensures (stuck_from _ _ c.piece_length-length.ensures.is c.in_err-token.ensures)

pub returns : goal.returns
returns c = first_from _ _ c.in_ok-token.token c.piece_length-length.ensures.is c.piece_length-length.ensures.within c.in_ok-token.ensures
