use Rattle.lexer.proofs.PairLaws.{pairs_back, pair_is_token, one_pair}
use Rattle.lexer.proofs.pairs_read_back.Goals as goal

pub returns : goal.returns
returns c = record { back = pairs_back; token = pair_is_token; one = one_pair }
