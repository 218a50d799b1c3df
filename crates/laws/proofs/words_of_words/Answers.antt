use Rattle.laws.proofs.Words.{words_of_words_lem}
use Rattle.laws.proofs.words_of_words.Goals as goal

pub returns : goal.returns
returns c = words_of_words_lem
