use Rattle.laws.proofs.Taken.{taken_words}
use Rattle.laws.proofs.words_stay_words.Goals as goal

pub returns : goal.returns
returns c = taken_words
