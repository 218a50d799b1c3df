use Rattle.laws.proofs.Telling.{told_words_lem}
use Rattle.laws.proofs.told_words.Goals as goal

pub returns : goal.returns
returns c = told_words_lem
