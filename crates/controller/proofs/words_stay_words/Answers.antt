use Rattle.controller.proofs.WordLaws.{words_stay}
use Rattle.controller.proofs.words_stay_words.Goals as goal

pub returns : goal.returns
returns c = words_stay
