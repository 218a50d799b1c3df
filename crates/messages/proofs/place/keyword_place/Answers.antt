use Rattle.std.proofs.Common.{sym, ap, ◌∙◌}
use Rattle.std.specs.Bool.{then_some}
use Rattle.lines.specs.Reading.{left}
use Rattle.messages.specs.MessageText.{keyword_place}
use Rattle.messages.proofs.Places.{word_none, word_some, some_if}
use Rattle.messages.proofs.place.keyword_place.Goals as goal

pub returns-in_err-word : goal.returns-in_err-word
unfolding left
returns-in_err-word c = c.from_residual.ensures ∙ word_none _ _ _ _ c.word.ensures c.in_err-word.ensures.value

pub returns : goal.returns
unfolding left
returns c =
    c.then_some.ensures
    ∙ ap (λ b. then_some b c.in_ok-word.word.at) c.eq.ensures
    ∙ some_if _ _
    ∙ sym (ap (keyword_place c.args.keyword.now) (word_some _ _ _ _ c.word.ensures c.in_ok-word.ensures.value))
