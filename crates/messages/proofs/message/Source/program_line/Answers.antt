use Rattle.std.proofs.Common.{ap, ◌∙◌}
use Rattle.messages.specs.Messages.{limit_text}
use Rattle.messages.proofs.Pointing.{limit_said, token_said, program_said, at_place}
use Rattle.messages.proofs.message.Source.program_line.Goals as goal

pub returns-in_default : goal.returns-in_default
returns-in_default c =
    let s = c.args.self.now in
    limit_said c.line-in_default.result s.file.now s.text.now c.args.refusal c.in_default.not-Token c.in_default.not-Program
    (at_place c.line-in_default.result s.file.now s.text.now c.args.refusal _ _ _ _ c.place_of_line-place.ensures (c.limit_words-sentence.ensures ∙ ap limit_text c.place.ensures) c.line-in_default.ensures)
