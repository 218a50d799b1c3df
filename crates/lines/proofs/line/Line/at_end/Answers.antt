use Rattle.std.proofs.Common.{ap, ◌∙◌}
use Rattle.lines.specs.Reading.{left, ended, first_place}
use Rattle.lines.proofs.Cuts.{ended_is, place_is}
use Rattle.lines.proofs.line.Line.at_end.Goals as goal

pub returns : goal.returns
unfolding left
returns c = record {
  same = c.skip_blanks.ensures.same;
  value = c.is_empty.ensures ∙ ended_is _ _ c.skip_blanks.ensures.first ∙ ap ended c.skip_blanks.ensures.same;
  place = place_is _ c.skip_blanks.new.self.text.now c.skip_blanks.ensures.first ∙ ap first_place c.skip_blanks.ensures.same;
}
