use Rattle.std.proofs.Common.{sym, ◌∙◌}
use Rattle.lines.proofs.Left.{all_ends, ends_more}
use Rattle.messages.proofs.Places.{place_begins, line_found, line_passed}
use Rattle.messages.proofs.place.place_of_line.Goals as goal

pub returns-in-Some-keyword_place : goal.returns-in-Some-keyword_place
returns-in-Some-keyword_place c =
    sym (c.loop-line.invariant.1 ∙ line_found _ _ _ _ _ _ c.in-Some.ensures.steps c.in-Some-keyword_place.ensures)

pub loop-line-preserved : goal.loop-line-preserved
loop-line-preserved c = (
  ends_more _ _ _ _ c.loop-line.invariant.0 c.in-Some.ensures.steps,
  c.loop-line.invariant.1 ∙ line_passed _ _ _ _ _ c.loop-line.invariant.0 c.in-Some.ensures.steps c.in_default.ensures,
)
