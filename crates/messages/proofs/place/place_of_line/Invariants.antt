use Rattle.std.proofs.Common.{◌≡◌, []}
use Rattle.lines.specs.Words.{lines_on}
use Rattle.messages.specs.MessageText.{line_place}
use Rattle.lines.proofs.Left.{EndsText}
use Rattle.messages.proofs.Places.{place_on}
use Rattle.messages.proofs.place.place_of_line.Given as goal

-- the lines still to come lead to the same
abbrev pub invariant-loop-line : goal.invariant-loop-line
invariant-loop-line l =
    EndsText l.text l.line-iterator.rest
    × (line_place l.keyword (lines_on 0 [] l.text) ≡ place_on l.keyword l.text l.line-iterator.rest)
