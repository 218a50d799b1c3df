use Rattle.std.proofs.Common.{◌≡◌}
use Rattle.headers.specs.Header.{read_project}
use Rattle.lines.proofs.Left.{EndsText}
use Rattle.headers.proofs.HeaderLines.{read_on}
use Rattle.headers.proofs.header.read_project.Given as goal

-- the lines still to come lead to the same
abbrev pub invariant-loop-line : goal.invariant-loop-line
invariant-loop-line l =
    (goal.iterator-loop-line).can_next l.lines
    × (goal.iterator-loop-line).is_finite l.lines
    × EndsText l.text l.lines.rest
    × (read_project l.text ≡ read_on l.text l.header l.lines.rest)
