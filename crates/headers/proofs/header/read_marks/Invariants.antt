use Rattle.std.proofs.Common.{◌≡◌, length, replicate}
use Rattle.headers.specs.Header.{take_marks}
use Rattle.lines.specs.Reading.{left}
use Rattle.lines.proofs.Counts.{word_count}
use Rattle.headers.proofs.header.read_marks.Given as goal

-- the words still to come lead to the same
abbrev pub invariant-loop-line : goal.invariant-loop-line
invariant-loop-line l = (length l.marks ≡ 64) × (take_marks (replicate 64 0) (left l.initial.line) ≡ take_marks l.marks (left l.line))

abbrev pub decreases-loop-line : goal.decreases-loop-line
decreases-loop-line l = word_count (left l.line)
