use Rattle.std.proofs.Common.{◌≡◌, [], vec_items}
use Rattle.lines.specs.Reading.{left}
use Rattle.scripts.specs.Script.{take_pairs}
use Rattle.lines.proofs.Counts.{word_count}
use Rattle.scripts.proofs.script.EventLine.read_pairs.Given as goal

-- the words still to come lead to the same
abbrev pub invariant-loop-self : goal.invariant-loop-self
invariant-loop-self l = take_pairs [] (left l.initial.self.words) ≡ take_pairs (vec_items l.inputs) (left l.self.words)

abbrev pub decreases-loop-self : goal.decreases-loop-self
decreases-loop-self l = word_count (left l.self.words)
