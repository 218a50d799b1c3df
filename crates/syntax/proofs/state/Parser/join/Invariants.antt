use Rattle.std.proofs.Common.{◌≡◌, ◌+◌}
use Rattle.syntax.specs.Frames.{Joined}
use Rattle.syntax.specs.declared.state.Parser.{Parser}
use Rattle.syntax.proofs.state.Parser.join.Given as goal

-- what is still to join from here is what there was to join
abbrev pub invariant-loop-self : goal.invariant-loop-self
invariant-loop-self g l =
    record {
      size : l.self.used + l.self.depth ≡ l.initial.self.used + l.initial.self.depth;
      rest : (p : Parser) → Joined (goal.F-post g l.joins) l.self p → Joined (goal.F-post g l.joins) l.initial.self p;
    }

abbrev pub decreases-loop-self : goal.decreases-loop-self
decreases-loop-self g l = l.self.depth
