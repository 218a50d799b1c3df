use Rattle.lines.specs.Reading.{left}
use Rattle.lines.proofs.Cuts.{trimmed, trimmed_first}
use Rattle.lines.proofs.line.Line.skip_blanks.Goals as goal

pub returns : goal.returns
unfolding left
returns c =
    let cut = c.trim_start_matches-text.ensures.matches in record {
      same = (trimmed _ _ _ cut.0.0 cut.0.1).1;
      first = trimmed_first _ cut.1;
    }
