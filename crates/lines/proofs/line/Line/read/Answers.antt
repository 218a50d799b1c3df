use Rattle.std.proofs.Common.{refl}
use Rattle.lines.proofs.Errors.{as_read}
use Rattle.lines.proofs.line.Line.read.Goals as goal

pub returns : goal.returns
returns g c = λ f h.
    let same = h c.in_ok-word.word.text.now c.read.result (record { shown = c.in_ok-word.word.text; shows = refl; says = record { met = c.read.ensures } }) in
    rw (c.ok_or.ensures.value, c.misfit.ensures, c.in_ok-word.ensures, ← same) (as_read c.in_ok-word.word.at c.read.result _)
