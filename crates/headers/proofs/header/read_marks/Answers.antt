use Rattle.std.proofs.Common.{sym, ap, ◌∙◌, length-set}
use Rattle.std.proofs.lemmas.Result.{err_from_is_err_and}
use Rattle.headers.specs.Header.{take_marks}
use Rattle.lines.specs.Reading.{ended}
use Rattle.lines.proofs.Errors.{misses_on}
use Rattle.headers.proofs.HeaderLines.{marks_all, marks_next, marks_wrong}
use Rattle.headers.proofs.header.read_marks.Goals as goal

pub returns-in_err-variable : goal.returns-in_err-variable
returns-in_err-variable c =
    let some = ap ended c.at_end.ensures.same ∙ sym c.at_end.ensures.value ∙ c.loop-line-test.true in
    let p = err_from_is_err_and c.from_residual.result c.from_residual.ensures.1 in
    rw (p.1, p.2)
    (misses_on ⊥ ⊥ _ _ _ (λ z. z) c.in_err-variable.ensures
    (λ q e. c.loop-line.invariant.1 ∙ ap (take_marks c.loop-line.marks) (sym c.at_end.ensures.same) ∙ marks_wrong _ _ q some e))

pub loop-line-preserved : goal.loop-line-preserved
loop-line-preserved c =
    let some = ap ended c.at_end.ensures.same ∙ sym c.at_end.ensures.value ∙ c.loop-line-test.true in
    rw c.from.ensures (
      length-set c.loop-line.marks c.in_ok-variable.variable 1 ∙ c.loop-line.invariant.0,
      c.loop-line.invariant.1 ∙ ap (take_marks c.loop-line.marks) (sym c.at_end.ensures.same) ∙ marks_next _ _ _ _ some c.in_ok-variable.ensures,
    )

pub returns : goal.returns
returns c =
    let all = ap ended c.at_end.ensures.same ∙ sym c.at_end.ensures.value ∙ c.loop-line-test.false in
    c.loop-line.invariant.1 ∙ ap (take_marks c.loop-line.marks) (sym c.at_end.ensures.same) ∙ marks_all _ _ all
