use Rattle.std.proofs.Common.{vec_items, sym, ap, ◌∙◌, arith}
use Rattle.std.proofs.lemmas.Result.{err_from_is_err_and}
use Rattle.lines.specs.Reading.{left, ended, variable_of, value_of}
use Rattle.scripts.specs.Script.{take_pairs}
use Rattle.lines.proofs.Errors.{misses_on}
use Rattle.lines.proofs.Counts.{word_count, take_falls}
use Rattle.scripts.proofs.Inputs.{pairs_all, pairs_next, pairs_no_variable, pairs_no_value}
use Rattle.scripts.proofs.script.EventLine.read_pairs.Goals as goal

pub returns-in_err-variable : goal.returns-in_err-variable
returns-in_err-variable c =
    let some = ap ended c.at_end.ensures.same ∙ sym c.at_end.ensures.value ∙ c.loop-self-test.true in
    let p = err_from_is_err_and c.from_residual.result c.from_residual.ensures.1 in
    rw (p.1, p.2)
    (misses_on _ _ _ _ _ (λ z. tt) c.in_err-variable.ensures
    (λ q e. c.loop-self.invariant ∙ ap (take_pairs (vec_items c.loop-self.inputs)) (sym c.at_end.ensures.same) ∙ pairs_no_variable _ _ some q e))

pub returns-in_err-value : goal.returns-in_err-value
returns-in_err-value c =
    let some = ap ended c.at_end.ensures.same ∙ sym c.at_end.ensures.value ∙ c.loop-self-test.true in
    let p = err_from_is_err_and c.from_residual-in_err-value.result c.from_residual-in_err-value.ensures.1 in
    rw (p.1, p.2)
    (misses_on _ _ _ _ _ (λ z. tt) c.in_err-value.ensures
    (λ q e. c.loop-self.invariant ∙ ap (take_pairs (vec_items c.loop-self.inputs)) (sym c.at_end.ensures.same) ∙ pairs_no_value _ _ some _ _ q c.in_ok-variable.ensures e))

pub loop-self-preserved : goal.loop-self-preserved
loop-self-preserved c =
    let some = ap ended c.at_end.ensures.same ∙ sym c.at_end.ensures.value ∙ c.loop-self-test.true in
    c.loop-self.invariant
    ∙ ap (take_pairs (vec_items c.loop-self.inputs)) (sym c.at_end.ensures.same)
    ∙ pairs_next _ _ some _ _ _ _ c.in_ok-variable.ensures c.in_ok-value.ensures
    ∙ ap (λ l. take_pairs l (left c.value.new.self)) (sym c.in_ok-push.ensures.items)

pub returns : goal.returns
returns c =
    let all = ap ended c.at_end.ensures.same ∙ sym c.at_end.ensures.value ∙ c.loop-self-test.false in
    c.loop-self.invariant ∙ ap (take_pairs (vec_items c.loop-self.inputs)) (sym c.at_end.ensures.same) ∙ pairs_all _ _ all
