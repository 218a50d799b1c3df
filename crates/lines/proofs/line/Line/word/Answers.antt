use Rattle.std.proofs.Common.{sym, ap, ◌∙◌, arith}
use Rattle.std.proofs.lemmas.Bool.{eqb-true, eqb-false}
use Rattle.lines.specs.Reading.{left, take_word}
use Rattle.lines.proofs.Cuts.{begins_end}
use Rattle.lines.proofs.line.Line.word.Goals as goal

pub returns-then-is_empty : goal.returns-then-is_empty
unfolding left
returns-then-is_empty c =
    let none = eqb-true _ _ (sym c.is_empty.ensures ∙ c.if-is_empty.true) in
    ap take_word (sym c.skip_blanks.ensures.same ∙ begins_end _ _ none)

pub returns : goal.returns
unfolding left
returns c =
    let some = eqb-false _ _ (sym c.is_empty.ensures ∙ c.if-is_empty.false) in
    ap take_word (sym c.skip_blanks.ensures.same ∙ c.cut_word.ensures.words _ (omega arith) c.skip_blanks.ensures.first)
