use Rattle.std.proofs.Common.{◌≡◌, ◌∷◌, Some, None, sym, ◌∙◌, arith}
use Rattle.std.proofs.lemmas.Str.Pattern.{starts_char, strip_prefix_char}
use Rattle.std.proofs.lemmas.Bool.{and_from, and_left, and_right, lt-ltb, le-ltb, eq-eqb}
use Rattle.std.proofs.lemmas.Bool.Decides.{same_from_decides, Decides-eqb}
use Rattle.base.proofs.NumeralLaws.{no_name, name_digits, name_zero}
use Rattle.base.proofs.numerals.name.Goals as goal
use Rattle.base.proofs.numerals.name.Goals.{In_ok-digits, else-digits-gt1-via-then-digits-gt1+else-starts_with, else-digits-gt1-via-else-digits-gt1}

after : (c : In_ok-digits) → c.args.word.now ≡ 118 ∷ c.in_ok-digits.digits.now
after c = strip_prefix_char 118 c.args.word.now (Some c.in_ok-digits.digits) c.in_ok-digits.ensures.cases (omega arith)

pub returns-in_err-digits : goal.returns-in_err-digits
returns-in_err-digits c =
    rw c.from_residual.ensures (sym (no_name _ (strip_prefix_char 118 c.args.word.now None c.in_err-digits.ensures.cases (omega arith))))

pub returns-then-starts_with : goal.returns-then-starts_with
returns-then-starts_with c =
    let first = (starts_char 48 c.in_ok-digits.digits.now _ c.starts_with.ensures.cases (omega arith) (omega arith)).0 c.if-starts_with.true in
    sym (name_zero _ _ (after (goal.at.returns-then-starts_with c).In_ok-digits) (and_from _ _ (lt-ltb _ _ c.if-digits-gt1.true) (eq-eqb _ _ first)))

pub returns-else-digits-gt1 : goal.returns-else-digits-gt1
returns-else-digits-gt1 c =
    c.number.ensures
    ∙ sym (name_digits _ _ (after (goal.at.returns-else-digits-gt1 c).In_ok-digits)
    (elim c.else-digits-gt1.branch [
      | else-digits-gt1-via-then-digits-gt1+else-starts_with w ↦
          and_right _ _ (sym (same_from_decides _ _ (starts_char 48 c.in_ok-digits.digits.now _ w.starts_with.ensures.cases (omega arith) (omega arith)) (Decides-eqb _ 48)) ∙ w.if-starts_with.false)
      | else-digits-gt1-via-else-digits-gt1 w ↦ and_left _ _ (le-ltb _ _ w.if-digits-gt1.false)
    ]))
