use Rattle.std.proofs.Common.{◌+◌, length, ◌≡◌, Some, None, [], sym, refl, ap, ◌∙◌, arith}
use Rattle.std.proofs.lemmas.Str.Pattern.{split_parts}
use Rattle.lines.specs.Words.{line, lines_on}
use Rattle.lines.proofs.LineCuts.{first_line, last_line}
use Rattle.lines.proofs.line.LinesIterator.next.Goals as goal

pub returns-in_default-clause-steps : goal.returns-in_default-clause-steps
returns-in_default-clause-steps c =
    let lacks = split_parts 10 c.in_ok-line.line.text.now None c.in_default.ensures.cases (omega arith) in
    let was = sym c.in_ok-line.ensures.value in
    let gone = c.take.ensures.after in
    rw (was, gone) (record { at = refl; whole = refl; lines = last_line _ _ lacks })

pub returns-clause-steps : goal.returns-clause-steps
returns-clause-steps c =
    let cut = split_parts 10 c.in_ok-line.line.text.now (Some (c.in-Some.text, c.in-Some.after)) c.in-Some.ensures.cases (omega arith) in
    let was = sym c.in_ok-line.ensures.value in
    let xs = c.in-Some.text.now in
    let ys = c.in-Some.after.now in
    let next : c.in_ok-line.line.at + (length xs + 1) ≡ c.in_ok-line.line.at + length xs + 1 = omega arith in
    rw was (record {
      at = refl;
      parts = cut.0;
      begins = omega arith;
      lines = first_line _ _ xs ys cut.0 cut.1 ∙ ap (λ n. line c.in_ok-line.line.at xs (lines_on n [] ys)) next;
    })
