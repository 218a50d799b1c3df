use Rattle.std.proofs.Common.{Ok, sym, refl, ap, ◌∙◌}
use Rattle.std.proofs.lemmas.Result.{err_from_is_err_and}
use Rattle.lines.proofs.Errors.{fails_on}
use Rattle.lines.proofs.Left.{all_ends, ends_more}
use Rattle.headers.proofs.HeaderLines.{header_begins, header_program, header_more, header_wrong}
use Rattle.headers.proofs.header.read_project.Goals as goal

pub loop-line-init : goal.loop-line-init
loop-line-init c =
    (tt, tt, all_ends _ _ c.new-lines.ensures, header_begins _ _ c.new-lines.ensures)

pub returns-in_err-read_line : goal.returns-in_err-read_line
returns-in_err-read_line c =
    let p = err_from_is_err_and c.from_residual.result c.from_residual.ensures.1 in
    rw (p.1, p.2) (fails_on ⊥ _ _ _ c.in_err-read_line.ensures (λ q e. c.loop-line.invariant.3 ∙ header_wrong _ _ _ q _ _ c.in-Some.ensures.steps e))

pub returns-then-branch : goal.returns-then-branch
returns-then-branch c =
    let told = c.in_ok-read_line.ensures ∙ ap (λ b. Ok (b, c.read_line.new.self)) c.if-branch.true in
    c.loop-line.invariant.3 ∙ header_program _ _ _ _ _ _ _ _ c.unwrap_or.ensures refl refl c.loop-line.invariant.2 c.in-Some.ensures.steps told ∙ ap Ok (sym c.finish.ensures)

pub loop-line-preserved : goal.loop-line-preserved
loop-line-preserved c =
    let told = c.in_ok-read_line.ensures ∙ ap (λ b. Ok (b, c.read_line.new.self)) c.if-branch.false in (
      tt,
      tt,
      ends_more _ _ _ _ c.loop-line.invariant.2 c.in-Some.ensures.steps,
      c.loop-line.invariant.3 ∙ header_more _ _ _ _ _ _ c.loop-line.invariant.2 c.in-Some.ensures.steps told,
    )
