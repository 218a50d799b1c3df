use Rattle.std.proofs.Common.{◌≡◌, [], ◌∷◌, ◌++◌, refl, sym, subst, arith}
use Rattle.std.proofs.lemmas.Result.{err_from_is_err_and}
use Rattle.std.proofs.lemmas.List.{length_push}
use Rattle.base.specs.declared.Refusal.TheVariants.{Token as BadToken}
use Rattle.lexer.specs.Outcome.{Whole}
use Rattle.lexer.proofs.Walks.{started, taken, finished, refused}
use Rattle.lexer.proofs.cut.count.Goals as goal

pub loop-place-init : goal.loop-place-init
loop-place-init c = record { tokens = []; walked = started _ _ (cc) (cc) (cc); count = refl }

pub returns-in_err-ok_or : goal.returns-in_err-ok_or
returns-in_err-ok_or c =
    let p = err_from_is_err_and c.from_residual.result c.from_residual.ensures.1 in
    let step = rw c.in_err-ok_or.ensures.ok_part at c.in-Some.ensures.steps in
    let bad : c.in_err-ok_or.field-0.0 ≡ BadToken c.in-Some.place = grind (arith, c.in_err-ok_or.ensures.value, c.in_err-ok_or.ensures.ok_part) in
    rw (p.1, p.2) (c.in-Some.place, bad, refused _ _ c.next.new.self _ c.loop-place.invariant.walked _ step)

pub loop-place-preserved : goal.loop-place-preserved
loop-place-preserved c =
    let before = c.loop-place.invariant in
    let step = rw c.in_ok-ok_or.ensures.ok_part at c.in-Some.ensures.steps in
    record { tokens = before.tokens ++ c.in_ok-ok_or.field-0 ∷ []; walked = taken _ _ _ _ before.walked _ _ step; count = omega (arith, before.count, length_push before.tokens c.in_ok-ok_or.field-0) }

pub returns : goal.returns
returns c = subst (Whole c.args.text.now) (sym c.loop-place.invariant.count) (finished _ _ c.next.new.self _ c.loop-place.invariant.walked c.in-None.ensures.steps)
