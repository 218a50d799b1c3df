use Rattle.std.proofs.Common.{◌≡◌, ◌+◌, length, arith, subst, sym}
use Rattle.lexer.specs.Outcome.{PlaceOfToken, EndsIfFewer}
use Rattle.lexer.proofs.Walks.{Passed, started, none_passed, skipped, run_out, next_place}
use Rattle.lexer.proofs.cut.place.Goals as goal
use Rattle.lexer.proofs.cut.place.Goals.{in-Some+else-is_none, in_default}

pub returns-then-is_none : goal.returns-then-is_none
returns-then-is_none c =
    let text = c.args.text.now in
    let new = c.new-tokens in
    let begun = started text new.result new.ensures.text new.ensures.place new.ensures.count in
    let told = run_out text new.result c.nth.new.self c.in-Some.before c.nth.result c.if-is_none.ensures begun c.nth.ensures.ran in
    let count : c.in-Some.before + 1 ≡ c.args.index = omega (arith, c.in-Some.ensures) in
    record { begins = subst (λ n. PlaceOfToken text n (length text)) count told.0; fewer = subst (λ n. EndsIfFewer text n (length text)) count told.1 }

passed : (c : goal.After-solid) → Passed c.args.text.now c.match-checked_sub.tokens c.args.index
passed c =
    let text = c.args.text.now in
    let new = c.new-tokens in
    let begun = started text new.result new.ensures.text new.ensures.place new.ensures.count in
    elim c.match-checked_sub.branch [
      | in-Some+else-is_none w ↦
          let rest = skipped text new.result w.nth.new.self w.in-Some.before w.nth.result begun w.nth.ensures.ran in
          let count : w.in-Some.before + 1 ≡ c.args.index = omega (arith, w.in-Some.ensures) in
          subst (λ n. Passed text c.match-checked_sub.tokens n) count (subst (λ t. Passed text t (w.in-Some.before + 1)) (sym w.tokens-is) rest)
      | in_default w ↦
          let count : 0 ≡ c.args.index = omega (arith, w.in_default.ensures) in
          subst (λ n. Passed text c.match-checked_sub.tokens n) count (subst (λ t. Passed text t 0) (sym w.tokens-is) (none_passed text new.result begun))
    ]

pub returns : goal.returns
returns c =
    let told = next_place c.args.text.now c.match-checked_sub.tokens c.args.index c.solid.result (passed c) c.solid.ensures.is c.solid.ensures.within in
    record { begins = told.0; fewer = told.1 }
