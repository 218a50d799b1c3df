use Rattle.std.proofs.Common.{◌≡◌, ◌<◌, Some, sym, refl, ap, ◌∙◌, arith, inl, inr}
use Rattle.std.specs.Result.{result_ok}
use Rattle.std.proofs.lemmas.Option.{none-some, same_Some, MatchOption-at_some}
use Rattle.std.proofs.lemmas.Result.{Ok-from_Ok_iff}
use Rattle.std.proofs.lemmas.Bool.{cases_lt, lt-ltb, le-ltb}
use Rattle.base.proofs.NumeralLaws.{name_form}
use Rattle.lexer.proofs.Names.{name_read, narrowed}
use Rattle.lexer.proofs.piece.name.Goals as goal

pub returns-in_err-name : goal.returns-in_err-name
returns-in_err-name c = rw c.from_residual.ensures (λ i s. none-some i (c.in_err-name.ensures ∙ name_read _ i s))

pub returns-in_err-index : goal.returns-in_err-index
returns-in_err-index c = rw c.from_residual-in_err-index.ensures (λ i s.
    let same = same_Some _ _ (c.in_ok-name.ensures ∙ name_read _ i s) in
    none-some _ (c.in_err-index.ensures.value ∙ ap result_ok (Ok-from_Ok_iff _ _ _ c.try_from.ensures (omega (arith, same, s.1)))))

pub returns : goal.returns
returns c =
    let same = MatchOption-at_some (c.in_ok-name.field-0 < 65536 → ⊥) (λ x. x ≡ c.in_ok-name.field-0) _ (sym c.in_ok-index.ensures.value) (narrowed c.try_from.result _ _ (λ x. x ≡ c.in_ok-name.field-0) c.try_from.ensures (λ no. no) refl) in
    let is = sym c.in_ok-name.ensures ∙ ap Some (sym same) in
    elim (cases_lt c.in_ok-index.index 64) [
      | inl l ↦ rw (c.then_some.ensures, c.from.ensures, lt-ltb _ 64 l) (name_form _ _ is, l)
      | inr g ↦ rw (c.then_some.ensures, c.from.ensures, le-ltb _ 64 g) (λ i s. omega (arith, g, same_Some _ _ (sym is ∙ name_read _ i s), s.1))
    ]
