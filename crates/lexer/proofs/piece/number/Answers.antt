use Rattle.std.proofs.Common.{◌≡◌, sym, ◌∙◌, arith}
use Rattle.std.specs.Str.Parse.{digits_value, IsNumeral}
use Rattle.std.proofs.lemmas.Option.{none-some}
use Rattle.base.proofs.NumeralLaws.{number_told, number_made}
use Rattle.lexer.proofs.Names.{narrowed}
use Rattle.lexer.proofs.piece.number.Goals as goal

pub returns-in_err-number : goal.returns-in_err-number
returns-in_err-number c = rw c.from_residual.ensures (λ h l. none-some _ (c.in_err-number.ensures ∙ number_made _ h (omega (arith, l))))

pub returns : goal.returns
returns c =
    let told = number_told _ _ (sym c.in_ok-number.ensures) in
    rw c.ok.ensures.value (narrowed c.try_from.result _ _ (λ n. IsNumeral 10 c.args.word.now × (digits_value 10 c.args.word.now ≡ n)) c.try_from.ensures (λ no h l. no (omega (arith, told.1, l))) (told.0, told.1))
