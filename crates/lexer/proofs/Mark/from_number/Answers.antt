use Rattle.std.proofs.Common.{◌≡◌, ap, ◌∙◌, rules}
use Rattle.std.specs.List.{slice_get}
use Rattle.std.specs.Option.{unwrap_or}
use Rattle.lexer.specs.declared.Mark.TheVariants.{End}
use Rattle.lexer.specs.declared.text.TheConstants.{MARKS}
use Rattle.lexer.proofs.Marks.{mark_at}
use Rattle.lexer.proofs.Mark.from_number.Goals as goal

pub returns : goal.returns
returns c =
    let is : c.copied.result ≡ slice_get MARKS c.args.number = search rules in
    c.unwrap_or.ensures ∙ ap (λ o. unwrap_or o End) is ∙ mark_at c.args.number
