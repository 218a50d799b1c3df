use Rattle.std.proofs.Common.{sym, ◌∙◌, arith}
use Rattle.std.proofs.lemmas.Str.Pattern.{starts_char}
use Rattle.std.proofs.lemmas.Bool.{both_ways}
use Rattle.base.proofs.NumeralLaws.{plus_none, number_from_parse}
use Rattle.base.proofs.numerals.number.Goals as goal

pub returns-then-starts_with : goal.returns-then-starts_with
returns-then-starts_with c =
    sym (plus_none _ ((starts_char 43 c.args.word.now _ c.starts_with.ensures.cases (omega arith) (omega arith)).0 c.if-starts_with.true))

pub returns-else-starts_with : goal.returns-else-starts_with
returns-else-starts_with c =
    c.ok.ensures.value
    ∙ number_from_parse c.args.word.now c.parse.result c.parse.ensures.value.0
    (λ e. both_ways _ c.if-starts_with.false ((starts_char 43 c.args.word.now _ c.starts_with.ensures.cases (omega arith) (omega arith)).1 e))
