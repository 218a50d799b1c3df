use Rattle.std.proofs.Common.{subst}
use Rattle.lexer.specs.Outcome.{PlaceOfToken, EndsIfFewer}
use Rattle.lexer.proofs.token_place.Goals as goal

pub returns : goal.returns
returns c = record {
  begins = subst (λ l. PlaceOfToken l c.args.index c.place.result) c.as_bytes.ensures.value c.place.ensures.begins;
  fewer = subst (λ l. EndsIfFewer l c.args.index c.place.result) c.as_bytes.ensures.value c.place.ensures.fewer;
}
