use Rattle.std.proofs.Common.{Err, sym, subst, ◌∙◌}
use Rattle.std.proofs.lemmas.Result.{err_from_is_err_and}
use Rattle.headers.specs.Header.{plan}
use Rattle.listings.specs.Listing.{NeedsOf}
use Rattle.listings.proofs.Measuring.{cut_fails, measured}
use Rattle.listings.proofs.listing.needs_of.Goals as goal

pub returns-in_err-tokens : goal.returns-in_err-tokens
returns-in_err-tokens c =
    let out = err_from_is_err_and c.from_residual-in_err-tokens.result c.from_residual-in_err-tokens.ensures.1 in
    let failed = cut_fails c.args.project.now (plan c.in_ok-header.header) _ c.in_ok-header.ensures c.in_err-tokens.ensures in
    subst (NeedsOf c.args.project.now) (sym out.1) (subst (λ f. NeedsOf c.args.project.now (Err f)) (sym out.2) failed)

pub returns : goal.returns
returns c =
    let told = c.in_ok-tokens.ensures in
    measured c.args.project.now (plan c.in_ok-header.header) c.as_slice.result.now told.0 c.needs_in.result c.in_ok-header.ensures (c.as_slice.ensures.value ∙ told.1) told.2 c.needs_in.ensures
