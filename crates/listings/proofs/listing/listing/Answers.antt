use Rattle.std.proofs.Common.{Err, sym, ap, ◌∙◌, subst}
use Rattle.std.proofs.lemmas.Result.{err_from_is_err_and}
use Rattle.listings.specs.ListingText.{listing}
use Rattle.listings.specs.Listing.{Lists, ListsWithinNeeds, NeedsOf}
use Rattle.listings.proofs.Measuring.{memory_only, listed_within_needs}
use Rattle.listings.proofs.listing.listing.Goals as goal

pub returns-in_err-needs : goal.returns-in_err-needs
returns-in_err-needs c =
    let r = err_from_is_err_and c.from_residual-in_err-needs.result c.from_residual-in_err-needs.ensures.1 in
    let wanting = memory_only c.args.project.now c.in_ok-loaded.loaded r.0 c.in_ok-loaded.ensures.loads (subst (λ f. NeedsOf c.args.project.now (Err f)) (sym r.2) c.in_err-needs.ensures) in
    record { lists = subst (Lists c.args.project.now) (sym r.1) wanting; within = subst (ListsWithinNeeds c.args.project.now) (sym r.1) wanting }

pub returns : goal.returns
returns c =
    let n = c.in_ok-needs.needs in
    let same = ap (λ xs. listing xs n.cost n.height n.depth) c.as_slice.ensures.value in
    let within = listed_within_needs c.args.project.now c.in_ok-loaded.loaded n c.in_ok-listing_text.field-0 c.in_ok-loaded.ensures.within c.in_ok-needs.ensures (c.in_ok-listing_text.ensures ∙ same) in
    record { lists = within.listed; within = within }
