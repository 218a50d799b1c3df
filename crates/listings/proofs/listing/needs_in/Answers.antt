use Rattle.std.proofs.Common.{sym, subst}
use Rattle.std.proofs.lemmas.Result.{err_from_is_err_and}
use Rattle.syntax.specs.Outcomes.{Parses}
use Rattle.listings.specs.Listing.{NeedsIn}
use Rattle.listings.proofs.Measuring.{not_refused, tree_measured}
use Rattle.loading.proofs.Mapped.{mapped_ok, mapped_err}
use Rattle.listings.proofs.listing.needs_in.Goals as goal

pub returns-in_err-tree : goal.returns-in_err-tree
returns-in_err-tree c =
    let refused = mapped_err c.parse.result c.map_err.result _ _ c.map_err.ensures.cases c.in_err-tree.was in
    let out = err_from_is_err_and c.from_residual.result c.from_residual.ensures.1 in
    subst (NeedsIn c.args.tokens.now) (sym out.1) (not_refused c.args.tokens.now refused.0 (subst (Parses c.args.tokens.now) refused.1 c.parse.ensures))

pub returns : goal.returns
returns c =
    let parsed = mapped_ok c.parse.result c.map_err.result _ _ c.map_err.ensures.cases c.in_ok-tree.was in
    let told = subst (Parses c.args.tokens.now) parsed c.parse.ensures in
    tree_measured c.args.tokens.now c.in_ok-tree.tree.nodes c.in_ok-tree.tree.root _ told.1 c.needs.ensures
