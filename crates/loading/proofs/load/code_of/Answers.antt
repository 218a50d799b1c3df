use Rattle.std.proofs.Common.{◌≡◌, refl, arith, Err}
use Rattle.std.proofs.lemmas.Result.{err_from_is_err_and}
use Rattle.loading.specs.declared.load.Failure.TheVariants.{Program}
use Rattle.loading.proofs.Loads.{uncoded_so, coded_so}
use Rattle.loading.proofs.Mapped.{mapped_ok, mapped_err}
use Rattle.loading.proofs.load.code_of.Goals as goal

pub returns-in_err-count : goal.returns-in_err-count
returns-in_err-count c =
    let made = mapped_err c.make.result c.map_err.result _ _ c.map_err.ensures.cases c.in_err-count.was in
    let out = err_from_is_err_and c.from_residual.result c.from_residual.ensures.1 in
    let is : c.from_residual.result ≡ Err (Program made.0) = cc (made.2, out.1, out.2) in
    uncoded_so c.args.tokens.now _ _ c.make.result made.0 c.from_residual.result (λ j. omega (arith, c.type_inv.tokens j)) refl c.make.ensures.makes c.make.ensures.enough made.1 is

pub returns : goal.returns
returns c =
    let made = mapped_ok c.make.result c.map_err.result _ _ c.map_err.ensures.cases c.in_ok-count.was in
    coded_so c.args.tokens.now _ c.make.new.room c.make.result c.in_ok-count.count c.in_ok-from_slice.field-0 c.make.ensures.makes c.make.ensures.right made c.in_ok-from_slice.ensures.items
