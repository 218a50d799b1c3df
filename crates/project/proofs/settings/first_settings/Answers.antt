use Rattle.std.proofs.Common.{◌++◌, ◌∷◌, [], vec_items, ap, ◌∙◌, arith}
use Rattle.std.proofs.lemmas.List.{get_or-take}
use Rattle.base.specs.Stores.{cells}
use Rattle.project.proofs.Collected.{values_more, values_all}
use Rattle.project.proofs.settings.first_settings.Goals as goal

pub loop-i-preserved : goal.loop-i-preserved
loop-i-preserved c =
    let xs = c.args.values.now in
    let done = vec_items c.loop-i.all in
    values_more _ (cells xs) c.loop-i.i c.args.count done c.loop-i.invariant _ (omega arith)
    (c.in_ok-push.ensures.items ∙ ap (λ v. done ++ (record { variable = c.loop-i.i; value = v } ∷ [])) (get_or-take c.args.count xs c.loop-i.i 0 (omega arith)))

pub returns : goal.returns
returns c = values_all _ (cells c.args.values.now) c.loop-i.i c.args.count (vec_items c.loop-i.all) c.loop-i.invariant (omega arith)
