use Rattle.std.proofs.Common.{◌<◌, vec_items, ap, ◌∙◌, arith}
use Rattle.base.specs.Stores.{cells}
use Rattle.project.proofs.Collected.{changed_more, changed_same, changed_all}
use Rattle.project.proofs.settings.changed_settings.Goals as goal
use Rattle.project.proofs.settings.changed_settings.Goals.{then-value-before+in_ok-push, else-value-before}

pub loop-i-preserved : goal.loop-i-preserved
loop-i-preserved c =
    let f = cells c.args.before.now in
    let g = cells c.args.shown.now in
    let i = c.loop-i.i in
    let h : i < 64 = omega arith in
    let done = vec_items c.loop-i.all in
    elim c.if-value-before.branch [
      | then-value-before+in_ok-push w ↦ changed_more _ f g i 64 done c.loop-i.invariant _ h w.if-value-before.true (ap vec_items w.all-is ∙ w.in_ok-push.ensures.items)
      | else-value-before w ↦ changed_same _ f g i 64 done c.loop-i.invariant _ h w.if-value-before.false (ap vec_items w.all-is)
    ]

pub returns : goal.returns
returns c = changed_all _ (cells c.args.before.now) (cells c.args.shown.now) c.loop-i.i 64 (vec_items c.loop-i.all) c.loop-i.invariant (omega arith)
