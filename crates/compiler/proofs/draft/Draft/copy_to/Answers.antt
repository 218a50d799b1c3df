use Rattle.std.proofs.Common.{◌∙◌, arith}
use Rattle.compiler.proofs.Drafts.{copied_none, copied_more}
use Rattle.compiler.proofs.draft.Draft.copy_to.Goals as goal

pub loop-place-init : goal.loop-place-init
loop-place-init c = copied_none c.args.room.now

pub loop-place-preserved : goal.loop-place-preserved
loop-place-preserved c =
    copied_more _ _ c.args.room.now c.loop-place.room _ c.loop-place.place _ c.loop-place-test.true (omega arith) (omega arith) (c.copy_from_slice.ensures.after ∙ c.numbers.ensures) c.loop-place.invariant
