use Rattle.std.proofs.Common.{◌≡◌, length, take, subst, ◌∙◌, arith}
use Rattle.std.proofs.lemmas.List.{take_more, take_all}
use Rattle.controller.specs.Memory.{writes_in}
use Rattle.controller.proofs.Pairs.{handed_none, handed_more}
use Rattle.controller.proofs.lent.hand_out.Goals as goal

pub loop-i-init : goal.loop-i-init
loop-i-init c = handed_none _ _

pub loop-i-preserved : goal.loop-i-preserved
loop-i-preserved c = handed_more _ _ _ _ _ _ (omega arith) (take_more c.args.list.now c.loop-i.i (record { cell = 0; value = 0 }) (omega arith)) c.loop-i.invariant
