use Rattle.std.proofs.Common.{refl, arith}
use Rattle.std.proofs.lemmas.List.{get_or_past}
use Rattle.controller.proofs.Filled.{filled, filled_none, filled_more}
use Rattle.controller.proofs.lent.first_values.Goals as goal

pub loop-i-init : goal.loop-i-init
loop-i-init c = filled_none _ _ refl

pub loop-i-preserved : goal.loop-i-preserved
loop-i-preserved c = filled_more _ _ _ _ (omega arith) refl c.loop-i.invariant

pub returns : goal.returns
returns c = filled _ _ c.loop-i.invariant.long (λ i h. c.loop-i.invariant.front i (omega arith)) (λ i h. get_or_past c.args.firsts.now i 0 (omega arith))
