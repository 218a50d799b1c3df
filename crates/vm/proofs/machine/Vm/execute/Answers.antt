use Rattle.std.proofs.Common.{refl, ◌∙◌}
use Rattle.vm.proofs.RunLaws.{again, ended, spent, trapped}
use Rattle.vm.proofs.machine.Vm.execute.Goals as goal

pub returns-then-not-step : goal.returns-then-not-step
returns-then-not-step c =
    trapped _ _ _ _ _ _ _ _ c.if-self-code.true (rw c.loop-left.auto.vars at (c.step.ensures c.loop-left.self.pc refl)) c.if-not-step.true ∙ c.loop-left.invariant

pub loop-left-preserved : goal.loop-left-preserved
loop-left-preserved c =
    again _ _ _ _ _ _ _ _ c.loop-left-test.true c.if-self-code.true (rw c.loop-left.auto.vars at (c.step.ensures c.loop-left.self.pc refl)) c.if-not-step.false ∙ c.loop-left.invariant

pub returns-else-self-code : goal.returns-else-self-code
returns-else-self-code c = ended _ _ _ _ _ c.if-self-code.false ∙ c.loop-left.invariant

pub returns-after-loop-left : goal.returns-after-loop-left
returns-after-loop-left c = spent _ _ _ _ _ c.loop-left-test.false ∙ c.loop-left.invariant
