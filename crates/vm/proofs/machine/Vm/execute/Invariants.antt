use Rattle.std.proofs.Common.{◌≡◌, length, map}
use Rattle.vm.specs.Bounds.{bounded_steps}
use Rattle.compiler.specs.Code.{instr_at}
use Rattle.vm.specs.State.{machine_of}
use Rattle.vm.proofs.machine.Vm.execute.Given as goal

abbrev pub invariant-loop-left : goal.invariant-loop-left
invariant-loop-left l =
    bounded_steps (length l.initial.vars) l.left l.elapsed (map instr_at l.code) (machine_of l.self l.items l.vars)
    ≡ bounded_steps (length l.initial.vars) l.budget l.elapsed (map instr_at l.code) (machine_of l.initial.self l.initial.items l.initial.vars)

abbrev pub decreases-loop-left : goal.decreases-loop-left
decreases-loop-left l = l.left
