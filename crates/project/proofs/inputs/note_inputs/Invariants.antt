use Rattle.std.proofs.Common.{◌≡◌, length, drop}
use Rattle.base.specs.Stores.{cells}
use Rattle.scripts.specs.Script.{inputs_after}
use Rattle.project.proofs.inputs.note_inputs.Given as goal

-- the inputs still to come lead to the same
abbrev pub invariant-loop-input : goal.invariant-loop-input
invariant-loop-input l = (length l.outside ≡ 64) × (inputs_after (cells l.initial.outside) l.inputs ≡ inputs_after (cells l.outside) (drop l.input-index l.inputs))
