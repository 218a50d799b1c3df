use Rattle.std.proofs.Common.{◌<◌, length, arith}
use Rattle.scripts.specs.declared.script.Input.{Input}
use Rattle.project.proofs.Noted.{input_noted, input_passed, inputs_noted}
use Rattle.project.proofs.inputs.note_inputs.Goals as goal
use Rattle.project.proofs.inputs.note_inputs.Goals.{then-at-lt-VARIABLES, else-at-lt-VARIABLES}

pub loop-input-preserved : goal.loop-input-preserved
loop-input-preserved c =
    let d : Input = record { variable = 0; value = 0 } in
    let inside : c.loop-input.input-index < length c.args.inputs.now = omega arith in (
      c.if-at-lt-VARIABLES.array_long,
      elim c.if-at-lt-VARIABLES.branch [
        | then-at-lt-VARIABLES w ↦ input_noted _ _ c.args.inputs.now _ d c.loop-input.invariant.0 c.loop-input.invariant.1 _ inside w.if-at-lt-VARIABLES.true w.outside-is
        | else-at-lt-VARIABLES w ↦ input_passed _ _ c.args.inputs.now _ d c.loop-input.invariant.0 c.loop-input.invariant.1 _ inside w.if-at-lt-VARIABLES.false w.outside-is
      ],
    )

pub returns : goal.returns
returns c = inputs_noted _ _ c.args.inputs.now _ (record { variable = 0; value = 0 }) c.loop-input.invariant.0 c.loop-input.invariant.1 (omega arith)
