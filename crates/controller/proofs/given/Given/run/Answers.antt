use Rattle.std.proofs.Common.{ap, ◌∙◌, arith}
use Rattle.base.specs.Stores.{cells}
use Rattle.base.specs.Words.{truthy}
use Rattle.controller.specs.Memory.{flags}
use Rattle.controller.proofs.Runs.{run_given}
use Rattle.controller.proofs.given.Given.run.Goals as goal

pub returns : goal.returns
returns c =
    let ran = run_given (flags c.args.self.inputs.now) (cells c.args.self.outside.now) c.args.memory.cells.now c.args.self.code.now c.image-values.result c.lamp.result c.args.gone (omega arith) c.image-values.ensures c.lamp.ensures in
    record { values = c.run.ensures.vars ∙ ap (λ r. r.store) ran; len = omega (arith, c.run.ensures.len); lamp = ap truthy (c.run.ensures.fault ∙ ap (λ r. r.fault) ran) }
