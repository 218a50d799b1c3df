use Rattle.std.proofs.Common.{refl}
use Rattle.semantics.proofs.Evaluating.{run_setting}
use Rattle.semantics.proofs.interpreter.Scan.delay.Goals as goal

pub returns-in-Setting-clause-runs : goal.returns-in-Setting-clause-runs
returns-in-Setting-clause-runs c e n h =
    let r = c.args.self.now in
    let on = c.value-on.ensures in
    let counts = rw (on.vars, on.same.elapsed) at c.count_time.ensures.counts in
    run_setting r.nodes.now r.elapsed r.vars.now r.fault c.in-Setting.condition c.in-Setting.preset c.args.out c.args.counter c.value-on.result c.value-on.new.self.fault _ c.count_time.new.vars
    on.values refl counts e n (c.in-Setting.ensures.setting e n h)
