use Rattle.base.proofs.Checks.{made_from_answered}
use Rattle.controller.specs.Memory.{project}
use Rattle.trials.proofs.entries.first_scans.Goals as goal

pub returns : goal.returns
returns c =
    made_from_answered _ _ _ _ _ c.scan-2.ensures (λ n s means right.
    let p = project c.args.kept c.args.inputs.now c.args.firsts.now means in
    let new = c.in_ok-works.ensures.1.1.history c.args.inputs.now means in
    let on = (c.in_ok-start.ensures.1.1.follows c.args.inputs.now means).history _ new in
    let ran = (c.in_ok-scan.ensures.1.right means right).follows.history _ on in
    let set = (c.in_ok-force.ensures.1.1.follows p).history _ ran in
    (s.right means right).told _ set)
