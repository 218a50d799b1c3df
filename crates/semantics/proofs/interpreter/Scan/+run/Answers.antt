use Rattle.std.proofs.Common.{rules}
use Rattle.std.proofs.lemmas.Bool.{eq-eqb, ne_eqb}
use Rattle.syntax.proofs.OtherNodes.{only_skip}
use Rattle.semantics.proofs.Evaluating.{run_assign, run_seq, run_then, run_else, run_skip, rounds_more, rounds_all}
use Rattle.semantics.proofs.interpreter.Scan.+run.Goals as goal

pub returns-in-Assign-clause-runs : goal.returns-in-Assign-clause-runs
returns-in-Assign-clause-runs t c s h =
    let r = c.args.self.now in
    let new = c.value-new.ensures in
    let sets = rw new.vars at c.assign.ensures.sets in
    let valued = rw (← c.assign.ensures.fault) at new.values in
    run_assign r.nodes.now r.elapsed r.vars.now r.fault c.in-Assign.variable c.in-Assign.value c.value-new.result c.assign.new.self.fault c.assign.new.self.vars.now
    valued sets s (c.in-Assign.ensures.stmt s h)

pub returns-in-Seq-clause-runs : goal.returns-in-Seq-clause-runs
returns-in-Seq-clause-runs t c s h =
    let r = c.args.self.now in
    let first = c.run.ensures in
    let next = rw (first.same.nodes, first.same.elapsed) at c.run-in-Seq.ensures.runs in
    run_seq r.nodes.now r.elapsed r.vars.now r.fault c.in-Seq.first c.in-Seq.second c.run.new.self.fault c.run-in-Seq.new.self.fault c.run.new.self.vars.now c.run-in-Seq.new.self.vars.now
    first.same.kept first.runs next s (c.in-Seq.ensures.stmt s h)

pub returns-then-value-eq0-clause-runs : goal.returns-then-value-eq0-clause-runs
returns-then-value-eq0-clause-runs t c s h =
    let r = c.args.self.now in
    let test = c.value.ensures in
    let runs = rw (test.same.nodes, test.same.elapsed, test.vars) at c.run-then-value-eq0.ensures.runs in
    run_else r.nodes.now r.elapsed r.vars.now r.fault c.in-Branch.condition c.in-Branch.yes c.in-Branch.no c.value.result c.value.new.self.fault c.run-then-value-eq0.new.self.fault c.run-then-value-eq0.new.self.vars.now
    test.values (eq-eqb c.value.result 0 c.if-value-eq0.true) runs s (c.in-Branch.ensures.stmt s h)

pub returns-else-value-eq0-clause-runs : goal.returns-else-value-eq0-clause-runs
returns-else-value-eq0-clause-runs t c s h =
    let r = c.args.self.now in
    let test = c.value.ensures in
    let runs = rw (test.same.nodes, test.same.elapsed, test.vars) at c.run-else-value-eq0.ensures.runs in
    run_then r.nodes.now r.elapsed r.vars.now r.fault c.in-Branch.condition c.in-Branch.yes c.in-Branch.no c.value.result c.value.new.self.fault c.run-else-value-eq0.new.self.fault c.run-else-value-eq0.new.self.vars.now
    test.values (ne_eqb c.value.result 0 c.if-value-eq0.false) runs s (c.in-Branch.ensures.stmt s h)

pub loop-round-preserved : goal.loop-round-preserved
loop-round-preserved t c =
    let r = c.args.self.now in
    let loop = c.loop-round in
    let so_far = loop.invariant.same in
    let runs = rw (so_far.nodes, so_far.elapsed) at c.run-in-loop-round.ensures.runs in
    record {
      same = search rules;
      left = rounds_more r.nodes.now c.in-Repeat.body r.elapsed c.in-Repeat.rounds r.vars.now r.fault loop._round loop.self.vars.now loop.self.fault c.run-in-loop-round.new.self.vars.now c.run-in-loop-round.new.self.fault
          c.loop-round-test.true so_far.kept loop.invariant.left runs;
    }

pub returns-after-loop-round-clause-runs : goal.returns-after-loop-round-clause-runs
returns-after-loop-round-clause-runs t c s h =
    let r = c.args.self.now in
    let loop = c.loop-round in
    rounds_all r.nodes.now c.in-Repeat.body r.elapsed c.in-Repeat.rounds r.vars.now r.fault loop._round loop.self.vars.now loop.self.fault c.loop-round-test.false loop.invariant.left s (c.in-Repeat.ensures.stmt s h)

pub returns-in_default-clause-runs : goal.returns-in_default-clause-runs
returns-in_default-clause-runs t c s h =
    let r = c.args.self.now in
    let d = c.in_default in
    run_skip r.elapsed r.vars.now r.fault s (only_skip r.nodes.now c.node_at.result d.not-Assign d.not-Seq d.not-Branch d.not-Repeat d.not-Delay s (c.node_at.ensures.stmt s h))
