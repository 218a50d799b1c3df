use Rattle.std.proofs.Common.{◌≡◌, ◌-◌, length, refl, ap, ◌∙◌, subst, take, arith, length-take-le}
use mir.Val.{bool_byte}
use Rattle.std.proofs.lemmas.Result.{err_from_is_err_and}
use Rattle.base.specs.Stores.{cells}
use Rattle.base.specs.Words.{bit, truthy}
use Rattle.vm.specs.Outcomes.{program_of}
use Rattle.controller.specs.World.{executed, output_image}
use Rattle.controller.specs.Memory.{live_in, project, writes_in}
use Rattle.controller.proofs.Passed.{ready_as, scan_taken}
use Rattle.controller.proofs.Parts.{slice_length, part_same}
use Rattle.controller.proofs.Runs.{byte, run_same}
use Rattle.controller.proofs.Scans.{each_meaning, scan_done}
use Rattle.controller.proofs.scan.Goals as goal

pub returns-in_err-n : goal.returns-in_err-n
returns-in_err-n c =
    let m = c.args.memory.now in
    let long = c.in_ok-held.ensures in
    let given = c.in_ok-given.ensures in
    let ready = ready_as long.1.0 c.in_ok-check_ready.ensures in
    let r = err_from_is_err_and c.from_residual-in_err-n.result c.from_residual-in_err-n.ensures.1 in
    rw (r.1, r.2) (
      scan_taken _ _ _ _ _ m (given.0, given.1.3) ready.0 long.1.1 _ (omega arith) _ _ _ _ (omega arith)
          c.device_length.ensures long.0 c.in_ok-check_length.ensures.0 c.in_ok-check_length-2.ensures.0
          ∙ c.in_err-n.ensures.0,
      (part_same m _ c.in_err-n.ensures.1.0, refl, refl),
    )

pub returns : goal.returns
unfolding executed
returns c =
    let m = c.args.memory.now in
    let long = c.in_ok-held.ensures in
    let given = c.in_ok-given.ensures in
    let ready = ready_as long.1.0 c.in_ok-check_ready.ensures in
    let same = run_same c.args.gone given.1.0 given.1.1 given.1.2 long.1.0 in
    let dev = c.commit.new.device in
    let ran = c.run-ran.result in
    let n = c.in_ok-n.n in
    let done = c.in_ok-n.ensures.1 in
    let count : length (take n c.commit.new.writes) ≡ n = length-take-le n c.commit.new.writes (omega (arith, done.few)) in
    let size : length dev ≡ length m - 194 = omega (arith, slice_length m, c.commit.auto.device) in (
      scan_taken _ _ _ _ _ m (given.0, given.1.3) ready.0 long.1.1 _ (omega (arith, c.run-ran.ensures.len)) _ _ _ _ (omega arith)
          c.device_length.ensures long.0 c.in_ok-check_length.ensures.0 c.in_ok-check_length-2.ensures.0
          ∙ c.in_ok-n.ensures.0,
      each_meaning c.args.code.now _
          (scan_done (project c.args.kept c.args.inputs.now c.args.firsts.now (program_of 64 c.args.code.now)) (cells c.args.outside.now) c.args.gone m dev ran.values
          (omega (arith, long.1.1)) size ready.1.on (c.run-ran.ensures.values ∙ ap (λ r. r.store) same)
          c.store_values.new.memory (bool_byte ran.lamp) c.run-ran.ensures.len c.store_values.auto.memory done.applied c.store_values.ensures
          (byte ran.lamp ∙ ap bit (c.run-ran.ensures.lamp ∙ ap (λ r. truthy r.fault) same))
          c.copy_from_slice.new.self (ap cells c.copy_from_slice.ensures.after ∙ c.outputs-shown.ensures ∙ ap (λ x. output_image (live_in x) (cells ran.values)) long.1.0)
          c.args.writes.now c.hand_out.new.writes n
          (subst (λ k. writes_in c.hand_out.new.writes 0 k ≡ take n c.commit.new.writes) count c.hand_out.ensures.handed ∙ done.noted) (λ i h. c.hand_out.ensures.beyond i (omega (arith, count)))),
    )
