use Rattle.std.proofs.Common.{◌≡◌, ◌-◌, length, refl, ap, ◌∙◌, arith}
use Rattle.std.proofs.lemmas.Result.{err_from_is_err_and}
use Rattle.base.specs.Stores.{cells}
use Rattle.vm.specs.Outcomes.{program_of}
use Rattle.controller.specs.World.{executed}
use Rattle.controller.specs.Memory.{project}
use Rattle.controller.proofs.Passed.{ready_as, cut_taken}
use Rattle.controller.proofs.Parts.{slice_length, part_same}
use Rattle.controller.proofs.Runs.{run_same}
use Rattle.controller.proofs.Scans.{each_meaning, cut_done}
use Rattle.controller.proofs.cut.Goals as goal

pub returns-in_err-commit_cut : goal.returns-in_err-commit_cut
returns-in_err-commit_cut c =
    let m = c.args.memory.now in
    let long = c.in_ok-held.ensures in
    let given = c.in_ok-given.ensures in
    let ready = ready_as long.1.0 c.in_ok-check_ready.ensures in
    let r = err_from_is_err_and c.from_residual-in_err-commit_cut.result c.from_residual-in_err-commit_cut.ensures.1 in
    rw (r.1, r.2) (
      cut_taken _ _ _ _ _ m (given.0, given.1.3) ready.0 long.1.1 _ (omega arith) long.0 ∙ c.in_err-commit_cut.ensures.0,
      part_same m _ c.in_err-commit_cut.ensures.1,
    )

pub returns : goal.returns
unfolding executed
returns c =
    let m = c.args.memory.now in
    let long = c.in_ok-held.ensures in
    let given = c.in_ok-given.ensures in
    let ready = ready_as long.1.0 c.in_ok-check_ready.ensures in
    let same = run_same c.args.gone given.1.0 given.1.1 given.1.2 long.1.0 in
    let dev = c.commit_cut.new.device in
    let size : length dev ≡ length m - 194 = omega (arith, slice_length m, c.commit_cut.auto.device) in (
      cut_taken _ _ _ _ _ m (given.0, given.1.3) ready.0 long.1.1 _ (omega arith) long.0 ∙ c.in_ok-commit_cut.ensures.0,
      (
        refl,
        each_meaning c.args.code.now _
            (cut_done (project c.args.kept c.args.inputs.now c.args.firsts.now (program_of 64 c.args.code.now)) (cells c.args.outside.now) c.args.gone m dev c.run-ran.result.values
            (omega (arith, long.1.1)) size ready.1.on (c.run-ran.ensures.values ∙ ap (λ r. r.store) same) c.args.k c.args.junk c.power_off.new.memory
            c.in_ok-commit_cut.ensures.1.cells_are c.power_off.ensures),
      ),
    )
