-- What was played of a project that is ready.
use Rattle.std.proofs.Common.{◌≡◌, ℕ, List, map, Ok, Err, string_bytes, String, sym, ◌∙◌, subst, arith}
use Rattle.std.specs.declared.alloc.Global.{Global}
use Rattle.semantics.specs.Eval.{meaning}
use Rattle.controller.specs.Memory.{project}
use Rattle.scripts.specs.declared.script.Event.{Event}
use Rattle.scripts.specs.Script.{request, read_script}
use Rattle.loading.specs.declared.load.Loaded.{Loaded}
use Rattle.compiler.specs.Right.{Compiled}
use Rattle.project.specs.declared.run.Parts.{Parts}
use Rattle.project.specs.declared.run.RunError.{RunError}
use Rattle.project.specs.declared.run.RunError.TheVariants.{Memory as NoMemory, Kept}
use Rattle.project.specs.Play.{played}
use Rattle.project.specs.Running.{ToldText, Writes}
use Rattle.project.specs.Loading.{Ready, Played, NotPlayed, PartsOf, failure_of}

-- what was played of a project that is ready
pub played_so : (text script : List ℕ) (l : Loaded) (parts : Parts) (lines : List Event) (answer : String Global) → Ready text l → PartsOf l parts → read_script script ≡ Ok (map request lines) →
    ToldText parts.kept parts.inputs.now parts.firsts.now parts.code.now lines (string_bytes answer) → Played text script answer
played_so text script l parts lines answer r of read told =
    let kept = of.kept ∙ r.same_kept in
    let inputs = of.inputs ∙ r.same_inputs in
    let firsts = of.firsts ∙ r.same_firsts in
    let same : played (project parts.kept parts.inputs.now parts.firsts.now (meaning r.program)) (map request lines) ≡ played (project r.plan.kept r.plan.inputs r.plan.firsts (meaning r.program)) (map request lines) =
    λ i. played (project (kept i) (inputs i) (firsts i) (meaning r.program)) (map request lines) in
    record {
      plan = r.plan;
      program = r.program;
      requests = map request lines;
      taken = r.taken;
      script_read = read;
      answer = told (meaning r.program) (subst (Compiled 64 (meaning r.program)) (sym of.code) r.compiled) ∙ same;
    }

-- events of a project that is ready are not played for want of memory alone
pub unplayed_so : (text script : List ℕ) (l : Loaded) (parts : Parts) (e : RunError) (lines : List Event) → Ready text l → PartsOf l parts →
    Writes parts.kept parts.inputs.now parts.firsts.now parts.code.now lines (Err e) → NotPlayed text script (failure_of e)
unplayed_so text script l parts NoMemory lines r of h = tt
unplayed_so text script l parts Kept lines r of h = absurd (omega (arith, r.taken.low, r.same_kept, of.kept))
