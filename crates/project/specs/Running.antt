-- What is promised of a run of events, and of each of them. Assumes nothing: these are definitions.
use Rattle.std.specs.Prelude.{◌≡◌, ℕ, ◌^◌, ◌<◌, ◌≤◌, List, map, length, replicate, Ok, Err, vec_items, string_bytes, Result, Vec, String}
use Rattle.std.specs.declared.alloc.Global.{Global}
use Rattle.base.specs.Stores.{cells}
use Rattle.semantics.specs.Eval.{Program}
use Rattle.compiler.specs.Right.{Compiled}
use Rattle.controller.specs.World.{Project, Event}
use Rattle.controller.specs.Story.{Decision, tale}
use Rattle.controller.specs.History.{after}
use Rattle.controller.specs.Decided.{decide, decided}
use Rattle.controller.specs.Memory.{project, StandsFor}
use Rattle.controller.specs.Entries.{New}
use Rattle.scripts.specs.Script.{Request, request, inputs_after}
use Rattle.scripts.specs.declared.script.Input.{Input}
use Rattle.scripts.specs.declared.script.Event.{Event as Line}
use Rattle.reports.specs.declared.report.Report.{Report}
use Rattle.project.specs.declared.player.Player.{Player}
use Rattle.project.specs.declared.run.Parts.{Parts}
use Rattle.project.specs.declared.run.RunError.{RunError}
use Rattle.project.specs.declared.run.RunError.TheVariants.{Memory, Kept}
use Rattle.reports.specs.Reports.{Said, said}
use Rattle.project.specs.Play.{Scene, event_of, act, report, taken, tells, played}

-- the scene after a history, with what was said of the inputs and what was last shown
abbrev pub scene_of : Project → List Event → (outside shown : List ℕ) → Scene
scene_of p es outside shown = record { tale = tale p (decided p es); outside = cells outside; shown = cells shown }

-- what the device decides of a line after a history
abbrev pub decision_of : Project → List Event → (outside : List ℕ) → Request → Decision
decision_of p es outside r = decide p (event_of (cells outside) r) (after p es)

-- a line was played: it was told as the story tells it, and memory, inputs and what is shown are those of the scene after it
pub record Went (p : Project) (es : List Event) (r : Request) (outside shown memory₁ outside₁ shown₁ : List ℕ) (told : List Said) : Type 0 where
  pub says : told ≡ report p r (decision_of p es outside r) (scene_of p es outside shown)
  pub stands : StandsFor p memory₁ (taken p es (cells outside) r)
  pub scene : act p r (decision_of p es outside r) (scene_of p es outside shown) ≡ scene_of p (taken p es (cells outside) r) outside₁ shown₁

-- so it goes for every program that the code is right for, and every history that the memory stands for
abbrev pub Goes : (kept : ℕ) → (inputs firsts code : List ℕ) → Request → (memory outside shown memory₁ outside₁ shown₁ : List ℕ) → List Said → Type 0
Goes kept inputs firsts code r memory outside shown memory₁ outside₁ shown₁ told =
    (means : Program) → Compiled 64 means code → (es : List Event) → length es < 2 ^ 61 → StandsFor (project kept inputs firsts means) memory es →
    Went (project kept inputs firsts means) es r outside shown memory₁ outside₁ shown₁ told

-- a line that names inputs was played, once these were noted
abbrev pub GoesNoted : (kept : ℕ) → (inputs firsts code : List ℕ) → (line : List Input → Request) → (memory outside shown memory₁ shown₁ : List ℕ) → List Said → Type 0
GoesNoted kept inputs firsts code line memory outside shown memory₁ shown₁ told =
    (before : List ℕ) (named : List Input) → cells outside ≡ inputs_after (cells before) named →
    Goes kept inputs firsts code (line named) memory before shown memory₁ outside shown₁ told

-- a line was played of a project by its parts, from one player to another
pub record Moves (p : Player) (r : Request) (q : Player) (told : List Said) : Type 0 where
  pub same : q.project ≡ p.project
  pub goes : Goes p.project.kept p.project.inputs.now p.project.firsts.now p.project.code.now r p.memory.now p.outside p.shown q.memory.now q.outside q.shown told

-- a player of a project begins as it leaves the factory, nothing said and nothing shown; or there are too many kept variables; or there is no memory
pub record Opened (l : Parts) (p : Player) : Type 0 where
  pub same : p.project ≡ l
  pub made : New l.kept l.firsts.now p.memory.now
  pub unsaid : p.outside ≡ replicate 64 0
  pub unshown : p.shown ≡ replicate 64 0

abbrev pub Opens : Parts → Result Player RunError → Type 0
Opens l (Ok p) = Opened l p
Opens l (Err Kept) = 64 < l.kept
Opens l (Err Memory) = Unit {0}

-- what is told is what the story tells, for every program that the code is right for
abbrev pub Told : (kept : ℕ) → (inputs firsts code : List ℕ) → List Line → List Said → Type 0
Told kept inputs firsts code lines told =
    (means : Program) → Compiled 64 means code → told ≡ tells (project kept inputs firsts means) (map request lines)

-- a whole run: so it is with what is reported; or there are too many kept variables; or there is no memory
abbrev pub Runs : (kept : ℕ) → (inputs firsts code : List ℕ) → List Line → Result (Vec Report Global) RunError → Type 0
Runs kept inputs firsts code lines (Ok v) = (kept ≤ 64) × Told kept inputs firsts code lines (map said (vec_items v))
Runs kept inputs firsts code lines (Err Kept) = 64 < kept
Runs kept inputs firsts code lines (Err Memory) = Unit {0}

-- a text is the one that the story tells, for every program that the code is right for
abbrev pub ToldText : (kept : ℕ) → (inputs firsts code : List ℕ) → List Line → List ℕ → Type 0
ToldText kept inputs firsts code lines text =
    (means : Program) → Compiled 64 means code → text ≡ played (project kept inputs firsts means) (map request lines)

-- a whole run as a text: so it is with what is written
abbrev pub Writes : (kept : ℕ) → (inputs firsts code : List ℕ) → List Line → Result (String Global) RunError → Type 0
Writes kept inputs firsts code lines (Ok s) = (kept ≤ 64) × ToldText kept inputs firsts code lines (string_bytes s)
Writes kept inputs firsts code lines (Err Kept) = 64 < kept
Writes kept inputs firsts code lines (Err Memory) = Unit {0}
