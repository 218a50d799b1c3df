-- Which project texts and scripts are taken, why others are not, and what is played of those that are. Assumes nothing: these are definitions.
use Rattle.std.specs.Prelude.{◌≡◌, ℕ, List, map, Ok, Err, vec_items, string_bytes, Result, Vec, String}
use Rattle.std.specs.declared.alloc.Global.{Global}
use Rattle.base.specs.declared.Refusal.{Refusal}
use Rattle.base.specs.declared.Refusal.TheVariants.{Token as BadToken, Program as NoProgram, Limit, Room, Length, Off, Time, Stamp, Point}
use Rattle.syntax.specs.Ast.{Stmt}
use Rattle.semantics.specs.Eval.{meaning}
use Rattle.controller.specs.World.{Project}
use Rattle.controller.specs.Memory.{project}
use Rattle.headers.specs.Header.{Plan}
use Rattle.scripts.specs.declared.script.Event.{Event}
use Rattle.scripts.specs.Script.{Request, request, read_script}
use Rattle.loading.specs.declared.load.Failure.{Failure}
use Rattle.loading.specs.declared.load.Failure.TheVariants.{Memory, Header, Program, Script}
use Rattle.loading.specs.declared.load.Loaded.{Loaded}
use Rattle.project.specs.declared.run.Parts.{Parts}
pub use Rattle.loading.specs.Loading.{CutUp, ReadUp, Parsed, Taken, Passes, HeaderRefused, ProgramRefused, Declined, Ready, Loads, CutInto, Uncoded, CodedFor}
use Rattle.project.specs.declared.run.RunError.{RunError}
use Rattle.project.specs.declared.run.RunError.TheVariants.{Memory as NoMemory, Kept}
use Rattle.project.specs.Play.{played}

-- the project that a header and a program are
abbrev pub project_of : Plan → Stmt → Project
project_of h s = project h.kept h.inputs h.firsts (meaning s)

-- THE THEOREM: what is played of a project and a script that are taken is what the meaning of the project's tree makes of the script's events
pub record Played (project script : List ℕ) (text : String Global) : Type 0 where
  pub plan : Plan
  pub program : Stmt
  pub requests : List Request
  pub taken : Taken project plan program
  pub script_read : read_script script ≡ Ok requests
  pub answer : string_bytes text ≡ played (project_of plan program) requests

-- a script is refused at the first character that does not fit
abbrev pub ScriptRefused : (script : List ℕ) → Refusal → Type 0
ScriptRefused script (BadToken p) = read_script script ≡ Err p
ScriptRefused script (NoProgram p) = ⊥
ScriptRefused script (Limit p) = ⊥
ScriptRefused script (Room p) = ⊥
ScriptRefused script (Length p) = ⊥
ScriptRefused script Off = ⊥
ScriptRefused script Time = ⊥
ScriptRefused script Stamp = ⊥
ScriptRefused script (Point p) = ⊥

-- why a project and a script are not played: the project is not taken, or it is and the script can't be read
abbrev pub NotPlayed : (project script : List ℕ) → Failure → Type 0
NotPlayed project script Memory = Unit {0}
NotPlayed project script (Header e) = HeaderRefused project e
NotPlayed project script (Program e) = ProgramRefused project e
NotPlayed project script (Script e) = ((h : Plan) × (s : Stmt) × Taken project h s) × ScriptRefused script e

-- why events were not played, as a failure of the project
abbrev pub failure_of : RunError → Failure
failure_of NoMemory = Memory
failure_of Kept = Header (Length 0)

-- what `play` answers
abbrev pub Plays : (project script : List ℕ) → Result (String Global) Failure → Type 0
Plays project script (Ok text) = Played project script text
Plays project script (Err f) = NotPlayed project script f

-- a project that is ready, by its parts
pub record PartsOf (l : Loaded) (parts : Parts) : Type 0 where
  pub kept : parts.kept ≡ l.kept
  pub inputs : parts.inputs.now ≡ l.inputs
  pub firsts : parts.firsts.now ≡ l.firsts
  pub code : parts.code.now ≡ vec_items l.code

-- what reading a script answers
abbrev pub EventsOf : (script : List ℕ) → Result (Vec Event Global) Failure → Type 0
EventsOf script (Ok v) = read_script script ≡ Ok (map request (vec_items v))
EventsOf script (Err Memory) = Unit {0}
EventsOf script (Err (Header e)) = ⊥
EventsOf script (Err (Program e)) = ⊥
EventsOf script (Err (Script e)) = ScriptRefused script e
