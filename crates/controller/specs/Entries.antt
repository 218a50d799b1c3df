-- What the entries leave in what they are lent. Assumes nothing: these are definitions.
use Rattle.std.specs.Prelude.{◌≡◌, ℕ, ◌+◌, ◌*◌, ◌<◌, ◌≤◌, List, [], ◌∷◌, slice_index, slice_index_or, slice_set}
use Rattle.base.specs.Stores.{Store, cells}
use Rattle.base.specs.Words.{bit, truthy}
use Rattle.semantics.specs.Eval.{Values, Program}
use Rattle.compiler.specs.Right.{Compiled}
use Rattle.vm.specs.Outcomes.{program_of, Ends}
use Rattle.retain.specs.Device.{recovered, apply_writes, cut_writes, effective_writes, factory as new_device}
use Rattle.controller.specs.World.{Project, Event, start, scan, cut, force, free, executed, outputs, scanned}
use Rattle.controller.specs.Story.{tale}
use Rattle.controller.specs.History.{react, save, after}
use Rattle.controller.specs.Decided.{decided}
use Rattle.controller.specs.Promises.{AsTold}
use Rattle.controller.specs.Layout.{variables, marks_from, forces_from, on_cell, lamp_cell, device_from}
use Rattle.controller.specs.Memory.{live_in, device_in, state_in, project, StandsFor, writes_in}

-- P holds for the program that any code is, and for every program that the code is right for; such code comes to its end from any values,
-- so that a run of it is never left early and never uses its budget up
pub record EachMeaning (code : List ℕ) (P : Program → Type 0) : Type 0 where
  pub any : P (program_of variables code)
  pub right : (means : Program) → Compiled variables means code → P means
  pub ends : (means : Program) → Compiled variables means code → (elapsed : ℕ) (r : Values) → Ends variables code elapsed r

-- memory₁ is what the event makes of memory, whatever memory held; so it stands for every history of memory with the event added,
-- and is as the tale of that history says
pub record Follows (p : Project) (e : Event) (memory memory₁ : List ℕ) : Type 0 where
  pub reacts : state_in memory₁ ≡ react p e (state_in memory)
  pub history : (es : List Event) → StandsFor p memory es → StandsFor p memory₁ (e ∷ es)
  pub told : (es : List Event) → StandsFor p memory es → AsTold p (e ∷ es) (state_in memory₁)

-- nothing is held before the device
pub record Blank (memory : List ℕ) : Type 0 where
  pub blank : (k : ℕ) → k < device_from → slice_index memory k ≡ 0

-- a new controller: nothing but a device with the first values; it stands for the empty history, whatever its inputs and its program
pub record New (kept : ℕ) (firsts memory₁ : List ℕ) : Type 0 where
  pub blank : Blank memory₁
  pub device : device_in memory₁ ≡ new_device kept (cells firsts)
  pub history : (inputs : List ℕ) (q : Program) → StandsFor (project kept inputs firsts q) memory₁ []
  pub told : (inputs : List ℕ) (q : Program) → AsTold (project kept inputs firsts q) [] (state_in memory₁)

-- after a start: kept values as the device holds them, the others as at first, no point forced, on, the lamp out, the device as it was
pub record Started (kept : ℕ) (firsts memory memory₁ : List ℕ) : Type 0 where
  pub follows : (inputs : List ℕ) (q : Program) → Follows (project kept inputs firsts q) start memory memory₁
  pub found : (i : ℕ) → i < kept → slice_index memory₁ i ≡ recovered kept (device_in memory) i
  pub first : (i : ℕ) → kept ≤ i → i < variables → slice_index memory₁ i ≡ slice_index firsts i
  pub free : (k : ℕ) → marks_from ≤ k → k < on_cell → slice_index memory₁ k ≡ 0
  pub on : slice_index_or memory₁ on_cell 0 ≡ 1
  pub lamp : slice_index_or memory₁ lamp_cell 0 ≡ 0
  pub device : device_in memory₁ ≡ device_in memory

-- a point is forced: its mark is 1, its number stands in its cell, and nothing else is touched
pub record Forced (point number : ℕ) (memory memory₁ : List ℕ) : Type 0 where
  pub written : memory₁ ≡ slice_set (slice_set memory (marks_from + point) 1) (forces_from + point) number
  pub follows : (p : Project) → Follows p (force point number) memory memory₁

-- a point is free again: its mark is 0, and nothing else is touched
pub record Freed (point : ℕ) (memory memory₁ : List ℕ) : Type 0 where
  pub written : memory₁ ≡ slice_set memory (marks_from + point) 0
  pub follows : (p : Project) → Follows p (free point) memory memory₁

-- after a scan: the values and the lamp that the program made, the writes of the save done in the device and handed out in their order,
-- all else as it was; and the outputs are shown, which are those of every history of memory with the scan added, and of its tale
pub record Scanned (p : Project) (inputs : Store) (elapsed : ℕ) (memory writes memory₁ out₁ writes₁ : List ℕ) (n : ℕ) : Type 0 where
  pub follows : Follows p (scan inputs elapsed) memory memory₁
  pub values : (i : ℕ) → i < variables → slice_index memory₁ i ≡ (executed p (live_in memory) inputs elapsed).store i
  pub untouched : (k : ℕ) → marks_from ≤ k → k < lamp_cell → slice_index memory₁ k ≡ slice_index memory k
  pub lamp : slice_index_or memory₁ lamp_cell 0 ≡ bit (truthy (executed p (live_in memory) inputs elapsed).fault)
  pub device : device_in memory₁ ≡ apply_writes (device_in memory) (save p (state_in memory) inputs elapsed)
  pub shows : cells out₁ ≡ outputs (scanned p inputs elapsed (live_in memory))
  pub history : (es : List Event) → StandsFor p memory es → cells out₁ ≡ outputs (after p (scan inputs elapsed ∷ es)).live
  pub told : (es : List Event) → StandsFor p memory es → cells out₁ ≡ outputs (tale p (decided p (scan inputs elapsed ∷ es))).live
  pub handed : writes_in writes₁ 0 n ≡ effective_writes (device_in memory) (save p (state_in memory) inputs elapsed)
  pub beyond : (i : ℕ) → 2 * n ≤ i → slice_index writes₁ i ≡ slice_index writes i

-- after a cut there is nothing but the device, as the cut save left it
pub record CutOff (p : Project) (inputs : Store) (elapsed k junk : ℕ) (memory memory₁ : List ℕ) : Type 0 where
  pub follows : Follows p (cut inputs elapsed k junk) memory memory₁
  pub blank : Blank memory₁
  pub device : device_in memory₁ ≡ cut_writes (device_in memory) (save p (state_in memory) inputs elapsed) k junk
