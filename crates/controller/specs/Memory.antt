-- The state that lent memory holds, and the histories that it stands for. Assumes nothing: these are definitions.
use Rattle.std.specs.Prelude.{◌≡◌, ℕ, zero, suc, ◌+◌, Bool, cond, List, [], ◌∷◌, Some, None, Option, ◌==◌, slice_index}
use Rattle.base.specs.Stores.{Store, cells, region}
use Rattle.semantics.specs.Eval.{Program}
use Rattle.retain.specs.declared.Write.{Write}
use Rattle.controller.specs.World.{Project, Live, Event}
use Rattle.controller.specs.History.{State, after}
use Rattle.controller.specs.Layout.{variables, marks_from, forces_from, on_cell, lamp_cell, device_from}

-- the device in a memory
abbrev pub device_in : List ℕ → Store
device_in m i = slice_index m (device_from + i)

-- a mark is set exactly where its cell holds 1
unfoldable pub marks : Store → ℕ → Bool
marks r i = r i == 1

-- what a memory holds before the device
unfoldable pub live_in : List ℕ → Live
live_in m =
    record {
      on = (slice_index m on_cell == 1);
      store = region m 0 variables;
      lamp = (slice_index m lamp_cell == 1);
      forced = marks (region m marks_from variables);
      force = region m forces_from variables;
    }

-- what a point below 64 is forced to, if it is
abbrev pub forced_in : (memory : List ℕ) → ℕ → Option ℕ
forced_in m i = cond (slice_index m (marks_from + i) == 1) (Some (slice_index m (forces_from + i))) None

-- what the program sees of a point below 64, by the lent numbers
abbrev pub input_cell : (inputs outside memory : List ℕ) → ℕ → ℕ
input_cell inputs outside m i =
    cond (slice_index m (marks_from + i) == 1) (slice_index m (forces_from + i)) (cond (slice_index inputs i == 1) (slice_index outside i) (slice_index m i))

-- what goes out at a point below 64
abbrev pub output_cell : (memory values : List ℕ) → ℕ → ℕ
output_cell m values i = cond (slice_index m (marks_from + i) == 1) (slice_index m (forces_from + i)) (slice_index values i)

-- the state that a memory holds
abbrev pub state_in : List ℕ → State
state_in m = record { live = live_in m; device = device_in m }

-- a variable comes from outside exactly where its flag is 1
abbrev pub flags : (inputs : List ℕ) → ℕ → Bool
flags inputs i = slice_index inputs i == 1

-- the project that the parameters of a call describe, with a program
abbrev pub project : (kept : ℕ) → (inputs firsts : List ℕ) → Program → Project
project kept inputs firsts q = record { kept = kept; input = flags inputs; initial = cells firsts; program = q }

-- the memory of a controller with the project p stands for a history
abbrev pub StandsFor : Project → (memory : List ℕ) → List Event → Type 0
StandsFor p memory es = state_in memory ≡ after p es

-- the first n pairs of a list, from its cell k on, as writes
unfoldable pub writes_in : List ℕ → (k n : ℕ) → List Write
writes_in xs k zero = []
writes_in xs k (suc n) = record { cell = slice_index xs k; value = slice_index xs (k + 1) } ∷ writes_in xs (k + 2) n
