-- A controller at work: projects, events, and what each event does to all that is lost with the power. It knows no device, no memory layout and no language. Assumes nothing: these are definitions.
use Rattle.std.specs.Prelude.{ℕ, Bool, true, false, cond, ◌==◌, nat_lt}
use Rattle.base.specs.Stores.{Store, update}
use Rattle.base.specs.Words.{bit, truthy}
use Rattle.semantics.specs.Eval.{Values, Program}

-- how many variables are kept, which come from outside, what each is at first, and the program
pub record Project : Type 0 where
  pub kept : ℕ
  pub input : ℕ → Bool
  pub initial : Store
  pub program : Program

-- what is lost with the power: the variables, the fault lamp, which points are forced, and to what
pub record Live : Type 0 where
  pub on : Bool
  pub store : Store
  pub lamp : Bool
  pub forced : ℕ → Bool
  pub force : Store

-- what can happen; a cut is a scan whose save is broken off at write k, counted from 0, which leaves junk
pub data Event : Type 0 where
  start : Event
  scan : (inputs : ℕ → ℕ) → (elapsed : ℕ) → Event
  cut : (inputs : ℕ → ℕ) → (elapsed : ℕ) → (k junk : ℕ) → Event
  force : (i v : ℕ) → Event
  free : (i : ℕ) → Event

-- does an event need power; without it nothing but a start does anything
abbrev pub needs_power : Event → Bool
needs_power start = false
needs_power (scan inputs elapsed) = true
needs_power (cut inputs elapsed k junk) = true
needs_power (force i v) = true
needs_power (free i) = true

-- does an event save the kept values, or begin to
abbrev pub saves : Event → Bool
saves start = false
saves (scan inputs elapsed) = true
saves (cut inputs elapsed k junk) = true
saves (force i v) = false
saves (free i) = false

-- what the program sees of a point: what it is forced to, what comes from outside, or what it had
unfoldable pub input_image : (input : ℕ → Bool) → Live → (inputs : ℕ → ℕ) → Store
input_image input s inputs i = cond (s.forced i) (s.force i) (cond (input i) (inputs i) (s.store i))

-- what the program is given: what it sees of all points, and fault 1 where the lamp is lit already
abbrev pub given : (input : ℕ → Bool) → Live → (inputs : ℕ → ℕ) → Values
given input s inputs = record { store = input_image input s inputs; fault = bit s.lamp }

-- what the program makes of that, so long after the last scan
unfoldable pub executed : Project → Live → (inputs : ℕ → ℕ) → (elapsed : ℕ) → Values
executed p s inputs elapsed = p.program elapsed (given p.input s inputs)

-- what goes out of such values: a forced point is what it is forced to, whatever the program stored
unfoldable pub output_image : Live → (values : Store) → Store
output_image s values i = cond (s.forced i) (s.force i) (values i)

-- what goes out
unfoldable pub outputs : Live → Store
outputs s = output_image s s.store

-- without power
unfoldable pub off : Live
off = record { on = false; store = λ i. 0; lamp = false; forced = λ i. false; force = λ i. 0 }

-- after a start: kept variables as they were found, the others as at first, nothing forced, the lamp out
unfoldable pub started : Project → (found : Store) → Live
started p found =
    record { on = true; store = λ i. cond (nat_lt i p.kept) (found i) (p.initial i); lamp = false; forced = λ i. false; force = λ i. 0 }

-- after a scan: what the program made of the variables, and the lamp lit by any fault
unfoldable pub scanned : Project → (inputs : ℕ → ℕ) → (elapsed : ℕ) → Live → Live
scanned p inputs elapsed s =
    record { on = true; store = (executed p s inputs elapsed).store; lamp = truthy (executed p s inputs elapsed).fault; forced = s.forced; force = s.force }

-- once a point is forced to a number
unfoldable pub forced_at : ℕ → ℕ → Live → Live
forced_at i v s = record { on = true; store = s.store; lamp = s.lamp; forced = λ j. cond (j == i) true (s.forced j); force = update s.force i v }

-- once a point is free again
unfoldable pub freed_at : ℕ → Live → Live
freed_at i s = record { on = true; store = s.store; lamp = s.lamp; forced = λ j. cond (j == i) false (s.forced j); force = s.force }
