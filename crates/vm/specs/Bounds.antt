-- The machine with bounds: 32 values, 8 repetitions, so many variables. An instruction that would pass one is not done. Assumes nothing: these are definitions.
use Rattle.std.specs.Prelude.{ℕ, zero, suc, ◌+◌, Bool, true, false, cond, ◌&&◌, ◌||◌, List, length, ◌==◌, nat_lt, slice_index_or}
use Rattle.compiler.specs.Instr.{Instr, push, load, store, invert, binary, jump, jump_if_zero, enter, back, tick, stop}
use Rattle.compiler.specs.Machine.{Machine, step}

-- may an instruction be done: there is room for what it leaves on the stacks, and its variables are below size
abbrev pub allowed : (size : ℕ) → Instr → Machine → Bool
allowed size (push n) m = nat_lt (length m.stack) 32
allowed size (load i) m = nat_lt (m.base + i) size && nat_lt (length m.stack) 32
allowed size (store i) m = nat_lt (m.base + i) size
allowed size invert m = true
allowed size (binary o) m = true
allowed size (jump n) m = true
allowed size (jump_if_zero n) m = true
allowed size (enter n past) m = n == 0 || nat_lt (length m.control) 8
allowed size (back n) m = true
allowed size (tick out counter preset) m = nat_lt (m.base + out) size && nat_lt (m.base + counter) size
allowed size stop m = false

-- an instruction that is allowed is done, and any other leaves the machine as it is
abbrev pub bounded_step : (size elapsed : ℕ) → Instr → Machine → Machine
bounded_step size elapsed i m = cond (allowed size i m) (step elapsed i m) m

-- so many instructions, up to the first that is not allowed
unfoldable pub bounded_steps : (size : ℕ) → ℕ → (elapsed : ℕ) → List Instr → Machine → Machine
bounded_steps size zero elapsed code m = m
bounded_steps size (suc k) elapsed code m = bounded_steps size k elapsed code (bounded_step size elapsed (slice_index_or code m.pc stop) m)
