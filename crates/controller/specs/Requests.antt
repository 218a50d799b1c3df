-- Why each request to a controller is refused, by the first check that fails. Assumes nothing: these are definitions.
use Rattle.std.specs.Prelude.{◌≡◌, ℕ, ◌<◌, ◌≤◌, List, length, None, Option, ◌==◌, nat_le, slice_index, slice_index_or}
use Rattle.base.specs.Refusals.{unless, or_else}
use Rattle.retain.specs.Device.{cell_count, stamp}
use Rattle.retain.specs.Entry.{stamp_refusal}
use Rattle.controller.specs.Layout.{variables, on_cell, memory_length}
use Rattle.controller.specs.Memory.{device_in}

-- more kept variables than there are
abbrev pub kept_refusal : (kept : ℕ) → Option (ℕ × ℕ)
kept_refusal kept = unless (nat_le kept variables) 5 0 None

-- a list of another length than is wanted, the parameter at `place` of the call
abbrev pub length_refusal : (have wanted place : ℕ) → Option (ℕ × ℕ)
length_refusal have wanted place = unless (have == wanted) 5 place None

-- the controller is off
abbrev pub power_refusal : (memory : List ℕ) → Option (ℕ × ℕ)
power_refusal memory = unless (slice_index memory on_cell == 1) 6 0 None

-- works and start: how many are kept, the first values, the memory
abbrev pub start_refusal : (kept : ℕ) → (firsts memory : List ℕ) → Option (ℕ × ℕ)
start_refusal kept firsts memory =
    or_else (kept_refusal kept) (or_else (length_refusal (length firsts) variables 1) (length_refusal (length memory) (memory_length kept) 2))

-- free, and force before it looks at the number: how many are kept, the memory at its place in the call, power, and the point
abbrev pub point_refusal : (kept point : ℕ) → (memory : List ℕ) → (place : ℕ) → Option (ℕ × ℕ)
point_refusal kept point memory place =
    or_else (kept_refusal kept) (or_else (length_refusal (length memory) (memory_length kept) place) (or_else (power_refusal memory) (unless (nat_le point 63) 9 0 None)))

-- force: that, and a number that is no word
abbrev pub force_refusal : (kept point number : ℕ) → (memory : List ℕ) → Option (ℕ × ℕ)
force_refusal kept point number memory = or_else (point_refusal kept point memory 3) (unless (nat_le number 65535) 9 1 None)

-- free: that, with the memory at place 2
abbrev pub free_refusal : (kept point : ℕ) → (memory : List ℕ) → Option (ℕ × ℕ)
free_refusal kept point memory = point_refusal kept point memory 2

-- what scan and cut are lent alike: how many are kept, which come from outside, the first values, and what is outside
abbrev pub lists_refusal : (kept : ℕ) → (inputs firsts outside : List ℕ) → Option (ℕ × ℕ)
lists_refusal kept inputs firsts outside =
    or_else (kept_refusal kept) (or_else (length_refusal (length inputs) variables 1) (or_else (length_refusal (length firsts) variables 2) (length_refusal (length outside) variables 4)))

-- and when they can't be done: without power, or at a time that is no word
abbrev pub ready_refusal : (elapsed : ℕ) → (memory : List ℕ) → Option (ℕ × ℕ)
ready_refusal elapsed memory = or_else (power_refusal memory) (unless (nat_le elapsed 65535) 7 0 None)

-- or at a stamp that can't be raised
abbrev pub run_refusal : (kept elapsed : ℕ) → (memory : List ℕ) → Option (ℕ × ℕ)
run_refusal kept elapsed memory = or_else (ready_refusal elapsed memory) (stamp_refusal (stamp kept (device_in memory)))

-- scan: what it is lent, in the order of the parameters, and then when it can't be done
abbrev pub scan_refusal : (kept : ℕ) → (inputs firsts outside : List ℕ) → (elapsed : ℕ) → (memory out writes : List ℕ) → Option (ℕ × ℕ)
scan_refusal kept inputs firsts outside elapsed memory out writes =
    or_else (lists_refusal kept inputs firsts outside) (or_else (length_refusal (length memory) (memory_length kept) 6)
    (or_else (length_refusal (length out) variables 7) (or_else (length_refusal (length writes) (cell_count kept) 8) (run_refusal kept elapsed memory))))

-- cut: the same, without outputs and writes
abbrev pub cut_refusal : (kept : ℕ) → (inputs firsts outside : List ℕ) → (elapsed : ℕ) → (memory : List ℕ) → Option (ℕ × ℕ)
cut_refusal kept inputs firsts outside elapsed memory =
    or_else (lists_refusal kept inputs firsts outside) (or_else (length_refusal (length memory) (memory_length kept) 8) (run_refusal kept elapsed memory))

-- what is known of works and start once their checks passed
pub record StartFits (kept : ℕ) (firsts memory : List ℕ) : Type 0 where
  pub low : kept ≤ variables
  pub firsts_long : length firsts ≡ variables
  pub memory_long : length memory ≡ memory_length kept

-- what is known of force and free
pub record PointFits (kept point : ℕ) (memory : List ℕ) : Type 0 where
  pub low : point < variables
  pub memory_long : length memory ≡ memory_length kept
  pub on : slice_index_or memory on_cell 0 ≡ 1

-- what is known of scan and cut by their lists
pub record ListsFit (kept : ℕ) (inputs firsts outside : List ℕ) : Type 0 where
  pub low : kept ≤ variables
  pub inputs_long : length inputs ≡ variables
  pub firsts_long : length firsts ≡ variables
  pub outside_long : length outside ≡ variables

-- and by the memory and the time
pub record Ready (elapsed : ℕ) (memory : List ℕ) : Type 0 where
  pub on : slice_index_or memory on_cell 0 ≡ 1
  pub word : elapsed ≤ 65535
