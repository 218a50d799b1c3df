-- What the functions say: what is refused, and what the lent lists are afterwards. Assumes nothing.
use Rattle.std.specs.Prelude.{◌≡◌, ℕ, ◌+◌, ◌-◌, ◌^◌, ◌<◌, ◌≤◌, Bool, true, false, cond, not, List, [], ◌∷◌, length, take, drop, Some, None, Option, ◌==◌, nat_le, nat_lt, slice_index, slice_set}
use Rattle.base.specs.Stores.{Store, cells}
use Rattle.base.specs.Refusals.{unless, or_else}
use Rattle.retain.specs.declared.slots.Slot.{Slot}
use Rattle.retain.specs.declared.slots.Slot.TheVariants.{Lower, Upper}
use Rattle.retain.specs.declared.Write.{Write}
use Rattle.retain.specs.declared.slots.Target.{Target}
use Rattle.retain.specs.Device.{cell_count, slot_base, current, stamp, recovered, commit_writes, apply_writes, cut_writes, effective_writes, write_count, factory, came_out, Sound, Holds}
use Rattle.retain.specs.Story.{cut_leaves, story}
use Rattle.retain.specs.History.{Op, committed, cut, after, told}

-- the slot of the two that is meant
abbrev pub upper : Slot → Bool
upper Lower = false
upper Upper = true

-- why a device for so many values, with a list of n values, is refused, if it is
abbrev pub shape_refusal : (kept : ℕ) (device : List ℕ) (n : ℕ) → Option (ℕ × ℕ)
shape_refusal kept device n =
    unless (nat_le kept 64) 5 0 (unless (length device == cell_count kept) 5 1 (unless (nat_le kept n) 5 2 None))

-- why a stamp is refused
abbrev pub stamp_refusal : ℕ → Option (ℕ × ℕ)
stamp_refusal s = unless (nat_lt s (2 ^ 62)) 8 0 None

-- why a commit is refused, with a room for so many writes
abbrev pub commit_refusal : (kept : ℕ) (device : List ℕ) (n room : ℕ) → Option (ℕ × ℕ)
commit_refusal kept device n room =
    or_else (shape_refusal kept device n) (unless (nat_le (kept + 2) room) 5 3 (stamp_refusal (stamp kept (cells device))))

-- why a cut commit is refused
abbrev pub cut_refusal : (kept : ℕ) (device : List ℕ) (n : ℕ) → Option (ℕ × ℕ)
cut_refusal kept device n = or_else (shape_refusal kept device n) (stamp_refusal (stamp kept (cells device)))

-- where a commit goes
pub record Next (kept : ℕ) (d : Store) (t : Target) : Type 0 where
  pub cell_is : t.cell ≡ slot_base kept (not (current kept d))
  pub stamp_is : t.stamp ≡ stamp kept d + 1

-- the writes of a commit there, counted by i: the stamp, the values, and the stamp again
abbrev pub slot_write : ℕ → Target → Store → ℕ → Write
slot_write kept t v i = record { cell = t.cell + i; value = cond (i == 0) t.stamp (cond (i == kept + 1) t.stamp (v (i - 1))) }

-- the device is as it leaves the factory, where every history begins: sound, and recovery finds the first values
pub record Formatted (kept : ℕ) (first device₁ : List ℕ) : Type 0 where
  pub cells_are : cells device₁ ≡ factory kept (cells first)
  pub holds : Holds kept (cells device₁) (cells first)
  pub history : cells device₁ ≡ after kept (cells first) []

-- what is copied out is what recovery finds, after every history what the story says, and nothing else is written
pub record Recovered (kept : ℕ) (device out out₁ : List ℕ) : Type 0 where
  pub inside : (i : ℕ) → i < kept → slice_index out₁ i ≡ recovered kept (cells device) i
  pub past : (i : ℕ) → kept ≤ i → slice_index out₁ i ≡ slice_index out i
  pub history : (first : Store) (h : List Op) → cells device ≡ after kept first h → (i : ℕ) → i < kept → slice_index out₁ i ≡ story first (told kept first h) i

-- the writes that were done are noted in their order, and the device is as they leave it: recovery then finds the values
pub record Committed (kept : ℕ) (device values : List ℕ) (writes : List Write) (n : ℕ) (device₁ : List ℕ) (writes₁ : List Write) : Type 0 where
  pub applied : cells device₁ ≡ apply_writes (cells device) (commit_writes kept (cells device) (cells values))
  pub noted : take n writes₁ ≡ effective_writes (cells device) (commit_writes kept (cells device) (cells values))
  pub beyond : drop n writes₁ ≡ drop n writes
  pub few : n ≤ kept + 2
  pub count : n ≡ write_count (cells device) (commit_writes kept (cells device) (cells values))
  pub holds : Sound kept (cells device) → Holds kept (cells device₁) (cells values)
  pub history : (first : Store) (h : List Op) → cells device ≡ after kept first h → cells device₁ ≡ after kept first (committed (cells values) ∷ h)

-- the device is as a cut at write k leaves it: recovery then finds what such a cut leaves of the values
pub record Interrupted (kept : ℕ) (device values : List ℕ) (k junk : ℕ) (device₁ : List ℕ) : Type 0 where
  pub cells_are : cells device₁ ≡ cut_writes (cells device) (commit_writes kept (cells device) (cells values)) k junk
  pub holds : Sound kept (cells device) →
      Holds kept (cells device₁)
      (cut_leaves (write_count (cells device) (commit_writes kept (cells device) (cells values))) k (came_out kept (cells device) junk) (recovered kept (cells device)) (cells values))
  pub history : (first : Store) (h : List Op) → cells device ≡ after kept first h → cells device₁ ≡ after kept first (cut (cells values) k junk ∷ h)

-- what one cell's write says: whether the cell was written, which holds the value then
abbrev pub WriteCell : (device : List ℕ) → Write → (written : Bool) → (device' : List ℕ) → Type 0
WriteCell d w written d' =
    (written ≡ not (slice_index d w.cell == w.value)) × (d' ≡ cond (slice_index d w.cell == w.value) d (slice_set d w.cell w.value))

-- what one cell's write says, with k to be done before power goes: none are left, or so many
abbrev pub CutCell : (device : List ℕ) → Write → (k junk : ℕ) → Option ℕ → (device' : List ℕ) → Type 0
CutCell d w k junk None d' = ((slice_index d w.cell == w.value) ≡ false) × (k ≡ 0) × (d' ≡ slice_set d w.cell junk)
CutCell d w k junk (Some m) d' =
    (k ≡ cond (slice_index d w.cell == w.value) m (m + 1))
    × (d' ≡ cond (slice_index d w.cell == w.value) d (slice_set d w.cell w.value))
