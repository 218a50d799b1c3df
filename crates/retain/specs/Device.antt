-- A memory that outlasts power cuts: two slots, each a stamp, the kept values and the stamp again. Assumes nothing: these are definitions.
use Rattle.std.specs.Prelude.{◌≡◌, ℕ, zero, suc, ◌+◌, ◌-◌, ◌*◌, ◌<◌, Bool, true, false, cond, not, ◌&&◌, ◌||◌, ◌⊎◌, List, [], ◌∷◌, ◌++◌, ◌==◌, ◌≢◌, nat_lt}
use Rattle.base.specs.Stores.{Store, update}
use Rattle.retain.specs.declared.Write.{Write}

-- how many cells a device for so many values has
abbrev pub cell_count : ℕ → ℕ
cell_count kept = 2 * (kept + 2)

-- where a slot begins: slot 0 at 0, slot 1 after it
abbrev pub slot_base : ℕ → Bool → ℕ
slot_base kept false = 0
slot_base kept true = kept + 2

-- a slot is valid if its two stamps are equal and not 0
abbrev pub valid : ℕ → Store → Bool → Bool
valid kept d a = d (slot_base kept a) == d (slot_base kept a + 1 + kept) && nat_lt 0 (d (slot_base kept a))

-- the slot that is read: the valid one, of two the one with the larger stamp, else slot 0
abbrev pub current : ℕ → Store → Bool
current kept d = valid kept d true && (not (valid kept d false) || nat_lt (d (slot_base kept false)) (d (slot_base kept true)))

-- the stamp of that slot
unfoldable pub stamp : ℕ → Store → ℕ
stamp kept d = d (slot_base kept (current kept d))

-- the values that it holds
unfoldable pub recovered : ℕ → Store → ℕ → ℕ
recovered kept d i = d (slot_base kept (current kept d) + 1 + i)

-- the writes of the values i, i + 1, .. to the cells from + i, ..
unfoldable pub value_writes : (from : ℕ) → Store → (i count : ℕ) → List Write
value_writes from v i zero = []
value_writes from v i (suc n) = record { cell = from + i; value = v i } ∷ value_writes from v (suc i) n

-- a slot is written in this order: stamp, values, stamp
unfoldable pub slot_writes : ℕ → Bool → ℕ → Store → List Write
slot_writes kept a s v =
    record { cell = slot_base kept a; value = s }
    ∷ (value_writes (slot_base kept a + 1) v 0 kept ++ (record { cell = slot_base kept a + 1 + kept; value = s } ∷ []))

-- a commit goes to the other slot, with the next stamp
unfoldable pub commit_writes : ℕ → Store → Store → List Write
commit_writes kept d v = slot_writes kept (not (current kept d)) (suc (stamp kept d)) v

-- a cell that holds the value already isn't written
unfoldable pub apply_writes : Store → List Write → Store
apply_writes d [] = d
apply_writes d (w ∷ ws) = cond (d w.cell == w.value) (apply_writes d ws) (apply_writes (update d w.cell w.value) ws)

-- power goes at write k, counted without those that aren't done: that cell holds junk, and the later ones aren't written
unfoldable pub cut_writes : Store → List Write → ℕ → ℕ → Store
cut_writes d [] k junk = d
cut_writes d (w ∷ ws) zero junk = cond (d w.cell == w.value) (cut_writes d ws zero junk) (update d w.cell junk)
cut_writes d (w ∷ ws) (suc k) junk =
    cond (d w.cell == w.value) (cut_writes d ws (suc k) junk) (cut_writes (update d w.cell w.value) ws k junk)

-- the writes that are done, in their order
unfoldable pub effective_writes : Store → List Write → List Write
effective_writes d [] = []
effective_writes d (w ∷ ws) =
    cond (d w.cell == w.value) (effective_writes d ws) (w ∷ effective_writes (update d w.cell w.value) ws)

-- how many they are
unfoldable pub write_count : Store → List Write → ℕ
write_count d [] = 0
write_count d (w ∷ ws) = cond (d w.cell == w.value) (write_count d ws) (suc (write_count (update d w.cell w.value) ws))

-- as it leaves the factory: the first values in slot 0 under stamp 1, and 0 everywhere else
unfoldable pub factory : ℕ → Store → Store
factory kept first i =
    cond (i == 0) 1 (cond (nat_lt i (kept + 1)) (first (i - 1)) (cond (i == kept + 1) 1 0))

-- what a cut in the last write of a commit leaves: the new values if the junk happens to be the new stamp, else the old ones
unfoldable pub came_out : ℕ → Store → (junk : ℕ) → Bool
came_out kept d junk = junk == suc (stamp kept d)

-- a device that came of saves and cuts: the current slot is valid, and the other one is older in its second stamp,
-- or begun with the next stamp and not ended with it
pub record Sound (kept : ℕ) (d : Store) : Type 0 where
  pub whole : valid kept d (current kept d) ≡ true
  pub other :
      (d (slot_base kept (not (current kept d)) + 1 + kept) < stamp kept d)
      ⊎ ((d (slot_base kept (not (current kept d))) ≡ suc (stamp kept d)) × (d (slot_base kept (not (current kept d)) + 1 + kept) ≢ suc (stamp kept d)))

-- the device is such a one, and recovery finds the values v
abbrev pub Holds : (kept : ℕ) (d v : Store) → Type 0
Holds kept d v = Sound kept d × ((i : ℕ) → i < kept → recovered kept d i ≡ v i)
