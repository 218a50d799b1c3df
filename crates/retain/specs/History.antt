-- What any row of saves and cuts leaves in a device, and the theorem: recovery finds what the story says. Assumes nothing: these are definitions.
use Rattle.std.specs.Prelude.{◌≡◌, ℕ, suc, ◌<◌, ◌≤◌, ◌⊎◌, List, [], ◌∷◌}
use Rattle.base.specs.Stores.{Store}
use Rattle.retain.specs.Device.{recovered, commit_writes, apply_writes, cut_writes, write_count, factory, came_out}
use Rattle.retain.specs.Story.{Step, finished, interrupted, story}

-- what is done to a device: a commit that ends, and one that is cut at write k, which leaves junk in its cell
pub data Op : Type 0 where
  committed : (values : Store) → Op
  cut : (values : Store) → (k junk : ℕ) → Op

-- the device after a history, the latest first
unfoldable pub after : ℕ → (first : Store) → List Op → Store
after kept first [] = factory kept first
after kept first (committed v ∷ h) = apply_writes (after kept first h) (commit_writes kept (after kept first h) v)
after kept first (cut v k junk ∷ h) = cut_writes (after kept first h) (commit_writes kept (after kept first h) v) k junk

-- how many cells a commit of v writes after a history
unfoldable pub writes_after : ℕ → (first : Store) → List Op → (v : Store) → ℕ
writes_after kept first h v = write_count (after kept first h) (commit_writes kept (after kept first h) v)

-- what the story is told of each: of a cut how many writes there are and which values come out of one in the last, decided once, by the device just before it
unfoldable pub told : ℕ → (first : Store) → List Op → List Step
told kept first [] = []
told kept first (committed v ∷ h) = finished v ∷ told kept first h
told kept first (cut v k junk ∷ h) = interrupted v k (writes_after kept first h v) (came_out kept (after kept first h) junk) ∷ told kept first h

-- what recovery finds after a history
abbrev pub found : ℕ → (first : Store) → List Op → Store
found kept first h = recovered kept (after kept first h)

-- THE THEOREM: after every history recovery finds what the story says
abbrev pub Retained : Type 0
Retained = (kept : ℕ) (first : Store) (h : List Op) (i : ℕ) → i < kept → found kept first h i ≡ story first (told kept first h) i

-- two sets of kept values are the same
abbrev pub Same : ℕ → (u v : Store) → Type 0
Same kept u v = (i : ℕ) → i < kept → u i ≡ v i

-- THE RULES, each from what recovery found just before: a save replaces the values whole; cut before its last write it leaves them, after
-- all its writes it has replaced them, and in the last one it has done either, for all values alike
pub record Rules (kept : ℕ) (first : Store) : Type 0 where
  pub as_made : Same kept (found kept first []) first
  pub saved : (h : List Op) (v : Store) → Same kept (found kept first (committed v ∷ h)) v
  pub cut_before : (h : List Op) (v : Store) (k junk : ℕ) → suc k < writes_after kept first h v → Same kept (found kept first (cut v k junk ∷ h)) (found kept first h)
  pub cut_past : (h : List Op) (v : Store) (k junk : ℕ) → writes_after kept first h v ≤ k → Same kept (found kept first (cut v k junk ∷ h)) v
  pub cut_last : (h : List Op) (v : Store) (k junk : ℕ) → suc k ≡ writes_after kept first h v →
      Same kept (found kept first (cut v k junk ∷ h)) (found kept first h) ⊎ Same kept (found kept first (cut v k junk ∷ h)) v

-- the rules hold for every number of values and every first values
abbrev pub Ruled : Type 0
Ruled = (kept : ℕ) (first : Store) → Rules kept first
