-- A night of power cuts, worked cell by cell: why a cell that holds its number already is not written. Assumes nothing: these are definitions.
use Rattle.std.specs.Prelude.{◌≡◌, ℕ, zero, suc, true, false, List, [], ◌∷◌, map}
use Rattle.base.specs.Stores.{Store, cells, update}
use Rattle.retain.specs.declared.Write.{Write}
use Rattle.retain.specs.Device.{valid, stamp, recovered, commit_writes, apply_writes, cut_writes, write_count}
use Rattle.retain.specs.History.{committed, cut, after, writes_after}

-- two values
abbrev pub two : ℕ → ℕ → Store
two a b = cells (a ∷ b ∷ [])

-- the cells of a device for two values, and what recovery finds in it
abbrev pub cells_of : Store → List ℕ
cells_of d = map d (0 ∷ 1 ∷ 2 ∷ 3 ∷ 4 ∷ 5 ∷ 6 ∷ 7 ∷ [])

abbrev pub found_in : Store → List ℕ
found_in d = map (recovered 2 d) (0 ∷ 1 ∷ [])

-- 7 and 0 are saved; then 7 and 1, and power goes in the last write and leaves a 9
unfoldable pub saved : Store
saved = after 2 (two 0 0) (committed (two 7 0) ∷ [])

unfoldable pub torn : Store
torn = after 2 (two 0 0) (cut (two 7 1) 3 9 ∷ committed (two 7 0) ∷ [])

-- power goes at write k of a program that writes every cell, also one that holds its number already
unfoldable pub cut_all : Store → List Write → (k junk : ℕ) → Store
cut_all d [] k junk = d
cut_all d (w ∷ ws) zero junk = update d w.cell junk
cut_all d (w ∷ ws) (suc k) junk = cut_all (update d w.cell w.value) ws k junk

-- 8 and 1 are to be saved then, and power goes in the very first write and leaves a 9: in that program, and in ours
unfoldable pub theirs : Store
theirs = cut_all torn (commit_writes 2 torn (two 8 1)) 0 9

unfoldable pub ours : Store
ours = cut_writes torn (commit_writes 2 torn (two 8 1)) 0 9

-- THE NIGHT: a program that writes every cell comes to show 7 and 1, which were never kept; ours shows 7 and 0 throughout, until 8 and 1 are saved
pub record Night : Type 0 where
  pub saved_cells : cells_of saved ≡ 1 ∷ 0 ∷ 0 ∷ 1 ∷ 2 ∷ 7 ∷ 0 ∷ 2 ∷ []
  pub saved_writes : writes_after 2 (two 0 0) [] (two 7 0) ≡ 3
  pub next_cells : cells_of (apply_writes saved (commit_writes 2 saved (two 7 1))) ≡ 3 ∷ 7 ∷ 1 ∷ 3 ∷ 2 ∷ 7 ∷ 0 ∷ 2 ∷ []
  pub torn_cells : cells_of torn ≡ 3 ∷ 7 ∷ 1 ∷ 9 ∷ 2 ∷ 7 ∷ 0 ∷ 2 ∷ []
  pub torn_found : found_in torn ≡ 7 ∷ 0 ∷ []
  pub done_writes : write_count torn (commit_writes 2 torn (two 8 1)) ≡ 2
  pub done_cells : cells_of (apply_writes torn (commit_writes 2 torn (two 8 1))) ≡ 3 ∷ 8 ∷ 1 ∷ 3 ∷ 2 ∷ 7 ∷ 0 ∷ 2 ∷ []
  pub theirs_cells : cells_of theirs ≡ 9 ∷ 7 ∷ 1 ∷ 9 ∷ 2 ∷ 7 ∷ 0 ∷ 2 ∷ []
  pub theirs_valid : valid 2 theirs false ≡ true
  pub theirs_stamp : stamp 2 theirs ≡ 9
  pub theirs_found : found_in theirs ≡ 7 ∷ 1 ∷ []
  pub ours_cells : cells_of ours ≡ 3 ∷ 9 ∷ 1 ∷ 9 ∷ 2 ∷ 7 ∷ 0 ∷ 2 ∷ []
  pub ours_valid : valid 2 ours false ≡ false
  pub ours_found : found_in ours ≡ 7 ∷ 0 ∷ []
