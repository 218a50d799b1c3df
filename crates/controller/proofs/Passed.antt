-- A request that passes its checks is not refused.
use Rattle.std.proofs.Common.{◌≡◌, ℕ, ◌+◌, ◌-◌, ◌≤◌, min, List, length, take, drop, None, Option, sym, ap, ◌∙◌, subst, arith}
use Rattle.base.specs.Stores.{cells}
use Rattle.base.specs.Refusals.{or_else}
use Rattle.retain.specs.Device.{cell_count, stamp}
use Rattle.retain.specs.Entry.{shape_refusal, stamp_refusal, commit_refusal as device_refusal, cut_refusal as device_cut_refusal}
use Rattle.retain.proofs.Shape.{well_shaped, accepted, accepted_cut}
use Rattle.controller.specs.Layout.{memory_length}
use Rattle.controller.specs.Memory.{device_in}
use Rattle.controller.specs.Requests.{length_refusal, lists_refusal, ready_refusal, scan_refusal, cut_refusal, ListsFit, Ready}
use Rattle.controller.proofs.Parts.{slice_length, device_rest}

-- what passed leaves it to the checks after it
pub then : (x y : Option (ℕ × ℕ)) → x ≡ None → or_else x y ≡ y
then x y e = ap (λ o. or_else o y) e

-- what is told of a view of the memory is told of the memory
pub ready_as : {elapsed : ℕ} {m m' : List ℕ} → m ≡ m' → (ready_refusal elapsed m ≡ None) × Ready elapsed m → (ready_refusal elapsed m' ≡ None) × Ready elapsed m'
ready_as {elapsed} e h = subst (λ x. (ready_refusal elapsed x ≡ None) × Ready elapsed x) e h

module _ (kept : ℕ) (m : List ℕ) (n : ℕ) (low : kept ≤ 64) (size : length m ≡ 194 + cell_count kept) (enough : kept ≤ n) where
  -- the device in the memory has the right shape
  pub shape_taken : shape_refusal kept (take (length m - 194) (drop 194 m)) n ≡ None
  shape_taken = well_shaped kept (take (length m - 194) (drop 194 m)) n low (omega (arith, slice_length m)) enough

  stamp_same : stamp_refusal (stamp kept (cells (take (length m - 194) (drop 194 m)))) ≡ stamp_refusal (stamp kept (device_in m))
  stamp_same = ap (λ d. stamp_refusal (stamp kept d)) (device_rest m)

  -- so a commit is refused for its stamp alone
  commit_taken : (room : ℕ) → kept + 2 ≤ room → device_refusal kept (take (length m - 194) (drop 194 m)) n room ≡ stamp_refusal (stamp kept (device_in m))
  commit_taken room h = accepted kept (take (length m - 194) (drop 194 m)) n room shape_taken h ∙ stamp_same

  commit_cut_taken : device_cut_refusal kept (take (length m - 194) (drop 194 m)) n ≡ stamp_refusal (stamp kept (device_in m))
  commit_cut_taken = accepted_cut kept (take (length m - 194) (drop 194 m)) n shape_taken ∙ stamp_same

-- a scan and a cut that pass the other checks are refused where their commit is, for the stamp alone
module _ (kept : ℕ) (inputs firsts outside : List ℕ) (elapsed : ℕ) (m : List ℕ) (lists : (lists_refusal kept inputs firsts outside ≡ None) × ListsFit kept inputs firsts outside)
    (ready : ready_refusal elapsed m ≡ None) (long : length m ≡ memory_length kept) (n : ℕ) (enough : 64 ≤ n) where
  pub scan_taken : (out writes : List ℕ) (size room : ℕ) → 66 ≤ room → size ≡ cell_count (min kept 64) → length_refusal (length m) (memory_length kept) 6 ≡ None → length_refusal (length out) 64 7 ≡ None →
      length_refusal (length writes) size 8 ≡ None → scan_refusal kept inputs firsts outside elapsed m out writes ≡ device_refusal kept (take (length m - 194) (drop 194 m)) n room
  scan_taken out writes size room large e a b c =
      let low = lists.1.low in
      let same : cell_count kept ≡ size = omega (arith, low) in
      then _ _ lists.0 ∙ then _ _ a ∙ then _ _ b ∙ then _ _ (ap (λ k. length_refusal (length writes) k 8) same ∙ c) ∙ then _ _ ready
      ∙ sym (commit_taken kept m n low long (omega (arith, low)) room (omega (arith, low)))

  pub cut_taken : length_refusal (length m) (memory_length kept) 8 ≡ None → cut_refusal kept inputs firsts outside elapsed m ≡ device_cut_refusal kept (take (length m - 194) (drop 194 m)) n
  cut_taken a =
      let low = lists.1.low in
      then _ _ lists.0 ∙ then _ _ a ∙ then _ _ ready ∙ sym (commit_cut_taken kept m n low long (omega (arith, low)))
