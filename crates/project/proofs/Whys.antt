-- The controller refuses a line for the reason that the story gives: in a memory of the right length, with lists of the right length, and a stamp that can be raised.
use Rattle.std.proofs.Common.{◌≡◌, ℕ, ◌^◌, ◌<◌, ◌≤◌, Bool, true, false, eqb, leb, List, length, get_or, Some, None, Option, refl, ap, ◌∙◌}
use Rattle.std.proofs.lemmas.Bool.{le-leb, lt-ltb, eq-eqb}
use Rattle.base.specs.Refusals.{unless, or_else}
use Rattle.base.proofs.Checks.{passes}
use Rattle.retain.specs.Device.{cell_count, stamp}
use Rattle.retain.specs.Entry.{stamp_refusal}
use Rattle.controller.specs.Layout.{memory_length}
use Rattle.controller.specs.Memory.{live_in, device_in}
use Rattle.controller.specs.Requests.{kept_refusal, length_refusal, start_refusal, point_refusal, force_refusal, free_refusal, lists_refusal, ready_refusal, run_refusal, scan_refusal, cut_refusal}
use Rattle.controller.proofs.Passed.{then}
use Rattle.scripts.specs.declared.script.Input.{Input}
use Rattle.scripts.specs.Script.{scan, cut, force, free}
use Rattle.project.specs.Play.{line_refusal}

join : (b : Bool) (n k : ℕ) (x y : Option (ℕ × ℕ)) → or_else (unless b n k x) y ≡ unless b n k (or_else x y)
join true n k x y = refl
join false n k x y = refl

no_more : (x y : Option (ℕ × ℕ)) → y ≡ None → or_else x y ≡ x
no_more None y e = e
no_more (Some w) y e = refl

long : (have wanted place : ℕ) → have ≡ wanted → length_refusal have wanted place ≡ None
long have wanted place e = passes _ 5 place _ (eq-eqb have wanted e)

module _ (kept : ℕ) (low : kept ≤ 64) (m : List ℕ) (size : length m ≡ memory_length kept) where
  few : kept_refusal kept ≡ None
  few = passes _ 5 0 _ (le-leb kept 64 low)

  pub start_why : (firsts : List ℕ) → length firsts ≡ 64 → start_refusal kept firsts m ≡ None
  start_why firsts f = then _ _ few ∙ then _ _ (long _ _ 1 f) ∙ long _ _ 2 size

  point_why : (point place : ℕ) → point_refusal kept point m place ≡ unless (eqb (get_or m 192 0) 1) 6 0 (unless (leb point 63) 9 0 None)
  point_why point place = then _ _ few ∙ then _ _ (long _ _ place size) ∙ join (eqb (get_or m 192 0) 1) 6 0 None (unless (leb point 63) 9 0 None)

  pub free_why : (point : ℕ) → free_refusal kept point m ≡ line_refusal (live_in m) (free point)
  unfolding line_refusal live_in
  free_why point = point_why point 2

  pub force_why : (point number : ℕ) → force_refusal kept point number m ≡ line_refusal (live_in m) (force point number)
  unfolding line_refusal live_in
  force_why point number =
      let n = unless (leb number 65535) 9 1 None in
      ap (λ x. or_else x n) (point_why point 3) ∙ join (eqb (get_or m 192 0) 1) 6 0 (unless (leb point 63) 9 0 None) n ∙ ap (unless (eqb (get_or m 192 0) 1) 6 0) (join (leb point 63) 9 0 None n)

  module _ (inputs firsts outside : List ℕ) (i : length inputs ≡ 64) (f : length firsts ≡ 64) (o : length outside ≡ 64) (raised : stamp kept (device_in m) < 2 ^ 62) (elapsed : ℕ) where
    lists : lists_refusal kept inputs firsts outside ≡ None
    lists = then _ _ few ∙ then _ _ (long _ _ 1 i) ∙ then _ _ (long _ _ 2 f) ∙ long _ _ 4 o

    run_why : run_refusal kept elapsed m ≡ unless (eqb (get_or m 192 0) 1) 6 0 (unless (leb elapsed 65535) 7 0 None)
    run_why = no_more (ready_refusal elapsed m) (stamp_refusal (stamp kept (device_in m))) (passes _ 8 0 _ (lt-ltb _ _ raised)) ∙ join (eqb (get_or m 192 0) 1) 6 0 None (unless (leb elapsed 65535) 7 0 None)

    pub scan_why : (out writes : List ℕ) → length out ≡ 64 → length writes ≡ cell_count kept → (is : List Input) → scan_refusal kept inputs firsts outside elapsed m out writes ≡ line_refusal (live_in m) (scan elapsed is)
    unfolding line_refusal live_in
    scan_why out writes a b is = then _ _ lists ∙ then _ _ (long _ _ 6 size) ∙ then _ _ (long _ _ 7 a) ∙ then _ _ (long _ _ 8 b) ∙ run_why

    pub cut_why : (at junk : ℕ) (is : List Input) → cut_refusal kept inputs firsts outside elapsed m ≡ line_refusal (live_in m) (cut elapsed at junk is)
    unfolding line_refusal live_in
    cut_why at junk is = then _ _ lists ∙ then _ _ (long _ _ 8 size) ∙ run_why
