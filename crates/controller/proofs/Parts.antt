-- The memory after its device was written as a slice of its own.
use Rattle.std.proofs.Common.{◌≡◌, ℕ, ◌+◌, ◌-◌, ◌<◌, ◌≤◌, List, ◌++◌, length, get_or, take, drop, replicate, sym, ap, ◌∙◌, ⊎_elim, append-nil, arith, length-append, length-drop, take-append-drop, get_or-drop, rules}
use mathlib.Core.Path.{fun_ext}
use lib.ListN.{length-replicate, get_or-replicate}
use borrow.Rule.Slice.PartMut.{put_mid}
use Rattle.std.proofs.lemmas.List.{places, get_or_past, get_or_append_left, get_or-append_right, length-take-le, take_rest, drop_all}
use Rattle.std.proofs.lemmas.Bool.{cases_lt}
use Rattle.base.proofs.Regions.{front_written}
use Rattle.retain.proofs.Parts.{part_written}
use Rattle.base.specs.Stores.{Store, cells, Overwritten}
use Rattle.controller.specs.Memory.{device_in}

-- the device as a slice of its own
pub slice_length : (m : List ℕ) → length (take (length m - 194) (drop 194 m)) ≡ length m - 194
slice_length m = ap length (take_rest m 194) ∙ length-drop 194 m

pub device_rest : (m : List ℕ) → ◌≡◌ {A = Store} (cells (take (length m - 194) (drop 194 m))) (device_in m)
device_rest m = fun_ext (λ i. ap (λ xs. get_or xs i 0) (take_rest m 194) ∙ get_or-drop 194 m i 0)

-- a device that is as it was leaves the memory as it was
pub part_same : (m ys : List ℕ) → ys ≡ take (length m - 194) (drop 194 m) → put_mid 194 (length m - 194) m ys ≡ m
part_same m ys e =
    ap (λ y. take 194 m ++ (y ++ drop (length m - 194) (drop 194 m))) (e ∙ take_rest m 194)
    ∙ ap (λ y. take 194 m ++ (drop 194 m ++ y)) (drop_all (length m - 194) (drop 194 m) (omega (arith, length-drop 194 m)))
    ∙ ap (λ y. take 194 m ++ y) (append-nil (drop 194 m)) ∙ take-append-drop 194 m

-- a part that is written leaves the length
pub put_length : (from n : ℕ) (m ys : List ℕ) → from + n ≤ length m → length ys ≡ n → length (put_mid from n m ys) ≡ length m
put_length from n m ys fits size =
    let front : length (take from m) ≡ from = length-take-le from m (omega arith) in
    simp (length-append, length-drop) (omega arith)

module _ (m ys : List ℕ) (long : 194 ≤ length m) (size : length ys ≡ length m - 194) where
  pub part_below : (k : ℕ) → k < 194 → get_or (put_mid 194 (length m - 194) m ys) k 0 ≡ get_or m k 0
  part_below k h = search (rules, places)

  pub part_length : length (put_mid 194 (length m - 194) m ys) ≡ length m
  part_length = put_length 194 (length m - 194) m ys (omega arith) size

  pub part_device : ◌≡◌ {A = Store} (device_in (put_mid 194 (length m - 194) m ys)) (cells ys)
  part_device =
      let tail : List ℕ = drop (length m - 194) (drop 194 m) in
      let front : length (take 194 m) ≡ 194 = length-take-le 194 m long in
      fun_ext (λ i. ⊎_elim
      (λ (h : i < length ys).
      get_or-append_right (take 194 m) (ys ++ tail) 194 (194 + i) 0 front (omega arith)
      ∙ ap (λ x. get_or (ys ++ tail) x 0) (omega arith) ∙ get_or_append_left ys tail 0 i h)
      (λ (h : length ys ≤ i). get_or_past (take 194 m ++ (ys ++ tail)) (194 + i) 0 (simp (length-append, length-drop) (omega arith)) ∙ sym (get_or_past ys i 0 h))
      (cases_lt i (length ys)))

-- the front of the memory, and a part of it, after 0 was written to all of it
pub front_cleared : (n : ℕ) (m ys : List ℕ) → n ≤ length m → ys ≡ replicate (length (take n m)) 0 → Overwritten 0 n (λ k. 0) m (ys ++ drop n m)
front_cleared n m ys le e =
    let front : length (take n m) ≡ n = length-take-le n m le in
    front_written n (λ k. 0) m ys (ap length e ∙ length-replicate _ 0 ∙ front) le (λ k h. ap (λ xs. get_or xs k 0) e ∙ get_or-replicate _ k 0 0 (omega (arith, front)))

pub part_long : (from n : ℕ) (m : List ℕ) → from + n ≤ length m → length (take n (drop from m)) ≡ n
part_long from n m fits = length-take-le n (drop from m) (simp length-drop (omega arith))

pub part_cleared : (from n : ℕ) (m ys : List ℕ) → from + n ≤ length m → ys ≡ replicate (length (take n (drop from m))) 0 → Overwritten from (from + n) (λ k. 0) m (put_mid from n m ys)
part_cleared from n m ys fits e =
    let part = part_long from n m fits in
    part_written from n (λ k. 0) m ys fits (ap length e ∙ length-replicate _ 0 ∙ part) (λ k h. ap (λ xs. get_or xs k 0) e ∙ get_or-replicate _ k 0 0 (omega (arith, part)))
