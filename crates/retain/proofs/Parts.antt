-- A list after a part of it was written as a slice of its own.
use Rattle.std.proofs.Common.{◌≡◌, ℕ, ◌+◌, ◌-◌, ◌<◌, ◌≤◌, List, ◌++◌, length, get_or, take, drop, ap, ◌∙◌, arith, get_or-drop, get_or-take}
use borrow.Rule.Slice.PartMut.{put_mid}
use Rattle.std.proofs.lemmas.List.{get_or_append_left, get_or-append_right, length-take-le}
use Rattle.base.specs.Stores.{Store, Overwritten}

pub part_written : (from n : ℕ) (f : Store) (m ys : List ℕ) → from + n ≤ length m → length ys ≡ n → ((i : ℕ) → i < n → get_or ys i 0 ≡ f (from + i)) → Overwritten from (from + n) f m (put_mid from n m ys)
part_written from n f m ys fits size is =
    let tail : List ℕ = drop n (drop from m) in
    let front : length (take from m) ≡ from = length-take-le from m (omega arith) in
    record {
      inside = λ k a b. get_or-append_right (take from m) (ys ++ tail) from k 0 front a ∙ get_or_append_left ys tail 0 (k - from) (omega arith) ∙ is (k - from) (omega arith) ∙ ap f (omega arith);
      below = λ k a. get_or_append_left (take from m) (ys ++ tail) 0 k (omega arith) ∙ get_or-take from m k 0 a;
      above = λ k a. get_or-append_right (take from m) (ys ++ tail) from k 0 front (omega arith) ∙ get_or-append_right ys tail n (k - from) 0 size (omega arith)
          ∙ get_or-drop n (drop from m) (k - from - n) 0 ∙ get_or-drop from m (n + (k - from - n)) 0 ∙ ap (λ x. get_or m x 0) (omega arith);
    }
