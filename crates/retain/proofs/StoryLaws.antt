-- What a cut leaves, by where it falls: before the last write, after it, or in it.
use Rattle.std.proofs.Common.{◌≡◌, ℕ, suc, ◌<◌, ◌≤◌, Bool, cond, ◌∙◌, arith}
use Rattle.std.proofs.lemmas.Bool.{cond-true, cond-false, lt-ltb, le-ltb, le-leb, lt-leb}
use Rattle.base.specs.Stores.{Store}
use Rattle.retain.specs.Story.{cut_leaves}

module _ (n k : ℕ) (new : Bool) (old next : Store) where
  pub before_leaves : suc k < n → cut_leaves n k new old next ≡ old
  unfolding cut_leaves
  before_leaves h = cond-true _ _ _ (lt-ltb (suc k) n h)

  pub past_leaves : n ≤ k → cut_leaves n k new old next ≡ next
  unfolding cut_leaves
  past_leaves h =
      cond-false _ _ _ (le-ltb (suc k) n (omega arith))
      ∙ cond-true _ _ _ (le-leb n k h)

  pub last_leaves : suc k ≡ n → cut_leaves n k new old next ≡ cond new next old
  unfolding cut_leaves
  last_leaves h =
      cond-false _ _ _ (le-ltb (suc k) n (omega arith))
      ∙ cond-false _ _ _ (lt-leb n k (omega arith))
