-- A list of 64 numbers is known by its items: one that a loop fills, and one that a closure made by what each call gave.
use Rattle.std.proofs.Common.{◌≡◌, ℕ, zero, suc, ◌+◌, ◌<◌, ◌≤◌, List, length, get_or, set, sym, ap, ◌∙◌, subst, ⊎_elim, arith, length-set, get_or-set_other, get_or-set_same}
use mathlib.Core.Path.{fun_ext}
use denote.Param.Members.{Mut, Called}
use Rattle.std.specs.Array.{IsFromFnResult, IsFromFnResultFrom}
use Rattle.std.proofs.lemmas.List.{get_or_past}
use Rattle.std.proofs.lemmas.Bool.{cases_lt, cases_eq}
use Rattle.base.specs.Stores.{Store, cells}

-- the first n of 64 cells hold what f says
pub record Filled (n : ℕ) (f : Store) (xs : List ℕ) : Type 0 where
  pub long : length xs ≡ 64
  pub front : (i : ℕ) → i < n → get_or xs i 0 ≡ f i

pub filled_none : (f : Store) (xs : List ℕ) → length xs ≡ 64 → Filled 0 f xs
filled_none f xs e = record { long = e; front = λ i h. absurd (omega arith) }

pub filled_more : (n : ℕ) (f : Store) (xs : List ℕ) (v : ℕ) → n < 64 → v ≡ f n → Filled n f xs → Filled (n + 1) f (set xs n v)
filled_more n f xs v l e o = record {
  long = simp length-set o.long;
  front = λ i h. ⊎_elim
      (λ q. ap (λ x. get_or (set xs n v) x 0) q ∙ get_or-set_same xs n v 0 (omega arith) ∙ e ∙ ap f (sym q))
      (λ q. get_or-set_other xs n i v 0 q ∙ o.front i (omega arith))
      (cases_eq i n);
}

pub filled : (f : Store) (xs : List ℕ) → length xs ≡ 64 → ((i : ℕ) → i < 64 → get_or xs i 0 ≡ f i) → ((i : ℕ) → 64 ≤ i → f i ≡ 0) → cells xs ≡ f
filled f xs long front past =
    fun_ext (λ i. ⊎_elim
    (λ (h : i < 64). front i h)
    (λ (h : 64 ≤ i). get_or_past xs i 0 (omega arith) ∙ sym (past i h))
    (cases_lt i 64))

module _ {F : Type 0} (g : Mut F (ℕ × Unit {0}) ℕ) (f : F) (xs : List ℕ) (h : Store) (call : (k y : ℕ) (q : F) → Called g f (k, tt) y q → (y ≡ h k) × (q ≡ f)) where
  made_from : (n i : ℕ) → IsFromFnResultFrom g f xs i n → (j : ℕ) → i ≤ j → j < i + n → get_or xs j 0 ≡ h j
  made_from zero i r j a b = absurd (omega arith)
  made_from (suc n) i (q, y, item, called, rest) j a b =
      let s : (y ≡ h i) × (q ≡ f) = call i y q called in
      ⊎_elim
      (λ (e : j ≡ i). ap (λ k. get_or xs k 0) e ∙ item.1 0 ∙ s.0 ∙ ap h (sym e))
      (λ e. made_from n (i + 1) (subst (λ p. IsFromFnResultFrom g p xs (i + 1) n) s.1 rest) j (omega arith) (omega arith))
      (cases_eq j i)

  -- what a closure that changes nothing made for each number below n
  pub made : (n : ℕ) → IsFromFnResult g f xs n → (i : ℕ) → i < n → get_or xs i 0 ≡ h i
  made n r i l = made_from n 0 r.each i (omega arith) (omega arith)
