-- Words that are numbers or names, and the numerals that they are. Assumes nothing.
use Rattle.std.proofs.Common.{◌≡◌, ℕ, ◌^◌, ◌<◌, true, false, not, ◌&&◌, eqb, ltb, List, [], ◌∷◌, length, get_or, Some, None, Ok, Err, Result, decimal, sym, refl, ap, ◌∙◌, subst, inl, inr, ⊎_elim, arith}
use Rattle.std.specs.Result.{OkIff, result_ok}
use Rattle.std.specs.Str.Parse.{digits_value, IsNumeral, ParsesUnsigned}
use Rattle.std.specs.Str.{all_ascii_digits}
use Rattle.std.proofs.lemmas.Str.Parse.{numerals_by_value, tells_all_ascii_digits, parse_plain, IsNumeralModel}
use Rattle.std.proofs.lemmas.Bool.{lt-ltb, ltb-true, eq-eqb, ne_eqb, eqb-true, and_from, and_parts, and_right, not-true, both_ways, cond_both, cases_eq, cases_lt}
use Rattle.std.proofs.lemmas.Option.{none-some, cond_some}
use Rattle.std.proofs.lemmas.Fmt.{decimal-digits_value, decimal_is_IsNumeral, decimal_digit, first_decimal}
use Rattle.base.specs.Numerals.{number_of, name_of, zero_leads}

pub digits : IsNumeralModel (λ ds. all_ascii_digits ds ≡ true) (digits_value 10)
digits = numerals_by_value _ tells_all_ascii_digits

-- a number is a row of digits, and what they write
pub number_told : (w : List ℕ) (n : ℕ) → number_of w ≡ Some n → IsNumeral 10 w × (digits_value 10 w ≡ n) × (digits_value 10 w < 2 ^ 64)
unfolding number_of
number_told w n e =
    let p = cond_some _ _ _ e in
    let q = and_parts _ _ p.0 in
    let r = and_parts _ _ q.1 in
    ((ltb-true _ _ r.0, digits.to w q.0), p.1, ltb-true (digits_value 10 w) 18446744073709551616 r.1)

pub number_made : (w : List ℕ) → IsNumeral 10 w → digits_value 10 w < 2 ^ 64 → number_of w ≡ Some (digits_value 10 w)
unfolding number_of
number_made w h l =
    let d : all_ascii_digits w ≡ true = digits.from w h.1 in
    let s = lt-ltb 0 (length w) h.0 in
    let t : ltb (digits_value 10 w) 18446744073709551616 ≡ true = lt-ltb (digits_value 10 w) 18446744073709551616 l in
    rw (d, s, t)

plus_first : (c : ℕ) (w : List ℕ) → c ≡ 43 → number_of (c ∷ w) ≡ None
unfolding number_of
plus_first c w e = subst (λ n. number_of (n ∷ w) ≡ None) (sym e) refl

pub plus_none : (w : List ℕ) → get_or w 0 0 ≡ 43 → number_of w ≡ None
plus_none [] e = absurd (omega arith)
plus_none (c ∷ w) e = plus_first c w e

-- what `parse` answers is what the definition says
module _ {E : Type 0} where
  told : (w : List ℕ) (r : Result ℕ E) → OkIff r ((all_ascii_digits w ≡ true) × (0 < length w) × (digits_value 10 w < 2 ^ 64)) (digits_value 10 w) → result_ok r ≡ number_of w
  unfolding number_of
  told w (Ok x) h = ap Some h.1 ∙ sym (number_made w (h.0.1, digits.to w h.0.0) h.0.2)
  told w (Err x) h =
      cond_both (all_ascii_digits w && (ltb 0 (length w) && ltb (digits_value 10 w) 18446744073709551616)) (Some (digits_value 10 w)) None (λ o. None ≡ o)
      (λ e.
      let p = and_parts _ _ e in
      let q = and_parts _ _ p.1 in
      absurd (h (p.0, ltb-true _ _ q.0, ltb-true _ _ q.1)))
      (λ e. refl)

  pub number_from_parse : (w : List ℕ) (r : Result ℕ E) → ParsesUnsigned 64 10 w r → (get_or w 0 0 ≡ 43 → ⊥) → result_ok r ≡ number_of w
  number_from_parse w r h plain = told w r (parse_plain digits 64 w r h plain)

pub no_name : (w : List ℕ) → ((rest : List ℕ) → w ≡ 118 ∷ rest → ⊥) → name_of w ≡ None
unfolding name_of
no_name [] h = refl
no_name (c ∷ w) h =
    let no' : eqb c 118 ≡ false = ne_eqb c 118 (λ e. h w (ap (λ n. n ∷ w) e)) in
    rw no'

pub name_digits : (w ds : List ℕ) → w ≡ 118 ∷ ds → zero_leads ds ≡ false → name_of w ≡ number_of ds
unfolding name_of
name_digits w ds e z = ap name_of e ∙ rw z

pub name_zero : (w ds : List ℕ) → w ≡ 118 ∷ ds → zero_leads ds ≡ true → name_of w ≡ None
unfolding name_of
name_zero w ds e z = ap name_of e ∙ rw z

-- a number as it is written reads back, and so does a name
pub number_back : (n : ℕ) → n < 2 ^ 64 → number_of (decimal n) ≡ Some n
number_back n h = let r = decimal_is_IsNumeral n h in number_made (decimal n) r.0 (subst (λ v. v < 2 ^ 64) (sym r.1) h) ∙ ap Some r.1

no_zero_leads : (n : ℕ) → n < 2 ^ 64 → zero_leads (decimal n) ≡ false
no_zero_leads n h = ⊎_elim
    (λ e. ap (λ m. zero_leads (decimal m)) e ∙ ap zero_leads (decimal_digit 0 (omega arith)))
    (λ (e : n ≡ 0 → ⊥). and_right _ _ (ne_eqb (get_or (decimal n) 0 0) 48 (λ z. omega (arith, first_decimal n (omega arith) h))))
    (cases_eq n 0)

pub name_back : (n : ℕ) → n < 2 ^ 64 → name_of (118 ∷ decimal n) ≡ Some n
unfolding name_of
name_back n h = let z = no_zero_leads n h in rw z (number_back n h)

-- digits that no zero leads are the number as it is written
unled : (ds : List ℕ) (n : ℕ) → zero_leads ds ≡ false → number_of ds ≡ Some n → ds ≡ decimal n
unled ds n z e =
    let h = number_told ds n e in
    let one : get_or ds 0 0 ≡ 48 → length ds ≡ 1 = λ f. elim (cases_lt 1 (length ds)) [ inl more ↦ absurd (both_ways _ z (and_from _ _ (lt-ltb _ _ more) (eq-eqb _ _ f))) | inr few ↦ omega (arith, h.0.0) ] in
    sym (decimal-digits_value digits ds (digits.from ds h.0.1) h.0.0 one h.2) ∙ ap decimal h.1

-- a name is written in one way
pub name_form : (w : List ℕ) (n : ℕ) → name_of w ≡ Some n → w ≡ 118 ∷ decimal n
unfolding name_of
name_form [] n e = absurd (none-some n e)
name_form (c ∷ ds) n e =
    cond_both (eqb c 118 && not (zero_leads ds)) (number_of ds) None (λ o. o ≡ Some n → c ∷ ds ≡ 118 ∷ decimal n)
    (λ t k. let p = and_parts _ _ t in ap (λ x. x ∷ ds) (eqb-true c 118 p.0) ∙ ap (λ x. 118 ∷ x) (unled ds n (not-true _ p.1) k))
    (λ f k. absurd (none-some n k))
    e
