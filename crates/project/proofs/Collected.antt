-- Settings collected variable by variable.
use Rattle.std.proofs.Common.{◌≡◌, ℕ, suc, ◌+◌, ◌-◌, ◌<◌, ◌≤◌, cond, eqb, List, [], ◌∷◌, ◌++◌, sym, ap, ◌∙◌, append_assoc, append-nil, arith}
use Rattle.std.proofs.lemmas.Bool.{cond-true, cond-false, eq-eqb, ne_eqb}
use Rattle.base.specs.Stores.{Store}
use Rattle.reports.specs.declared.report.Setting.{Setting}
use Rattle.project.specs.Play.{values_from, changed_from}

-- one setting more
abbrev with_setting : List Setting → ℕ → ℕ → List Setting
with_setting done i v = done ++ (record { variable = i; value = v } ∷ [])

module _ (all : List Setting) (f : Store) (i n : ℕ) (done : List Setting) (inv : all ≡ done ++ values_from i (n - i) f) where
  pub values_more : (next : List Setting) → i < n → next ≡ with_setting done i (f i) → all ≡ next ++ values_from (i + 1) (n - (i + 1)) f
  unfolding values_from
  values_more next h e =
      let left : n - i ≡ suc (n - (i + 1)) = omega arith in
      let up : suc i ≡ i + 1 = omega arith in
      inv ∙ ap (λ k. done ++ values_from i k f) left
      ∙ ap (λ k. done ++ (record { variable = i; value = f i } ∷ values_from k (n - (i + 1)) f)) up
      ∙ sym (append_assoc done (record { variable = i; value = f i } ∷ []) (values_from (i + 1) (n - (i + 1)) f))
      ∙ ap (λ l. l ++ values_from (i + 1) (n - (i + 1)) f) (sym e)

  pub values_all : n ≤ i → done ≡ all
  unfolding values_from
  values_all h =
      let left : n - i ≡ 0 = omega arith in
      sym (inv ∙ ap (λ k. done ++ values_from i k f) left ∙ append-nil done)

module _ (all : List Setting) (f g : Store) (i n : ℕ) (done : List Setting) (inv : all ≡ done ++ changed_from i (n - i) f g) where
  changed_next : i < n → all ≡ done ++ cond (eqb (g i) (f i)) (changed_from (i + 1) (n - (i + 1)) f g) (record { variable = i; value = g i } ∷ changed_from (i + 1) (n - (i + 1)) f g)
  unfolding changed_from
  changed_next h =
      let left : n - i ≡ suc (n - (i + 1)) = omega arith in
      let up : suc i ≡ i + 1 = omega arith in
      inv ∙ ap (λ k. done ++ changed_from i k f g) left
      ∙ ap (λ k. done ++ cond (eqb (g i) (f i)) (changed_from k (n - (i + 1)) f g) (record { variable = i; value = g i } ∷ changed_from k (n - (i + 1)) f g)) up

  pub changed_more : (next : List Setting) → i < n → (g i ≡ f i → ⊥) → next ≡ with_setting done i (g i) → all ≡ next ++ changed_from (i + 1) (n - (i + 1)) f g
  changed_more next h other e =
      changed_next h
      ∙ ap (λ l. done ++ l) (cond-false (eqb (g i) (f i)) _ _ (ne_eqb (g i) (f i) other))
      ∙ sym (append_assoc done (record { variable = i; value = g i } ∷ []) (changed_from (i + 1) (n - (i + 1)) f g))
      ∙ ap (λ l. l ++ changed_from (i + 1) (n - (i + 1)) f g) (sym e)

  pub changed_same : (next : List Setting) → i < n → g i ≡ f i → next ≡ done → all ≡ next ++ changed_from (i + 1) (n - (i + 1)) f g
  changed_same next h same e =
      changed_next h
      ∙ ap (λ l. done ++ l) (cond-true (eqb (g i) (f i)) _ _ (eq-eqb (g i) (f i) same))
      ∙ ap (λ l. l ++ changed_from (i + 1) (n - (i + 1)) f g) (sym e)

  pub changed_all : n ≤ i → done ≡ all
  unfolding changed_from
  changed_all h =
      let left : n - i ≡ 0 = omega arith in
      sym (inv ∙ ap (λ k. done ++ changed_from i k f g) left ∙ append-nil done)
