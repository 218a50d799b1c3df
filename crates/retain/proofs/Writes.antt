-- What lists of writes do: which cells they leave, and one list after another.
use Rattle.std.proofs.Common.{◌≡◌, ℕ, zero, suc, ◌+◌, ◌<◌, ◌≤◌, true, false, cond, eqb, ◌⊎◌, List, [], ◌∷◌, ◌++◌, length, sym, refl, ap, ◌∙◌, subst, inl, inr, suc-add, zero-add, arith}
use Rattle.std.proofs.lemmas.Bool.{cond_both, cond-true, cond-false, eqb-true, eq-eqb, cases_eq}
use Rattle.base.proofs.StoreLaws.{update_same, update_other}
use Rattle.retain.specs.declared.Write.{Write}
use Rattle.base.specs.Stores.{Store, update}
use Rattle.retain.specs.Device.{value_writes, apply_writes, cut_writes, effective_writes, write_count}

-- each write goes to a cell from lo to below hi
abbrev pub Within : ℕ → ℕ → List Write → Type 0
Within lo hi [] = Unit {0}
Within lo hi (w ∷ ws) = (lo ≤ w.cell) × (w.cell < hi) × Within lo hi ws

abbrev pub Outside : ℕ → ℕ → ℕ → Type 0
Outside lo hi c = (c < lo) ⊎ (hi ≤ c)

pub outside_ne : (lo hi c x : ℕ) → Outside lo hi c → lo ≤ x → x < hi → c ≡ x → ⊥
outside_ne lo hi c x (inl o) l h e = omega arith
outside_ne lo hi c x (inr o) l h e = omega arith

pub values_within : (lo hi from : ℕ) (v : Store) (i n : ℕ) → lo ≤ from + i → from + i + n ≤ hi → Within lo hi (value_writes from v i n)
unfolding value_writes
values_within lo hi from v i zero l h = tt
values_within lo hi from v i (suc n) l h = (l, omega arith, values_within lo hi from v (suc i) n (omega arith) (omega arith))

pub within_append : (lo hi : ℕ) (ws us : List Write) → Within lo hi ws → Within lo hi us → Within lo hi (ws ++ us)
within_append lo hi [] us h k = k
within_append lo hi (w ∷ ws) us h k = (h.0, h.1, within_append lo hi ws us h.2 k)

-- the next write, and those after it
pub within_next : (lo hi : ℕ) {to_come : List Write} {w : Write} {ws : List Write} → to_come ≡ w ∷ ws → Within lo hi to_come → (w.cell < hi) × Within lo hi ws
within_next lo hi e h = let x = subst (Within lo hi) e h in (x.1, x.2)

-- cells that no write goes to stay
pub apply_frame : (lo hi c : ℕ) (ws : List Write) (d : Store) → Within lo hi ws → Outside lo hi c → apply_writes d ws c ≡ d c
unfolding apply_writes
apply_frame lo hi c [] d w o = refl
apply_frame lo hi c (x ∷ ws) d w o =
    cond_both (eqb (d x.cell) x.value) (apply_writes d ws) (apply_writes (update d x.cell x.value) ws) (λ e. e c ≡ d c)
    (λ _. apply_frame lo hi c ws d w.2 o)
    (λ _. apply_frame lo hi c ws (update d x.cell x.value) w.2 o ∙ update_other d x.cell x.value c (outside_ne lo hi c x.cell o w.0 w.1))

pub cut_frame : (lo hi c : ℕ) (ws : List Write) (d : Store) (k j : ℕ) → Within lo hi ws → Outside lo hi c → cut_writes d ws k j c ≡ d c
unfolding cut_writes
cut_frame lo hi c [] d k j w o = refl
cut_frame lo hi c (x ∷ ws) d zero j w o =
    cond_both (eqb (d x.cell) x.value) (cut_writes d ws zero j) (update d x.cell j) (λ e. e c ≡ d c)
    (λ _. cut_frame lo hi c ws d zero j w.2 o)
    (λ _. update_other d x.cell j c (outside_ne lo hi c x.cell o w.0 w.1))
cut_frame lo hi c (x ∷ ws) d (suc k) j w o =
    cond_both (eqb (d x.cell) x.value) (cut_writes d ws (suc k) j) (cut_writes (update d x.cell x.value) ws k j) (λ e. e c ≡ d c)
    (λ _. cut_frame lo hi c ws d (suc k) j w.2 o)
    (λ _. cut_frame lo hi c ws (update d x.cell x.value) k j w.2 o ∙ update_other d x.cell x.value c (outside_ne lo hi c x.cell o w.0 w.1))

-- the first cell holds what is written, if no later write goes there
pub apply_head : (lo hi : ℕ) (x : Write) (ws : List Write) (d : Store) → Within lo hi ws → Outside lo hi x.cell → apply_writes d (x ∷ ws) x.cell ≡ x.value
unfolding apply_writes
apply_head lo hi x ws d w o =
    cond_both (eqb (d x.cell) x.value) (apply_writes d ws) (apply_writes (update d x.cell x.value) ws) (λ e. e x.cell ≡ x.value)
    (λ e. apply_frame lo hi x.cell ws d w o ∙ eqb-true (d x.cell) x.value e)
    (λ _. apply_frame lo hi x.cell ws (update d x.cell x.value) w o ∙ update_same d x.cell x.value x.cell refl)

pub apply_values : (from : ℕ) (v d : Store) (i n j : ℕ) → i ≤ j → j < i + n → apply_writes d (value_writes from v i n) (from + j) ≡ v j
unfolding apply_writes value_writes
apply_values from v d i zero j l h = absurd (omega arith)
apply_values from v d i (suc n) j l h =
    elim (cases_eq j i) [
      | inl e ↦ subst_v e
      | inr ne ↦
          cond_both (eqb (d (from + i)) (v i)) (apply_writes d (value_writes from v (suc i) n)) (apply_writes (update d (from + i) (v i)) (value_writes from v (suc i) n)) (λ e. e (from + j) ≡ v j)
          (λ _. apply_values from v d (suc i) n j (omega arith) (omega arith))
          (λ _. apply_values from v (update d (from + i) (v i)) (suc i) n j (omega arith) (omega arith))
    ]
  where
    subst_v : j ≡ i → apply_writes d (value_writes from v i (suc n)) (from + j) ≡ v j
    subst_v e =
        rw e (apply_head (from + suc i) (from + suc i + n) (record { cell = from + i; value = v i }) (value_writes from v (suc i) n) d
        (values_within (from + suc i) (from + suc i + n) from v (suc i) n (omega arith) (omega arith)) (inl (omega arith)))

-- one list after another
pub apply_append : (ws us : List Write) (d : Store) → apply_writes d (ws ++ us) ≡ apply_writes (apply_writes d ws) us
unfolding apply_writes
apply_append [] us d = refl
apply_append (x ∷ ws) us d =
    elim (eqb (d x.cell) x.value) as (λ b. cond b (apply_writes d (ws ++ us)) (apply_writes (update d x.cell x.value) (ws ++ us)) ≡ apply_writes (cond b (apply_writes d ws) (apply_writes (update d x.cell x.value) ws)) us)
    [ true ↦ apply_append ws us d | false ↦ apply_append ws us (update d x.cell x.value) ]

pub count_append : (ws us : List Write) (d : Store) → write_count d (ws ++ us) ≡ write_count d ws + write_count (apply_writes d ws) us
unfolding write_count apply_writes
count_append [] us d = sym (zero-add (write_count d us))
count_append (x ∷ ws) us d =
    elim (eqb (d x.cell) x.value) as (λ b. cond b (write_count d (ws ++ us)) (suc (write_count (update d x.cell x.value) (ws ++ us))) ≡ cond b (write_count d ws) (suc (write_count (update d x.cell x.value) ws)) + write_count (cond b (apply_writes d ws) (apply_writes (update d x.cell x.value) ws)) us)
    [ true ↦ count_append ws us d | false ↦ omega (arith, count_append ws us (update d x.cell x.value)) ]

pub cut_early : (ws us : List Write) (d : Store) (k j : ℕ) → k < write_count d ws → cut_writes d (ws ++ us) k j ≡ cut_writes d ws k j
unfolding cut_writes write_count
cut_early [] us d k j = λ h. absurd (omega arith)
cut_early (x ∷ ws) us d zero j =
    elim (eqb (d x.cell) x.value) as (λ b. zero < cond b (write_count d ws) (suc (write_count (update d x.cell x.value) ws)) → cond b (cut_writes d (ws ++ us) zero j) (update d x.cell j) ≡ cond b (cut_writes d ws zero j) (update d x.cell j))
    [ true ↦ λ h. cut_early ws us d zero j h | false ↦ λ h. refl ]
cut_early (x ∷ ws) us d (suc k) j =
    elim (eqb (d x.cell) x.value) as (λ b. suc k < cond b (write_count d ws) (suc (write_count (update d x.cell x.value) ws)) → cond b (cut_writes d (ws ++ us) (suc k) j) (cut_writes (update d x.cell x.value) (ws ++ us) k j) ≡ cond b (cut_writes d ws (suc k) j) (cut_writes (update d x.cell x.value) ws k j))
    [ true ↦ λ h. cut_early ws us d (suc k) j h | false ↦ λ h. cut_early ws us (update d x.cell x.value) k j (omega arith) ]

pub cut_late : (ws us : List Write) (d : Store) (k j : ℕ) → cut_writes d (ws ++ us) (write_count d ws + k) j ≡ cut_writes (apply_writes d ws) us k j
unfolding cut_writes write_count apply_writes
cut_late [] us d k j = ap (λ m. cut_writes d us m j) (zero-add k)
cut_late (x ∷ ws) us d k j =
    elim (eqb (d x.cell) x.value) as (λ b. (b ≡ eqb (d x.cell) x.value) → cut_writes d (x ∷ (ws ++ us)) (cond b (write_count d ws) (suc (write_count (update d x.cell x.value) ws)) + k) j ≡ cut_writes (cond b (apply_writes d ws) (apply_writes (update d x.cell x.value) ws)) us k j) [
      | true ↦ λ e. skip (write_count d ws + k) (sym e) ∙ cut_late ws us d k j
      | false ↦ λ e. ap (λ m. cut_writes d (x ∷ (ws ++ us)) m j) (suc-add (write_count (update d x.cell x.value) ws) k)
          ∙ cond-false _ _ _ (sym e)
          ∙ cut_late ws us (update d x.cell x.value) k j
    ] refl
  where
    skip : (m : ℕ) → eqb (d x.cell) x.value ≡ true → cut_writes d (x ∷ (ws ++ us)) m j ≡ cut_writes d (ws ++ us) m j
    skip zero e = cond-true _ _ _ e
    skip (suc m) e = cond-true _ _ _ e

-- a write that its cell holds already is passed over
pub cut_skip : (x : Write) (ws : List Write) (d : Store) (m j : ℕ) → d x.cell ≡ x.value → cut_writes d (x ∷ ws) m j ≡ cut_writes d ws m j
unfolding cut_writes
cut_skip x ws d zero j e = cond-true _ _ _ (eq-eqb (d x.cell) x.value e)
cut_skip x ws d (suc m) j e = cond-true _ _ _ (eq-eqb (d x.cell) x.value e)

-- the count is that of the writes that are done
pub count_length : (ws : List Write) (d : Store) → write_count d ws ≡ length (effective_writes d ws)
unfolding write_count effective_writes
count_length [] d = refl
count_length (x ∷ ws) d =
    elim (eqb (d x.cell) x.value) as (λ b. cond b (write_count d ws) (suc (write_count (update d x.cell x.value) ws)) ≡ length (cond b (effective_writes d ws) (x ∷ effective_writes (update d x.cell x.value) ws)))
    [ true ↦ count_length ws d | false ↦ ap suc (count_length ws (update d x.cell x.value)) ]
