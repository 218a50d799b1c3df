-- From slices to stores: a slice's `set` is a store's `update`, and one write of a list of writes.
use Rattle.std.proofs.Common.{◌≡◌, ℕ, zero, suc, ◌+◌, ◌-◌, ◌<◌, ◌≤◌, Bool, true, false, cond, not, eqb, List, [], ◌∷◌, ◌++◌, length, get_or, take, drop, set, sym, refl, ap, ◌∙◌, subst, ap₂, inl, inr, append_assoc, arith, drop-drop, drop-set-lt}
use Rattle.std.proofs.lemmas.List.{take_more_set, drop_more, drop_all, length-append}
use Rattle.std.proofs.lemmas.Bool.{not-true, not-false, cond-true, cond-false, eqb-true, eq-eqb, ne_eqb, cases_eq}
use Rattle.retain.specs.declared.Write.{Write}
use Rattle.retain.specs.declared.slots.Target.{Target}
use Rattle.base.specs.Stores.{Store, cells}
use Rattle.retain.specs.Device.{cell_count, slot_base, current, stamp, slot_writes, commit_writes, value_writes, apply_writes, cut_writes, effective_writes}
use Rattle.retain.specs.Commit.{planned}
use Rattle.retain.specs.Entry.{Next, slot_write, WriteCell}
use Rattle.base.proofs.StoreLaws.{cells_set}
use Rattle.retain.proofs.Shape.{slot_low}
use Rattle.retain.proofs.Writes.{Within, within_append, values_within, cut_skip}

pub planned_is : (kept : ℕ) (d v : Store) (t : Target) → Next kept d t → commit_writes kept d v ≡ planned kept t v
unfolding commit_writes slot_writes
planned_is kept d v t n =
    let e : suc (stamp kept d) ≡ t.stamp = omega (arith, n.stamp_is) in
    ap₂ (λ x s. record { cell = x; value = s } ∷ (value_writes (x + 1) v 0 kept ++ (record { cell = x + 1 + kept; value = s } ∷ []))) (sym n.cell_is) e

values_length : (from : ℕ) (v : Store) (i n : ℕ) → length (value_writes from v i n) ≡ n
unfolding value_writes
values_length from v i zero = refl
values_length from v i (suc n) = ap suc (values_length from v (suc i) n)

pub planned_length : (kept : ℕ) (t : Target) (v : Store) → length (planned kept t v) ≡ kept + 2
planned_length kept t v = omega (arith, length-append (value_writes (t.cell + 1) v 0 kept) (record { cell = t.cell + 1 + kept; value = t.stamp } ∷ []), values_length (t.cell + 1) v 0 kept)

value_at : (from : ℕ) (v : Store) (w e : Write) (i n m : ℕ) → m < n → get_or (value_writes from v i n ++ (w ∷ [])) m e ≡ record { cell = from + (i + m); value = v (i + m) }
unfolding value_writes
value_at from v w e i zero m l = absurd (omega arith)
value_at from v w e i (suc n) zero l = ap (λ x. record { cell = from + x; value = v x }) (omega arith)
value_at from v w e i (suc n) (suc m) l = value_at from v w e (suc i) n m (omega arith) ∙ ap (λ x. record { cell = from + x; value = v x }) (omega arith)

last_at : (from : ℕ) (v : Store) (w e : Write) (i n : ℕ) → get_or (value_writes from v i n ++ (w ∷ [])) n e ≡ w
unfolding value_writes
last_at from v w e i zero = refl
last_at from v w e i (suc n) = last_at from v w e (suc i) n

written : (kept : ℕ) (t : Target) (v : Store) (m : ℕ) → (slot_write kept t v (suc m)).value ≡ cond (eqb (suc m) (kept + 1)) t.stamp (v (suc m - 1))
written kept t v m = cond-false _ _ _ (ne_eqb (suc m) 0 (λ x. omega arith))

planned_at : (kept : ℕ) (t : Target) (v : Store) (e : Write) (i : ℕ) → i < kept + 2 → get_or (planned kept t v) i e ≡ slot_write kept t v i
planned_at kept t v e zero l = ap (λ x. record { cell = x; value = t.stamp }) (omega arith)
planned_at kept t v e (suc m) l =
    elim (cases_eq m kept) [
      | inl q ↦ ap (λ x. get_or (planned kept t v) (suc x) e) q ∙ last_at (t.cell + 1) v _ e 0 kept
          ∙ ap₂ (λ x y. record { cell = x; value = y }) (omega arith) (sym (written kept t v m ∙ cond-true _ _ _ (eq-eqb (suc m) (kept + 1) (omega arith))))
      | inr q ↦ value_at (t.cell + 1) v _ e 0 kept m (omega arith)
          ∙ ap₂ (λ x y. record { cell = x; value = y }) (omega arith)
          (ap v (omega arith) ∙ sym (written kept t v m ∙ cond-false _ _ _ (ne_eqb (suc m) (kept + 1) (λ x. q (omega arith)))))
    ]

-- the writes that are still to come: the next one and those after it, and none
pub to_come_none : (kept : ℕ) (t : Target) (v : Store) (i : ℕ) → kept + 2 ≤ i → drop i (planned kept t v) ≡ []
to_come_none kept t v i l = drop_all i (planned kept t v) (omega (arith, planned_length kept t v))

pub next_to_come : (kept : ℕ) (t : Target) (v : Store) (i : ℕ) (w : Write) → i < kept + 2 → w ≡ slot_write kept t v i → drop i (planned kept t v) ≡ w ∷ drop (i + 1) (planned kept t v)
next_to_come kept t v i w l e = drop_more (planned kept t v) i w (omega (arith, planned_length kept t v)) ∙ ap (λ x. x ∷ drop (i + 1) (planned kept t v)) (planned_at kept t v w i l ∙ sym e)

-- a commit writes to the cells of its device, as often as there are cells in a slot
pub commit_within : (kept : ℕ) (d v : Store) → Within 0 (cell_count kept) (commit_writes kept d v)
unfolding commit_writes slot_writes
commit_within kept d v =
    let low : slot_base kept (not (current kept d)) ≤ kept + 2 = slot_low kept (not (current kept d)) in (
      omega arith,
      omega arith,
      within_append _ _ _ _ (values_within 0 (cell_count kept) _ v 0 kept (omega arith) (omega arith)) (omega arith, omega arith, tt),
    )

pub commit_length : (kept : ℕ) (d v : Store) → length (commit_writes kept d v) ≡ kept + 2
unfolding commit_writes slot_writes
commit_length kept d v = omega (arith, length-append (value_writes (slot_base kept (not (current kept d)) + 1) v 0 kept) (record { cell = slot_base kept (not (current kept d)) + 1 + kept; value = suc (stamp kept d) } ∷ []), values_length (slot_base kept (not (current kept d)) + 1) v 0 kept)

-- m writes are noted, and ws are still to come: the device will be end, and all the writes will be noted
pub record Going (end : Store) (all : List Write) (room : List Write) (d : List ℕ) (noted : List Write) (m : ℕ) (ws : List Write) : Type 0 where
  pub device : apply_writes (cells d) ws ≡ end
  pub writes : take m noted ++ effective_writes (cells d) ws ≡ all
  pub beyond : drop m noted ≡ drop m room

module _ (end : Store) (all room : List Write) (d : List ℕ) (noted : List Write) (m : ℕ) (w : Write) (ws : List Write) where
  step_held : eqb (get_or d w.cell 0) w.value ≡ true → Going end all room d noted m (w ∷ ws) → Going end all room d noted m ws
  unfolding apply_writes effective_writes
  step_held e g = record {
    device = sym (cond-true _ _ _ e) ∙ g.device;
    writes = ap (λ x. take m noted ++ x) (sym (cond-true _ _ _ e)) ∙ g.writes;
    beyond = g.beyond;
  }

  step_done : w.cell < length d → m < length noted → eqb (get_or d w.cell 0) w.value ≡ false → Going end all room d noted m (w ∷ ws) → Going end all room (set d w.cell w.value) (set noted m w) (m + 1) ws
  unfolding apply_writes effective_writes
  step_done lc lm e g = record {
    device = ap (λ s. apply_writes s ws) (cells_set d w.cell w.value lc)
        ∙ sym (cond-false _ _ _ e) ∙ g.device;
    writes = ap (λ t. t ++ effective_writes (cells (set d w.cell w.value)) ws) (take_more_set noted m w lm)
        ∙ append_assoc (take m noted) (w ∷ []) (effective_writes (cells (set d w.cell w.value)) ws)
        ∙ ap (λ s. take m noted ++ (w ∷ effective_writes s ws)) (cells_set d w.cell w.value lc)
        ∙ ap (λ x. take m noted ++ x) (sym (cond-false _ _ _ e))
        ∙ g.writes;
    beyond = drop-set-lt (m + 1) noted m w (omega arith) ∙ sym (drop-drop 1 m noted) ∙ ap (drop 1) g.beyond ∙ drop-drop 1 m room;
  }

-- the same, of what `write_cell` leaves: a write that is done and noted, and one that its cell holds already
module _ {end : Store} {all room : List Write} {d : List ℕ} {noted : List Write} {m : ℕ} {w : Write} {to_come ws : List Write} {d' : List ℕ} (g : Going end all room d noted m to_come) (e : to_come ≡ w ∷ ws) (lc : w.cell < length d) where
  pub wrote : m < length noted → WriteCell d w true d' → Going end all room d' (set noted m w) (m + 1) ws
  wrote lm h =
      let n : eqb (get_or d w.cell 0) w.value ≡ false = not-true _ (sym h.0) in
      subst (λ u. Going end all room u (set noted m w) (m + 1) ws) (sym (h.1 ∙ cond-false _ _ _ n)) (step_done end all room d noted m w ws lc lm n (subst (λ us. Going end all room d noted m us) e g))

  pub passed_by : WriteCell d w false d' → Going end all room d' noted m ws
  passed_by h =
      let n : eqb (get_or d w.cell 0) w.value ≡ true = not-false _ (sym h.0) in
      subst (λ u. Going end all room u noted m ws) (sym (h.1 ∙ cond-true _ _ _ n)) (step_held end all room d noted m w ws n (subst (λ us. Going end all room d noted m us) e g))

pub begun : (d : List ℕ) (room : List Write) (ws : List Write) → Going (apply_writes (cells d) ws) (effective_writes (cells d) ws) room d room 0 ws
begun d room ws = record { device = refl; writes = refl; beyond = refl }

-- a cut: the write in which power goes, and one before it
pub gone : (d : List ℕ) (w : Write) (ws : List Write) (k junk : ℕ) (d' : List ℕ) → w.cell < length d →
    (eqb (get_or d w.cell 0) w.value ≡ false) × (k ≡ 0) × (d' ≡ set d w.cell junk) → cells d' ≡ cut_writes (cells d) (w ∷ ws) k junk
unfolding cut_writes
gone d w ws k junk d' lc h =
    ap cells h.2 ∙ cells_set d w.cell junk lc
    ∙ sym (cond-false _ _ _ h.0)
    ∙ ap (λ x. cut_writes (cells d) (w ∷ ws) x junk) (sym h.1)

went_by : (d : List ℕ) (w : Write) (ws : List Write) (m junk : ℕ) → w.cell < length d → (b : Bool) → eqb (get_or d w.cell 0) w.value ≡ b →
    cut_writes (cells (cond b d (set d w.cell w.value))) ws m junk ≡ cut_writes (cells d) (w ∷ ws) (cond b m (m + 1)) junk
unfolding cut_writes
went_by d w ws m junk lc true e = sym (cut_skip w ws (cells d) m junk (eqb-true (get_or d w.cell 0) w.value e))
went_by d w ws m junk lc false e =
    let f : suc m ≡ m + 1 = omega arith in
    ap (λ s. cut_writes s ws m junk) (cells_set d w.cell w.value lc)
    ∙ sym (cond-false _ _ _ e)
    ∙ ap (λ x. cut_writes (cells d) (w ∷ ws) x junk) f

pub went : (d : List ℕ) (w : Write) (ws : List Write) (k junk m : ℕ) (d' : List ℕ) → w.cell < length d →
    (k ≡ cond (eqb (get_or d w.cell 0) w.value) m (m + 1)) × (d' ≡ cond (eqb (get_or d w.cell 0) w.value) d (set d w.cell w.value)) →
    cut_writes (cells d') ws m junk ≡ cut_writes (cells d) (w ∷ ws) k junk
went d w ws k junk m d' lc h =
    ap (λ x. cut_writes (cells x) ws m junk) h.1 ∙ went_by d w ws m junk lc (eqb (get_or d w.cell 0) w.value) refl
    ∙ ap (λ x. cut_writes (cells d) (w ∷ ws) x junk) (sym h.0)
