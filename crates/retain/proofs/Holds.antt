-- One step of a device: a commit that ends, and one that is cut, keep it sound and leave the values that they should.
use Rattle.std.proofs.Common.{◌≡◌, ℕ, suc, ◌+◌, ◌-◌, ◌<◌, ◌≤◌, Bool, true, false, cond, not, eqb, ◌⊎◌, List, [], ◌∷◌, ◌++◌, sym, refl, ap, ◌∙◌, subst, ap₂, inl, inr, arith}
use Rattle.std.proofs.lemmas.Bool.{cond_both, cond-true, cond-false, and_parts, and_from, ltb-true, eqb-true, eqb-false, eq-eqb, ne_eqb, lt-ltb, cases_order}
use Rattle.std.proofs.lemmas.Bool.Decides.{nat_tests}
use Rattle.retain.specs.declared.Write.{Write}
use Rattle.base.specs.Stores.{Store, update}
use Rattle.retain.specs.Device.{slot_base, valid, current, stamp, recovered, value_writes, slot_writes, commit_writes, apply_writes, cut_writes, write_count, factory, came_out, Sound, Holds}
use Rattle.retain.specs.Story.{cut_leaves}
use Rattle.base.proofs.StoreLaws.{update_same, update_other}
use Rattle.retain.proofs.StoryLaws.{before_leaves, past_leaves, last_leaves}
use Rattle.retain.proofs.Writes.{Within, Outside, outside_ne, values_within, apply_frame, cut_frame, apply_head, apply_values, apply_append, count_append, cut_early, cut_late, cut_skip}

-- the other slot than a has a second stamp below s, or a first stamp s + 1 and not the second
abbrev Behind : ℕ → Store → Bool → ℕ → Type 0
Behind n d a s =
    (d (slot_base n (not a) + 1 + n) < s) ⊎ ((d (slot_base n (not a)) ≡ suc s) × (d (slot_base n (not a) + 1 + n) ≡ suc s → ⊥))

-- slot a is valid with stamp s, and the other one is behind it
pub record SoundAt (n : ℕ) (d : Store) (a : Bool) (s : ℕ) : Type 0 where
  pub first : d (slot_base n a) ≡ s
  pub second : d (slot_base n a + 1 + n) ≡ s
  pub positive : 0 < s
  pub other : Behind n d a s

pub current_is : (n : ℕ) (d : Store) (a : Bool) (s : ℕ) → SoundAt n d a s → current n d ≡ a
current_is n d true s h = let f = h.first in let g = h.second in let p = h.positive in let o = h.other in grind (arith, nat_tests)
current_is n d false s h = let f = h.first in let g = h.second in let p = h.positive in let o = h.other in grind (arith, nat_tests)

pub stamp_is : (n : ℕ) (d : Store) (a : Bool) (s : ℕ) → SoundAt n d a s → stamp n d ≡ s
unfolding stamp
stamp_is n d a s h = ap (λ b. d (slot_base n b)) (current_is n d a s h) ∙ h.first

-- the cells of a slot are no cells of the other
pub apart : (n : ℕ) (a : Bool) (c : ℕ) → slot_base n a ≤ c → c < slot_base n a + 2 + n → Outside (slot_base n (not a)) (slot_base n (not a) + 2 + n) c
apart n true c l h = inr (omega arith)
apart n false c l h = inl (omega arith)

-- the device holds the values u
pub record Held (n : ℕ) (d u : Store) : Type 0 where
  pub slot : Bool
  pub at : ℕ
  pub sound : SoundAt n d slot at
  pub values : (i : ℕ) → i < n → d (slot_base n slot + 1 + i) ≡ u i

pub recovered_is : (n : ℕ) (d u : Store) → Held n d u → (i : ℕ) → i < n → recovered n d i ≡ u i
unfolding recovered
recovered_is n d u h i l = ap (λ b. d (slot_base n b + 1 + i)) (current_is n d h.slot h.at h.sound) ∙ h.values i l

not_not : (a : Bool) → not (not a) ≡ a
not_not true = refl
not_not false = refl

-- the writes of a commit but for the last, and the last
abbrev front : ℕ → Bool → ℕ → Store → List Write
front n a s v = record { cell = slot_base n a; value = s } ∷ value_writes (slot_base n a + 1) v 0 n

abbrev last : ℕ → Bool → ℕ → Write
last n a s = record { cell = slot_base n a + 1 + n; value = s }

front_within : (n : ℕ) (a : Bool) (s : ℕ) (v : Store) (hi : ℕ) → slot_base n a + 1 + n ≤ hi → Within (slot_base n a) hi (front n a s v)
front_within n a s v hi l = (omega arith, omega arith, values_within (slot_base n a) hi (slot_base n a + 1) v 0 n (omega arith) (omega arith))

module _ (n : ℕ) (d : Store) (a : Bool) (s : ℕ) (v : Store) (h : SoundAt n d a s) where
  commit_is : commit_writes n d v ≡ front n (not a) (suc s) v ++ (last n (not a) (suc s) ∷ [])
  unfolding commit_writes slot_writes stamp
  commit_is = ap (λ b. slot_writes n (not b) (suc (d (slot_base n b))) v) (current_is n d a s h) ∙ ap (λ t. slot_writes n (not a) (suc t) v) h.first

  staged : ℕ → ℕ
  staged = apply_writes d (front n (not a) (suc s) v)

  staged_first : staged (slot_base n (not a)) ≡ suc s
  unfolding staged
  staged_first =
      apply_head (slot_base n (not a) + 1) (slot_base n (not a) + 1 + n) (record { cell = slot_base n (not a); value = suc s }) (value_writes (slot_base n (not a) + 1) v 0 n) d
      (values_within (slot_base n (not a) + 1) (slot_base n (not a) + 1 + n) (slot_base n (not a) + 1) v 0 n (omega arith) (omega arith)) (inl (omega arith))

  staged_second : staged (slot_base n (not a) + 1 + n) ≡ d (slot_base n (not a) + 1 + n)
  unfolding staged
  staged_second = apply_frame (slot_base n (not a)) (slot_base n (not a) + 1 + n) (slot_base n (not a) + 1 + n) (front n (not a) (suc s) v) d (front_within n (not a) (suc s) v (slot_base n (not a) + 1 + n) (omega arith)) (inr (omega arith))

  staged_value : (i : ℕ) → i < n → staged (slot_base n (not a) + 1 + i) ≡ v i
  unfolding staged apply_writes
  staged_value i l =
      cond_both (eqb (d (slot_base n (not a))) (suc s)) (apply_writes d (value_writes (slot_base n (not a) + 1) v 0 n)) (apply_writes (update d (slot_base n (not a)) (suc s)) (value_writes (slot_base n (not a) + 1) v 0 n)) (λ e. e (slot_base n (not a) + 1 + i) ≡ v i)
      (λ _. apply_values (slot_base n (not a) + 1) v d 0 n i (omega arith) (omega arith))
      (λ _. apply_values (slot_base n (not a) + 1) v (update d (slot_base n (not a)) (suc s)) 0 n i (omega arith) (omega arith))

  staged_old : (c : ℕ) → slot_base n a ≤ c → c < slot_base n a + 2 + n → staged c ≡ d c
  unfolding staged
  staged_old c l u = apply_frame (slot_base n (not a)) (slot_base n (not a) + 2 + n) c (front n (not a) (suc s) v) d (front_within n (not a) (suc s) v (slot_base n (not a) + 2 + n) (omega arith)) (apart n a c l u)

  -- the last write is always done
  not_yet : d (slot_base n (not a) + 1 + n) ≡ suc s → ⊥
  not_yet e = elim h.other [ inl x ↦ omega arith | inr x ↦ x.1 e ]

  last_open : eqb (staged (slot_base n (not a) + 1 + n)) (suc s) ≡ false
  last_open = ne_eqb (staged (slot_base n (not a) + 1 + n)) (suc s) (λ e. not_yet (sym staged_second ∙ e))

  count_is : write_count d (commit_writes n d v) ≡ suc (write_count d (front n (not a) (suc s) v))
  unfolding staged write_count
  count_is =
      ap (write_count d) commit_is ∙ count_append (front n (not a) (suc s) v) (last n (not a) (suc s) ∷ []) d
      ∙ ap (λ m. write_count d (front n (not a) (suc s) v) + m) (cond-false _ _ _ last_open) ∙ omega arith

  apply_is : apply_writes d (commit_writes n d v) ≡ update staged (slot_base n (not a) + 1 + n) (suc s)
  unfolding staged apply_writes
  apply_is =
      ap (apply_writes d) commit_is ∙ apply_append (front n (not a) (suc s) v) (last n (not a) (suc s) ∷ []) d
      ∙ cond-false _ _ _ last_open

  last_apart : (c : ℕ) → slot_base n a ≤ c → c < slot_base n a + 2 + n → c ≡ slot_base n (not a) + 1 + n → ⊥
  last_apart c l u = outside_ne (slot_base n (not a)) (slot_base n (not a) + 2 + n) c (slot_base n (not a) + 1 + n) (apart n a c l u) (omega arith) (omega arith)

  -- where the other slot is whole, it has the new values
  new_held : (j : ℕ) → j ≡ suc s → Held n (update staged (slot_base n (not a) + 1 + n) j) v
  new_held j e = record {
    slot = not a;
    at = suc s;
    sound = record {
      first = update_other staged (slot_base n (not a) + 1 + n) j (slot_base n (not a)) (λ x. omega arith) ∙ staged_first;
      second = update_same staged (slot_base n (not a) + 1 + n) j (slot_base n (not a) + 1 + n) refl ∙ e;
      positive = omega arith;
      other = inl (rw (not_not a) below);
    };
    values = λ i l. update_other staged (slot_base n (not a) + 1 + n) j (slot_base n (not a) + 1 + i) (λ x. omega arith) ∙ staged_value i l;
  }
    where
      below : update staged (slot_base n (not a) + 1 + n) j (slot_base n a + 1 + n) < suc s
      below =
          let q : update staged (slot_base n (not a) + 1 + n) j (slot_base n a + 1 + n) ≡ s =
          update_other staged (slot_base n (not a) + 1 + n) j (slot_base n a + 1 + n) (last_apart (slot_base n a + 1 + n) (omega arith) (omega arith))
          ∙ staged_old (slot_base n a + 1 + n) (omega arith) (omega arith) ∙ h.second
          in omega (arith, q)

  module _ (u : Store) (old : (i : ℕ) → i < n → d (slot_base n a + 1 + i) ≡ u i) where
    -- what leaves slot a, and the other one cut, leaves the old values
    old_held : (e : Store) → ((c : ℕ) → slot_base n a ≤ c → c < slot_base n a + 2 + n → e c ≡ d c) →
        Behind n e a s → Held n e u
    old_held e same o = record {
      slot = a;
      at = s;
      sound = record { first = same (slot_base n a) (omega arith) (omega arith) ∙ h.first; second = same (slot_base n a + 1 + n) (omega arith) (omega arith) ∙ h.second; positive = h.positive; other = o };
      values = λ i l. same (slot_base n a + 1 + i) (omega arith) (omega arith) ∙ old i l;
    }

    early : (k j : ℕ) → k < write_count d (front n (not a) (suc s) v) → Held n (cut_writes d (commit_writes n d v) k j) u
    early k j l =
        subst (λ e. Held n e u) (sym (ap (λ ws. cut_writes d ws k j) commit_is ∙ cut_early (front n (not a) (suc s) v) (last n (not a) (suc s) ∷ []) d k j l))
        (old_held (cut_writes d (front n (not a) (suc s) v) k j)
        (λ c lo hi. cut_frame (slot_base n (not a)) (slot_base n (not a) + 2 + n) c (front n (not a) (suc s) v) d k j (front_within n (not a) (suc s) v (slot_base n (not a) + 2 + n) (omega arith)) (apart n a c lo hi))
        (elim h.other [
          | inl x ↦ inl (rw second x)
          | inr x ↦ inr (first x.0, λ e. x.1 (sym second ∙ e))
        ]))
      where
        second : cut_writes d (front n (not a) (suc s) v) k j (slot_base n (not a) + 1 + n) ≡ d (slot_base n (not a) + 1 + n)
        second = cut_frame (slot_base n (not a)) (slot_base n (not a) + 1 + n) (slot_base n (not a) + 1 + n) (front n (not a) (suc s) v) d k j (front_within n (not a) (suc s) v (slot_base n (not a) + 1 + n) (omega arith)) (inr (omega arith))

        first : d (slot_base n (not a)) ≡ suc s → cut_writes d (front n (not a) (suc s) v) k j (slot_base n (not a)) ≡ suc s
        first x =
            ap (λ e. e (slot_base n (not a))) (cut_skip (record { cell = slot_base n (not a); value = suc s }) (value_writes (slot_base n (not a) + 1) v 0 n) d k j x)
            ∙ cut_frame (slot_base n (not a) + 1) (slot_base n (not a) + 1 + n) (slot_base n (not a)) (value_writes (slot_base n (not a) + 1) v 0 n) d k j
            (values_within (slot_base n (not a) + 1) (slot_base n (not a) + 1 + n) (slot_base n (not a) + 1) v 0 n (omega arith) (omega arith)) (inl (omega arith))
            ∙ x

    cut_in_last : (j : ℕ) → Held n (update staged (slot_base n (not a) + 1 + n) j) (cond (eqb j (suc s)) v u)
    cut_in_last j =
        cond_both (eqb j (suc s)) v u (Held n (update staged (slot_base n (not a) + 1 + n) j))
        (λ e. new_held j (eqb-true j (suc s) e))
        (λ ne. old_held (update staged (slot_base n (not a) + 1 + n) j)
        (λ c lo hi. update_other staged (slot_base n (not a) + 1 + n) j c (last_apart c lo hi) ∙ staged_old c lo hi)
        (inr (
          update_other staged (slot_base n (not a) + 1 + n) j (slot_base n (not a)) (λ x. omega arith) ∙ staged_first,
          λ e. eqb-false j (suc s) ne (sym (update_same staged (slot_base n (not a) + 1 + n) j (slot_base n (not a) + 1 + n) refl) ∙ e),
        )))

  late : (k j m : ℕ) → k ≡ write_count d (front n (not a) (suc s) v) + m → cut_writes d (commit_writes n d v) k j ≡ cut_writes staged (last n (not a) (suc s) ∷ []) m j
  unfolding staged
  late k j m e = ap₂ (λ ws x. cut_writes d ws x j) commit_is e ∙ cut_late (front n (not a) (suc s) v) (last n (not a) (suc s) ∷ []) d m j

  in_last : (k j : ℕ) → k ≡ write_count d (front n (not a) (suc s) v) → cut_writes d (commit_writes n d v) k j ≡ update staged (slot_base n (not a) + 1 + n) j
  unfolding cut_writes
  in_last k j e = late k j 0 (omega arith) ∙ cond-false _ _ _ last_open

  past_last : (k j : ℕ) → write_count d (front n (not a) (suc s) v) < k → cut_writes d (commit_writes n d v) k j ≡ update staged (slot_base n (not a) + 1 + n) (suc s)
  unfolding cut_writes
  past_last k j l =
      late k j (suc (k - suc (write_count d (front n (not a) (suc s) v)))) (omega arith)
      ∙ cond-false _ _ _ last_open

-- ONE STEP: a commit that ends, and a cut one
pub commit_step : (n : ℕ) (d u v : Store) → Held n d u → Held n (apply_writes d (commit_writes n d v)) v
commit_step n d u v h = subst (λ e. Held n e v) (sym (apply_is n d h.slot h.at v h.sound)) (new_held n d h.slot h.at v h.sound (suc h.at) refl)

pub cut_step : (n : ℕ) (d u v : Store) (k j : ℕ) → Held n d u → Held n (cut_writes d (commit_writes n d v) k j) (cut_leaves (write_count d (commit_writes n d v)) k (came_out n d j) u v)
unfolding came_out
cut_step n d u v k j h =
    elim (cases_order k (write_count d (front n (not h.slot) (suc h.at) v))) [
      | inl e ↦ told_as (sym (in_last n d h.slot h.at v h.sound k j e)) (last_leaves _ k (came_out n d j) u v (omega (arith, count)) ∙ ap (λ s. cond (eqb j (suc s)) v u) (stamp_is n d h.slot h.at h.sound))
          (cut_in_last n d h.slot h.at v h.sound u h.values j)
      | inr q ↦ elim q [
        | inl l ↦ told_as refl (before_leaves _ k (came_out n d j) u v (omega (arith, count))) (early n d h.slot h.at v h.sound u h.values k j l)
        | inr l ↦ told_as (sym (past_last n d h.slot h.at v h.sound k j l)) (past_leaves _ k (came_out n d j) u v (omega (arith, count))) (new_held n d h.slot h.at v h.sound (suc h.at) refl)
      ]
    ]
  where
    count : write_count d (commit_writes n d v) ≡ suc (write_count d (front n (not h.slot) (suc h.at) v))
    count = count_is n d h.slot h.at v h.sound

    told_as : {e f t w : Store} → e ≡ f → t ≡ w → Held n e w → Held n f t
    told_as {t = t} p q x = subst (λ e. Held n e t) p (subst (Held n _) (sym q) x)

pub factory_held : (n : ℕ) (first : Store) → Held n (factory n first) first
unfolding factory
factory_held n first = record {
  slot = false;
  at = 1;
  sound = record { first = refl; second = grind (arith, nat_tests); positive = omega arith; other = inl (grind (arith, nat_tests)) };
  values = λ i l.
      cond-false _ _ _ (ne_eqb (1 + i) 0 (λ x. omega arith))
      ∙ cond-true _ _ _ (lt-ltb (1 + i) (n + 1) (omega arith))
      ∙ ap first (omega arith);
}

-- ONE STEP of a sound device, and how it begins
pub sound_held : (n : ℕ) (d : Store) → Sound n d → Held n d (recovered n d)
unfolding recovered stamp
sound_held n d h = record {
  slot = current n d;
  at = stamp n d;
  sound = record { first = refl; second = sym (eqb-true _ _ (and_parts _ _ h.whole).0); positive = ltb-true _ _ (and_parts _ _ h.whole).1; other = h.other };
  values = λ i l. refl;
}

pub held_holds : (n : ℕ) (d u : Store) → Held n d u → Holds n d u
unfolding stamp
held_holds n d u h = (
  record {
    whole = subst (λ b. valid n d b ≡ true) (sym (current_is n d h.slot h.at h.sound))
        (and_from _ _ (eq-eqb _ _ (h.sound.first ∙ sym h.sound.second)) (lt-ltb _ _ (omega (arith, h.sound.first, h.sound.positive))));
    other = subst (λ b. Behind n d b (d (slot_base n b))) (sym (current_is n d h.slot h.at h.sound)) (subst (Behind n d h.slot) (sym h.sound.first) h.sound.other);
  },
  recovered_is n d u h,
)

pub factory_sound : (kept : ℕ) (first : Store) → Holds kept (factory kept first) first
factory_sound kept first = held_holds kept _ first (factory_held kept first)

pub commit_keeps : (kept : ℕ) (d v : Store) → Sound kept d → Holds kept (apply_writes d (commit_writes kept d v)) v
commit_keeps kept d v h = held_holds kept _ v (commit_step kept d (recovered kept d) v (sound_held kept d h))

pub cut_keeps : (kept : ℕ) (d v : Store) (k junk : ℕ) → Sound kept d →
    Holds kept (cut_writes d (commit_writes kept d v) k junk) (cut_leaves (write_count d (commit_writes kept d v)) k (came_out kept d junk) (recovered kept d) v)
cut_keeps kept d v k junk h = held_holds kept _ _ (cut_step kept d (recovered kept d) v k junk (sound_held kept d h))
