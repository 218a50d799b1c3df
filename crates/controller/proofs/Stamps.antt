-- A stamp rises by at most one with an event.
use Rattle.std.proofs.Common.{◌≡◌, ℕ, zero, suc, ◌+◌, ◌^◌, ◌<◌, ◌≤◌, Bool, true, false, not, eqb, ◌⊎◌, List, [], ◌∷◌, ◌++◌, length, None, sym, refl, ap, ◌∙◌, subst, inl, inr, ⊎_elim, arith}
use Rattle.std.proofs.lemmas.Bool.{cond_both, and_parts, eqb-true, eqb-false, lt-ltb, cases_Bool}
use Rattle.std.proofs.lemmas.Bool.Decides.{nat_tests}
use Rattle.base.specs.Stores.{Store, update}
use Rattle.base.proofs.StoreLaws.{update_same, update_other}
use Rattle.base.proofs.Checks.{passes}
use Rattle.retain.specs.declared.Write.{Write}
use Rattle.retain.specs.Device.{slot_base, current, stamp, value_writes, slot_writes, commit_writes, apply_writes, cut_writes, factory as new_device, Sound}
use Rattle.retain.specs.Entry.{stamp_refusal}
use Rattle.retain.proofs.Writes.{Within, values_within, apply_frame, cut_frame}
use Rattle.retain.proofs.Holds.{apart, commit_keeps, cut_keeps}
use Rattle.controller.specs.World.{Project, Event, start, scan, cut, force, free, executed}
use Rattle.controller.specs.History.{State, react, factory, after}
use Rattle.controller.specs.Promises.{StampsLast}
use Rattle.controller.specs.Memory.{device_in, StandsFor}
use Rattle.controller.proofs.Reacts.{react_scan, react_cut, react_off, react_device}
use Rattle.controller.proofs.Survival.{agrees}

stamp_is : (n : ℕ) (d : Store) → stamp n d ≡ d (slot_base n (current n d))
unfolding stamp
stamp_is n d = refl

-- the current slot's second stamp is its first
second_is : (n : ℕ) (d : Store) → Sound n d → d (slot_base n (current n d)) ≡ d (slot_base n (current n d) + 1 + n)
second_is n d h = eqb-true _ _ (and_parts _ _ h.whole).0

other_slot : (a b : Bool) → (b ≡ a) ⊎ (b ≡ not a)
other_slot true true = inl refl
other_slot true false = inr refl
other_slot false true = inr refl
other_slot false false = inl refl

module _ (n : ℕ) (d : Store) (v : Store) (h : Sound n d) where
  abbrev a : Bool
  a = current n d

  abbrev to : ℕ
  to = slot_base n (not (current n d))

  abbrev tail : List Write
  tail = value_writes (to + 1) v 0 n ++ (record { cell = to + 1 + n; value = suc (stamp n d) } ∷ [])

  append_within : (lo hi : ℕ) (ws : List Write) (w : Write) → Within lo hi ws → lo ≤ w.cell → w.cell < hi → Within lo hi (ws ++ (w ∷ []))
  append_within lo hi [] w x l u = (l, u, tt)
  append_within lo hi (y ∷ ws) w x l u = (x.0, x.1, append_within lo hi ws w x.2 l u)

  abbrev head : Write
  head = record { cell = to; value = suc (stamp n d) }

  tail_within : (lo : ℕ) → lo ≤ to + 1 → Within lo (to + 2 + n) tail
  tail_within lo l = append_within lo (to + 2 + n) _ _ (values_within lo (to + 2 + n) (to + 1) v 0 n (omega arith) (omega arith)) (omega arith) (omega arith)

  all_within : Within to (to + 2 + n) (head ∷ tail)
  all_within = (omega arith, omega arith, tail_within to (omega arith))

  writes_are : commit_writes n d v ≡ head ∷ tail
  unfolding commit_writes slot_writes
  writes_are = refl

  -- a device whose slot a is as it was, and whose other slot, if whole, has no stamp past the next
  bounded : (e : Store) → Sound n e → e (slot_base n a) ≡ d (slot_base n a) → (e to ≡ e (to + 1 + n) → e to ≤ suc (stamp n d)) → stamp n e ≤ suc (stamp n d)
  bounded e s same other =
      elim (other_slot a (current n e)) [
        | inl x ↦ let st : stamp n e ≡ stamp n d = stamp_is n e ∙ ap (λ b. e (slot_base n b)) x ∙ same ∙ sym (stamp_is n d) in omega (arith, st)
        | inr x ↦
            let st : stamp n e ≡ e to = stamp_is n e ∙ ap (λ b. e (slot_base n b)) x in
            let two : e to ≡ e (to + 1 + n) = subst (λ b. e (slot_base n b) ≡ e (slot_base n b + 1 + n)) x (second_is n e s) in
            omega (arith, st, other two)
      ]

  commit_first : apply_writes d (head ∷ tail) to ≡ suc (stamp n d)
  unfolding apply_writes
  commit_first =
      cond_both (eqb (d to) (suc (stamp n d))) (apply_writes d tail) (apply_writes (update d to (suc (stamp n d))) tail) (λ e. e to ≡ suc (stamp n d))
      (λ e. apply_frame (to + 1) (to + 2 + n) to tail d (tail_within (to + 1) (omega arith)) (inl (omega arith)) ∙ eqb-true _ _ e)
      (λ _. apply_frame (to + 1) (to + 2 + n) to tail (update d to (suc (stamp n d))) (tail_within (to + 1) (omega arith)) (inl (omega arith)) ∙ update_same d to (suc (stamp n d)) to refl)

  pub commit_bounded : stamp n (apply_writes d (commit_writes n d v)) ≤ suc (stamp n d)
  commit_bounded =
      bounded (apply_writes d (commit_writes n d v)) (commit_keeps n d v h).0
      (ap (λ ws. apply_writes d ws (slot_base n a)) writes_are ∙ apply_frame to (to + 2 + n) (slot_base n a) (head ∷ tail) d all_within (apart n a (slot_base n a) (omega arith) (omega arith)))
      (λ _. let e : apply_writes d (commit_writes n d v) to ≡ suc (stamp n d) = ap (λ ws. apply_writes d ws to) writes_are ∙ commit_first in omega (arith, e))

  abbrev Low : Store → Type 0
  Low e = e to ≡ e (to + 1 + n) → e to ≤ suc (stamp n d)

  is_low : (e : Store) → e to ≡ suc (stamp n d) → Low e
  is_low e x = λ _. omega (arith, x)

  -- junk in the first stamp makes the slot whole only where it is the second stamp, which is an older one
  junk_low : (junk : ℕ) → eqb (d to) (suc (stamp n d)) ≡ false → Low (update d to junk)
  junk_low junk ne = λ two.
      let two₁ : update d to junk to ≡ d (to + 1 + n) = two ∙ update_other d to junk (to + 1 + n) (λ q. omega arith) in
      elim h.other [ inl x ↦ omega (arith, x, two₁) | inr x ↦ absurd (eqb-false _ _ ne x.0) ]

  skip_low : (k junk : ℕ) → eqb (d to) (suc (stamp n d)) ≡ true → Low (cut_writes d tail k junk)
  skip_low k junk e = is_low (cut_writes d tail k junk) (cut_frame (to + 1) (to + 2 + n) to tail d k junk (tail_within (to + 1) (omega arith)) (inl (omega arith)) ∙ eqb-true _ _ e)

  cut_low : (k junk : ℕ) → Low (cut_writes d (head ∷ tail) k junk)
  unfolding cut_writes
  cut_low zero junk =
      cond_both (eqb (d to) (suc (stamp n d))) (cut_writes d tail zero junk) (update d to junk) Low (skip_low zero junk) (junk_low junk)
  cut_low (suc k) junk =
      cond_both (eqb (d to) (suc (stamp n d))) (cut_writes d tail (suc k) junk) (cut_writes (update d to (suc (stamp n d))) tail k junk) Low (skip_low (suc k) junk)
      (λ _. is_low (cut_writes (update d to (suc (stamp n d))) tail k junk)
      (cut_frame (to + 1) (to + 2 + n) to tail (update d to (suc (stamp n d))) k junk (tail_within (to + 1) (omega arith)) (inl (omega arith)) ∙ update_same d to (suc (stamp n d)) to refl))

  pub cut_bounded : (k junk : ℕ) → stamp n (cut_writes d (commit_writes n d v) k junk) ≤ suc (stamp n d)
  cut_bounded k junk =
      bounded (cut_writes d (commit_writes n d v) k junk) (cut_keeps n d v k junk h).0
      (ap (λ ws. cut_writes d ws k junk (slot_base n a)) writes_are ∙ cut_frame to (to + 2 + n) (slot_base n a) (head ∷ tail) d k junk all_within (apart n a (slot_base n a) (omega arith) (omega arith)))
      (subst (λ ws. Low (cut_writes d ws k junk)) (sym writes_are) (cut_low k junk))

made_low : (n : ℕ) (first : Store) (b : Bool) → new_device n first (slot_base n b) ≤ 1
unfolding new_device
made_low n first false = omega arith
made_low n first true = grind (arith, nat_tests)

module _ (p : Project) (s : State) (sound : Sound p.kept s.device) where
  same : (t : State) → t.device ≡ s.device → stamp p.kept t.device ≤ suc (stamp p.kept s.device)
  same t e = let x = ap (stamp p.kept) e in omega (arith, x)

  moved : (t u : State) → t ≡ u → stamp p.kept u.device ≤ suc (stamp p.kept s.device) → stamp p.kept t.device ≤ suc (stamp p.kept s.device)
  moved t u e x = subst (λ w. stamp p.kept w.device ≤ suc (stamp p.kept s.device)) (sym e) x

  powered : {A : Type 0} → (s.live.on ≡ true → A) → (s.live.on ≡ false → A) → A
  powered x y = ⊎_elim x y (cases_Bool s.live.on)

  step : (e : Event) → stamp p.kept (react p e s).device ≤ suc (stamp p.kept s.device)
  step start = same (react p start s) (react_device p s start refl)
  step (scan f dt) = powered
      (λ on. moved _ _ (react_scan p s f dt on) (commit_bounded p.kept s.device (executed p s.live f dt).store sound))
      (λ no. moved _ _ (react_off p s (scan f dt) refl no) (omega arith))
  step (cut f dt k junk) = powered
      (λ on. moved _ _ (react_cut p s f dt k junk on) (cut_bounded p.kept s.device (executed p s.live f dt).store sound k junk))
      (λ no. moved _ _ (react_off p s (cut f dt k junk) refl no) (omega arith))
  step (force i v) = same (react p (force i v) s) (react_device p s (force i v) refl)
  step (free i) = same (react p (free i) s) (react_device p s (free i) refl)

pub stamps_last_lem : StampsLast
unfolding after factory stamp
stamps_last_lem p [] = made_low p.kept p.initial (current p.kept (new_device p.kept p.initial))
stamps_last_lem p (e ∷ es) =
    let x = stamps_last_lem p es in
    let y = step p (after p es) (agrees p es).sound e in
    omega (arith, x, y)

-- so no save is refused for its stamp in a history shorter than 2^62 events
pub stamp_fresh : (p : Project) (es : List Event) (m : List ℕ) → StandsFor p m es → length es + 1 < 2 ^ 62 → stamp_refusal (stamp p.kept (device_in m)) ≡ None
stamp_fresh p es m h l =
    let low = stamps_last_lem p es in
    let same : stamp p.kept (device_in m) ≡ stamp p.kept (after p es).device = ap (λ s. stamp p.kept s.device) h in
    passes _ 8 0 None (lt-ltb _ _ (omega (arith, low, same)))
