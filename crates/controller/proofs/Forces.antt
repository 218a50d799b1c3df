-- What a memory stands for after a point is forced or freed.
use Rattle.std.proofs.Common.{◌≡◌, ℕ, ◌+◌, ◌<◌, ◌≤◌, Bool, true, false, cond, eqb, List, length, get_or, set, sym, refl, ap, ◌∙◌, inl, inr, arith, length-set, get_or-set_other}
use mathlib.Core.Path.{fun_ext}
use Rattle.std.proofs.lemmas.Bool.{eq-eqb}
use Rattle.base.specs.Stores.{Store, update, region}
use Rattle.base.proofs.Regions.{region_set, region_set_other}
use Rattle.controller.specs.World.{Project, forced_at, freed_at, force, free}
use Rattle.controller.specs.History.{react}
use Rattle.controller.specs.Memory.{device_in, live_in, state_in, marks}
use Rattle.controller.proofs.Reacts.{react_force, react_free}
use Rattle.controller.proofs.States.{state_is, device_same}

-- the marks of an updated region
mark_cond : (b c : Bool) (x y : ℕ) → eqb x 1 ≡ c → eqb (cond b x y) 1 ≡ cond b c (eqb y 1)
mark_cond true c x y e = e
mark_cond false c x y e = refl

mark_set : (r : Store) (i v : ℕ) (c : Bool) → eqb v 1 ≡ c → ◌≡◌ {A = ℕ → Bool} (marks (update r i v)) (λ j. cond (eqb j i) c (marks r j))
unfolding marks
mark_set r i v c e = fun_ext (λ j. mark_cond (eqb j i) c v (r j) e)

-- a memory whose cell for it holds 1 is on
pub is_on : (m : List ℕ) → get_or m 192 0 ≡ 1 → (live_in m).on ≡ true
unfolding live_in
is_on m on = eq-eqb _ _ on

module _ (p : Project) (m : List ℕ) (i : ℕ) (low : i < 64) (long : 194 ≤ length m) (on : get_or m 192 0 ≡ 1) where
  pub free_state : state_in (set m (64 + i) 0) ≡ react p (free i) (state_in m)
  unfolding live_in freed_at
  free_state =
      state_is (set m (64 + i) 0) (record { live = freed_at i (live_in m); device = device_in m })
      (eq-eqb _ _ (get_or-set_other m (64 + i) 192 0 0 (λ q. omega arith) ∙ on))
      (region_set_other m 0 64 (64 + i) 0 (inr (omega arith)))
      (ap (λ x. eqb x 1) (get_or-set_other m (64 + i) 193 0 0 (λ q. omega arith)))
      (device_same m (set m (64 + i) 0) (λ k h. get_or-set_other m (64 + i) k 0 0 (λ q. omega arith)))
      (ap marks (region_set m 64 64 i 0 (omega arith) (omega arith)) ∙ mark_set (region m 64 64) i 0 false refl)
      (region_set_other m 128 64 (64 + i) 0 (inl (omega arith)))
      ∙ sym (react_free p (state_in m) i (is_on m on))

  pub force_state : (v : ℕ) → state_in (set (set m (64 + i) 1) (128 + i) v) ≡ react p (force i v) (state_in m)
  unfolding live_in forced_at
  force_state v =
      let m₁ = set m (64 + i) 1 in
      let longer : 194 ≤ length m₁ = simp length-set long in
      let same : (k : ℕ) → (k ≡ 64 + i → ⊥) → (k ≡ 128 + i → ⊥) → get_or (set m₁ (128 + i) v) k 0 ≡ get_or m k 0 =
      (λ k a b. get_or-set_other m₁ (128 + i) k v 0 b ∙ get_or-set_other m (64 + i) k 1 0 a) in
      state_is (set m₁ (128 + i) v) (record { live = forced_at i v (live_in m); device = device_in m })
      (eq-eqb _ _ (same 192 (λ q. omega arith) (λ q. omega arith) ∙ on))
      (region_set_other m₁ 0 64 (128 + i) v (inr (omega arith)) ∙ region_set_other m 0 64 (64 + i) 1 (inr (omega arith)))
      (ap (λ x. eqb x 1) (same 193 (λ q. omega arith) (λ q. omega arith)))
      (device_same m (set m₁ (128 + i) v) (λ k h. same k (λ q. omega arith) (λ q. omega arith)))
      (ap marks (region_set_other m₁ 64 64 (128 + i) v (inr (omega arith)) ∙ region_set m 64 64 i 1 (omega arith) (omega arith)) ∙ mark_set (region m 64 64) i 1 true refl)
      (region_set m₁ 128 64 i v (omega arith) (omega arith) ∙ ap (λ r. update r i v) (region_set_other m 128 64 (64 + i) 1 (inl (omega arith))))
      ∙ sym (react_force p (state_in m) i v (is_on m on))
