-- What a memory stands for after a start.
use Rattle.std.proofs.Common.{◌≡◌, ℕ, ◌+◌, ◌-◌, ◌<◌, ◌≤◌, cond, eqb, ltb, List, length, get_or, take, drop, set, sym, refl, ap, ◌∙◌, ⊎_elim, zero-add, arith, length-set, get_or-set_other, get_or-set_same}
use Rattle.std.proofs.lemmas.List.{get_or_past}
use Rattle.std.proofs.lemmas.Bool.{eq-eqb, cond-true, cond-false, lt-ltb, le-ltb, cases_lt}
use Rattle.base.specs.Stores.{cells, Overwritten}
use Rattle.base.proofs.Regions.{region_is}
use Rattle.semantics.specs.Eval.{Program}
use Rattle.retain.specs.Device.{recovered}
use Rattle.retain.specs.Entry.{Recovered}
use Rattle.controller.specs.World.{started, start}
use Rattle.controller.specs.History.{react}
use Rattle.controller.specs.Memory.{device_in, state_in, marks, project}
use Rattle.controller.specs.Entries.{Started}
use Rattle.controller.proofs.Reacts.{react_start}
use Rattle.controller.proofs.States.{state_is, device_same, follows}
use Rattle.controller.proofs.Parts.{device_rest}
use Rattle.controller.proofs.Factory.{no_marks}

module _ (kept : ℕ) (firsts m values values₁ m₁ m₂ : List ℕ) (low : kept ≤ 64) (initials : length firsts ≡ 64) (long : 194 ≤ length m) (size : length m₂ ≡ length m)
    (first : cells values ≡ cells firsts) (found : Recovered kept (take (length m - 194) (drop 194 m)) values values₁)
    (loaded : Overwritten 0 64 (cells values₁) m m₁) (cleared : Overwritten 64 192 (λ k. 0) m₁ m₂) where
  abbrev last : List ℕ
  last = set (set m₂ 192 1) 193 0

  else_where : (k : ℕ) → (k ≡ 192 → ⊥) → (k ≡ 193 → ⊥) → get_or last k 0 ≡ get_or m₂ k 0
  else_where k a b = get_or-set_other (set m₂ 192 1) 193 k 0 0 b ∙ get_or-set_other m₂ 192 k 1 0 a

  is_free : (k : ℕ) → 64 ≤ k → k < 192 → get_or last k 0 ≡ 0
  is_free k a b = else_where k (λ q. omega arith) (λ q. omega arith) ∙ cleared.inside k a b

  is_on : get_or last 192 0 ≡ 1
  is_on = get_or-set_other (set m₂ 192 1) 193 192 0 0 (λ q. omega arith) ∙ get_or-set_same m₂ 192 1 0 (omega arith)

  is_out : get_or last 193 0 ≡ 0
  is_out = get_or-set_same (set m₂ 192 1) 193 0 0 (simp length-set (omega arith))

  as_found : (i : ℕ) → i < kept → get_or values₁ i 0 ≡ recovered kept (device_in m) i
  as_found i h = found.inside i h ∙ ap (λ d. recovered kept d i) (device_rest m)

  as_first : (i : ℕ) → kept ≤ i → get_or values₁ i 0 ≡ get_or firsts i 0
  as_first i h = found.past i h ∙ ap (λ s. s i) first

  var : (i : ℕ) → i < 64 → get_or last i 0 ≡ get_or values₁ i 0
  var i h = else_where i (λ q. omega arith) (λ q. omega arith) ∙ cleared.below i h ∙ loaded.inside i (omega arith) h

  -- a kept variable is what was recovered, another its initial value
  value : (i : ℕ) → get_or values₁ i 0 ≡ cond (ltb i kept) (recovered kept (device_in m) i) (get_or firsts i 0)
  value i = ⊎_elim
      (λ (h : i < kept). as_found i h ∙ sym (cond-true _ _ _ (lt-ltb i kept h)))
      (λ (h : kept ≤ i). as_first i h ∙ sym (cond-false _ _ _ (le-ltb i kept h)))
      (cases_lt i kept)

  device_is : device_in last ≡ device_in m
  device_is = device_same m last (λ k h. else_where k (λ q. omega arith) (λ q. omega arith) ∙ cleared.above k (omega arith) ∙ loaded.above k (omega arith))

  start_state : (inputs : List ℕ) (q : Program) → state_in last ≡ react (project kept inputs firsts q) start (state_in m)
  unfolding started
  start_state inputs q =
      state_is last (record { live = started (project kept inputs firsts q) (recovered kept (device_in m)); device = device_in m })
      (eq-eqb _ _ is_on)
      (region_is last 0 64 (λ i. cond (ltb i kept) (recovered kept (device_in m) i) (get_or firsts i 0))
      (λ i h. ap (λ x. get_or last x 0) (zero-add i) ∙ var i h ∙ value i)
      (λ i h. cond-false _ _ _ (le-ltb i kept (omega arith)) ∙ get_or_past firsts i 0 (omega arith)))
      (ap (λ x. eqb x 1) is_out)
      device_is
      (ap marks (region_is last 64 64 (λ i. 0) (λ i h. is_free (64 + i) (omega arith) (omega arith)) (λ i h. refl)) ∙ no_marks)
      (region_is last 128 64 (λ i. 0) (λ i h. is_free (128 + i) (omega arith) (omega arith)) (λ i h. refl))
      ∙ sym (react_start (project kept inputs firsts q) (state_in m))

  pub start_done : Started kept firsts m last
  start_done = record {
    follows = λ inputs q. follows _ start m last (start_state inputs q);
    found = λ i h. var i (omega arith) ∙ as_found i h;
    first = λ i l h. var i h ∙ as_first i l;
    free = is_free;
    on = is_on;
    lamp = is_out;
    device = device_is;
  }
