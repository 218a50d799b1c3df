-- A forced point shows its number until it is freed or the power goes.
use Rattle.std.proofs.Common.{◌≡◌, ℕ, Bool, true, false, not, eqb, List, [], ◌∷◌, ◌++◌, sym, refl, ap, ◌∙◌, subst, arith}
use Rattle.std.proofs.lemmas.Bool.{cond-true, cond-false, eq-eqb}
use Rattle.controller.specs.World.{Project, Live, Event, start, scan, cut, force, free, input_image, output_image, outputs, scanned, forced_at, freed_at}
use Rattle.controller.specs.History.{State, react, after}
use Rattle.controller.specs.Promises.{Each, passes_by, Shows, ForceStays}
use Rattle.controller.proofs.Reacts.{react_scan, react_force, react_free}
use Rattle.controller.proofs.Rules.{after_more}

-- there is power, and point i is forced to v
record Held (i v : ℕ) (s : Live) : Type 0 where
  on : s.on ≡ true
  forced : s.forced i ≡ true
  force_is : s.force i ≡ v

not_true : (b : Bool) → not b ≡ true → b ≡ false
not_true true h = let z : ◌≡◌ {A = ℕ} 0 1 = cc in absurd (omega arith)
not_true false h = refl

module _ (i v : ℕ) (s : Live) (h : Held i v s) where
  by_scan : (p : Project) (f : ℕ → ℕ) (dt : ℕ) → Held i v (scanned p f dt s)
  unfolding scanned
  by_scan p f dt = record { on = refl; forced = h.forced; force_is = h.force_is }

  by_force : (j w : ℕ) → eqb i j ≡ false → Held i v (forced_at j w s)
  unfolding forced_at
  by_force j w e = record { on = refl; forced = cond-false _ _ _ e ∙ h.forced; force_is = cond-false _ _ _ e ∙ h.force_is }

  by_free : (j : ℕ) → eqb i j ≡ false → Held i v (freed_at j s)
  unfolding freed_at
  by_free j e = record { on = refl; forced = cond-false _ _ _ e ∙ h.forced; force_is = h.force_is }

module _ (p : Project) (i v : ℕ) (s : State) (h : Held i v s.live) where
  moved : (t : State) (l : Live) (d : ℕ → ℕ) → t ≡ record { live = l; device = d } → Held i v l → Held i v t.live
  moved t l d e x = subst (Held i v) (sym (ap (λ u. u.live) e)) x

  stays : (e : Event) → passes_by i e ≡ true → Held i v (react p e s).live
  stays start n = let z : ◌≡◌ {A = ℕ} 0 1 = cc in absurd (omega arith)
  stays (scan f dt) n = moved _ _ _ (react_scan p s f dt h.on) (by_scan i v s.live h p f dt)
  stays (cut f dt k junk) n = let z : ◌≡◌ {A = ℕ} 0 1 = cc in absurd (omega arith)
  stays (force j w) n = moved _ _ _ (react_force p s j w h.on) (by_force i v s.live h j w (not_true _ n))
  stays (free j) n = moved _ _ _ (react_free p s j h.on) (by_free i v s.live h j (not_true _ n))

-- a point that was just forced
begins : (i v : ℕ) (s : Live) → Held i v (forced_at i v s)
unfolding forced_at
begins i v s = record { on = refl; forced = cond-true _ _ _ (eq-eqb i i refl); force_is = cond-true _ _ _ (eq-eqb i i refl) }

held_on : (p : Project) (es : List Event) (i v : ℕ) → (after p es).live.on ≡ true → (gs : List Event) → Each (λ e. passes_by i e ≡ true) gs → Held i v (after p (gs ++ (force i v ∷ es))).live
held_on p es i v on [] all =
    subst (λ s. Held i v s.live) (sym (after_more p (force i v) es ∙ react_force p (after p es) i v on)) (begins i v (after p es).live)
held_on p es i v on (g ∷ gs) all =
    subst (λ s. Held i v s.live) (sym (after_more p g (gs ++ (force i v ∷ es)))) (stays p i v (after p (gs ++ (force i v ∷ es))) (held_on p es i v on gs all.1) g all.0)

shows : (p : Project) (i v : ℕ) (s : Live) → Held i v s → Shows p i v s
unfolding outputs output_image input_image
shows p i v s h = record { shown = cond-true _ _ _ h.forced ∙ h.force_is; seen = λ f. cond-true _ _ _ h.forced ∙ h.force_is }

pub force_stays : ForceStays
force_stays p es gs i v on all = shows p i v (after p (gs ++ (force i v ∷ es))).live (held_on p es i v on gs all)
