-- The rules of kept values, and what a start finds.
use Rattle.std.proofs.Common.{◌≡◌, ℕ, ◌<◌, ◌≤◌, true, List, [], ◌∷◌, refl, ap, ◌∙◌, inl, inr}
use Rattle.std.proofs.lemmas.Bool.{cond-true, cond-false, lt-ltb, le-ltb, cases_Bool}
use Rattle.retain.specs.Device.{recovered, came_out}
use Rattle.retain.specs.Story.{cut_leaves}
use Rattle.retain.specs.History.{Same}
use Rattle.retain.proofs.Holds.{commit_keeps, cut_keeps}
use Rattle.retain.proofs.StoryLaws.{before_leaves, past_leaves, last_leaves}
use Rattle.controller.specs.World.{Project, Event, start, scan, cut, started}
use Rattle.controller.specs.Story.{as_made, tale}
use Rattle.controller.specs.History.{react, after}
use Rattle.controller.specs.Decided.{decided}
use Rattle.controller.specs.Promises.{found, put, writes_of, Ruled, FoundAtStart, StartFinds}
use Rattle.controller.proofs.Reacts.{react_start, react_scan, react_cut, react_off, react_device}
use Rattle.controller.proofs.Survival.{agrees, survives}

pub after_more : (p : Project) (e : Event) (es : List Event) → after p (e ∷ es) ≡ react p e (after p es)
unfolding after
after_more p e es = refl

module _ (p : Project) (es : List Event) (f : ℕ → ℕ) (dt : ℕ) (on : (after p es).live.on ≡ true) where
  saved_is : Same p.kept (found p (scan f dt ∷ es)) (put p es f dt)
  saved_is i l =
      ap (λ s. recovered p.kept s.device i) (after_more p (scan f dt) es ∙ react_scan p (after p es) f dt on)
      ∙ (commit_keeps p.kept (after p es).device (put p es f dt) (agrees p es).sound).1 i l

  cut_is : (k junk : ℕ) →
      Same p.kept (found p (cut f dt k junk ∷ es)) (cut_leaves (writes_of p es f dt) k (came_out p.kept (after p es).device junk) (found p es) (put p es f dt))
  cut_is k junk i l =
      ap (λ s. recovered p.kept s.device i) (after_more p (cut f dt k junk) es ∙ react_cut p (after p es) f dt k junk on)
      ∙ (cut_keeps p.kept (after p es).device (put p es f dt) k junk (agrees p es).sound).1 i l

made_is : (p : Project) → Same p.kept (found p []) p.initial
unfolding tale as_made decided
made_is p = (agrees p []).keeps

pub ruled : Ruled
ruled p = record {
  as_made = made_is p;
  saved = saved_is p;
  cut_before = λ es f dt k junk on h i l. cut_is p es f dt on k junk i l ∙ ap (λ u. u i) (before_leaves _ k _ _ _ h);
  cut_past = λ es f dt k junk on h i l. cut_is p es f dt on k junk i l ∙ ap (λ u. u i) (past_leaves _ k _ _ _ h);
  cut_last = λ es f dt k junk on h. elim (cases_Bool (came_out p.kept (after p es).device junk)) [
    | inl e ↦ inr (λ i l. cut_is p es f dt on k junk i l ∙ ap (λ u. u i) (last_leaves _ k _ (found p es) (put p es f dt) h ∙ cond-true _ _ _ e))
    | inr e ↦ inl (λ i l. cut_is p es f dt on k junk i l ∙ ap (λ u. u i) (last_leaves _ k _ (found p es) (put p es f dt) h ∙ cond-false _ _ _ e))
  ];
  left_alone = λ e es h. ap (λ s. s.device) (after_more p e es) ∙ react_device p (after p es) e h;
  powerless = λ e es n h. after_more p e es ∙ react_off p (after p es) e n h;
}

module _ (p : Project) (es : List Event) where
  start_is : (after p (start ∷ es)).live ≡ started p (found p es)
  start_is = ap (λ s. s.live) (after_more p start es ∙ react_start p (after p es))

  as_found : (i : ℕ) → i < p.kept → (after p (start ∷ es)).live.store i ≡ found p es i
  unfolding started
  as_found i l = ap (λ s. s.store i) start_is ∙ cond-true _ _ _ (lt-ltb i p.kept l)

  as_first : (i : ℕ) → p.kept ≤ i → (after p (start ∷ es)).live.store i ≡ p.initial i
  unfolding started
  as_first i l = ap (λ s. s.store i) start_is ∙ cond-false _ _ _ (le-ltb i p.kept l)

  found_at_start : FoundAtStart p es
  unfolding started
  found_at_start = record {
    on = ap (λ s. s.on) start_is;
    kept = as_found;
    told = λ i l. as_found i l ∙ (survives p es).keeps i l;
    others = as_first;
    free = λ i. ap (λ s. s.forced i) start_is;
    lamp = ap (λ s. s.lamp) start_is;
  }

pub start_finds : StartFinds
start_finds p es = found_at_start p es
