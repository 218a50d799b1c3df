-- A line that is taken, and one that is refused, make the scene that the story tells.
use Rattle.std.proofs.Common.{◌≡◌, ℕ, List, [], ◌∷◌, Some, None, Option, sym, refl, ap, ◌∙◌, subst, ap₂}
use Rattle.base.specs.Stores.{cells}
use Rattle.controller.specs.World.{Project, Event}
use Rattle.controller.specs.Story.{tell, tale}
use Rattle.controller.specs.History.{after}
use Rattle.controller.specs.Decided.{decide, decided}
use Rattle.controller.specs.Memory.{live_in, state_in, StandsFor}
use Rattle.controller.proofs.Survival.{survives}
use Rattle.scripts.specs.Script.{Request}
use Rattle.reports.specs.Reports.{Said, refused}
use Rattle.project.specs.Play.{Scene, line_refusal, by_refusal, said_inputs, event_of, showing, telling, act, report, taken}
use Rattle.project.specs.Running.{scene_of, decision_of, Went}

same_scene : (s t : Scene) → s.tale ≡ t.tale → s.outside ≡ t.outside → s.shown ≡ t.shown → s ≡ t
same_scene s t a b c = λ i. record { tale = a i; outside = b i; shown = c i }

-- what a memory holds is what the history left, and what the tale says
pub after_live : (p : Project) (es : List Event) (m : List ℕ) → StandsFor p m es → (after p es).live ≡ live_in m
after_live p es m h = sym (ap (λ s. s.live) h)

pub tale_live : (p : Project) (es : List Event) (m : List ℕ) → StandsFor p m es → (tale p (decided p es)).live ≡ live_in m
tale_live p es m h = sym (survives p es).lives ∙ after_live p es m h

tale_more : (p : Project) (e : Event) (es : List Event) → tale p (decided p (e ∷ es)) ≡ tell p e (decide p e (after p es)) (tale p (decided p es))
unfolding tale decided
tale_more p e es = refl

module _ (p : Project) (es : List Event) (r : Request) (o sh m : List ℕ) (h : StandsFor p m es) (m₁ o₁ sh₁ : List ℕ) (noted : cells o₁ ≡ said_inputs (cells o) r) where
  module _ (why : Option (ℕ × ℕ)) (because : line_refusal (live_in m) r ≡ why) where
    at_tale : line_refusal (tale p (decided p es)).live r ≡ why
    at_tale = ap (λ l. line_refusal l r) (tale_live p es m h) ∙ because

    taken_is : taken p es (cells o) r ≡ by_refusal why (λ _ _. es) (event_of (cells o) r ∷ es)
    unfolding taken
    taken_is = ap (λ x. by_refusal x (λ _ _. es) (event_of (cells o) r ∷ es)) (ap (λ l. line_refusal l r) (after_live p es m h) ∙ because)

    report_is : report p r (decision_of p es o r) (scene_of p es o sh) ≡ by_refusal why (λ number place. refused number place ∷ [])
        (telling p r (tale p (decided p es)).live (tell p (event_of (cells o) r) (decision_of p es o r) (tale p (decided p es))).live (cells sh))
    unfolding report
    report_is =
        ap (λ x. by_refusal x (λ number place. refused number place ∷ [])
        (telling p r (tale p (decided p es)).live (tell p (event_of (cells o) r) (decision_of p es o r) (tale p (decided p es))).live (cells sh))) at_tale

    act_tale : (act p r (decision_of p es o r) (scene_of p es o sh)).tale ≡ by_refusal why (λ _ _. tale p (decided p es)) (tell p (event_of (cells o) r) (decision_of p es o r) (tale p (decided p es)))
    unfolding act
    act_tale = ap (λ x. by_refusal x (λ _ _. tale p (decided p es)) (tell p (event_of (cells o) r) (decision_of p es o r) (tale p (decided p es)))) at_tale

    act_outside : (act p r (decision_of p es o r) (scene_of p es o sh)).outside ≡ cells o₁
    unfolding act
    act_outside = sym noted

    act_shown : (act p r (decision_of p es o r) (scene_of p es o sh)).shown ≡ by_refusal why (λ _ _. cells sh) (showing r (tell p (event_of (cells o) r) (decision_of p es o r) (tale p (decided p es))).live (cells sh))
    unfolding act
    act_shown = ap (λ x. by_refusal x (λ _ _. cells sh) (showing r (tell p (event_of (cells o) r) (decision_of p es o r) (tale p (decided p es))).live (cells sh))) at_tale

  pub line_taken : line_refusal (live_in m) r ≡ None → StandsFor p m₁ (event_of (cells o) r ∷ es) → cells sh₁ ≡ showing r (live_in m₁) (cells sh) →
      (told : List Said) → told ≡ telling p r (live_in m) (live_in m₁) (cells sh) → Went p es r o sh m₁ o₁ sh₁ told
  line_taken because h₁ shows told tells =
      let e = event_of (cells o) r in
      let new : (tell p e (decision_of p es o r) (tale p (decided p es))).live ≡ live_in m₁ = ap (λ t. t.live) (sym (tale_more p e es)) ∙ tale_live p (e ∷ es) m₁ h₁ in
      record {
        says = tells ∙ ap₂ (λ a b. telling p r a b (cells sh)) (sym (tale_live p es m h)) (sym new) ∙ sym (report_is None because);
        stands = subst (StandsFor p m₁) (sym (taken_is None because)) h₁;
        scene = same_scene _ _
            (act_tale None because ∙ sym (tale_more p e es) ∙ ap (λ x. tale p (decided p x)) (sym (taken_is None because)))
            (act_outside None because)
            (act_shown None because ∙ ap (λ l. showing r l (cells sh)) new ∙ sym shows);
      }

  pub line_refused : (n k : ℕ) → line_refusal (live_in m) r ≡ Some (n, k) → m₁ ≡ m → sh₁ ≡ sh → (told : List Said) → told ≡ refused n k ∷ [] → Went p es r o sh m₁ o₁ sh₁ told
  line_refused n k because same still told tells =
      record {
        says = tells ∙ sym (report_is (Some (n, k)) because);
        stands = subst (StandsFor p m₁) (sym (taken_is (Some (n, k)) because)) (ap state_in same ∙ h);
        scene = same_scene _ _
            (act_tale (Some (n, k)) because ∙ ap (λ x. tale p (decided p x)) (sym (taken_is (Some (n, k)) because)))
            (act_outside (Some (n, k)) because)
            (act_shown (Some (n, k)) because ∙ ap cells (sym still));
      }
