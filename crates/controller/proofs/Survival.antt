-- After every history the controller is as the tale says.
use Rattle.std.proofs.Common.{◌≡◌, ℕ, suc, ◌<◌, Bool, true, false, cond, ltb, leb, List, [], ◌∷◌, sym, refl, ap, ◌∙◌, subst, ⊎_elim}
use mathlib.Core.Path.{fun_ext}
use Rattle.std.proofs.lemmas.Bool.{cases_Bool, ltb-true}
use Rattle.base.specs.Stores.{Store}
use Rattle.retain.specs.Device.{recovered, write_count, came_out, Sound}
use Rattle.retain.specs.Story.{cut_leaves}
use Rattle.retain.proofs.Holds.{factory_sound, commit_keeps, cut_keeps}
use Rattle.controller.specs.World.{Project, Event, start, scan, cut, force, free, needs_power, executed, started, scanned, forced_at, freed_at}
use Rattle.controller.specs.Story.{Decision, Tale, as_made, tell, tale}
use Rattle.controller.specs.History.{State, save, react, factory, after}
use Rattle.controller.specs.Decided.{decide, decided}
use Rattle.controller.specs.Promises.{Survives}
use Rattle.controller.proofs.Reacts.{react_start, react_scan, react_cut, react_force, react_free, react_off, decide_cut, tell_start, tell_scan, tell_cut, tell_force, tell_free, tell_off}

-- a state is as a tale says, and its device is sound
pub record Agree (p : Project) (s : State) (t : Tale) : Type 0 where
  pub lives : s.live ≡ t.live
  pub keeps : (i : ℕ) → i < p.kept → recovered p.kept s.device i ≡ t.kept i
  pub sound : Sound p.kept s.device

-- a start finds what is kept
same_found : (b : Bool) (x y z : ℕ) → (b ≡ true → x ≡ y) → cond b x z ≡ cond b y z
same_found true x y z h = h refl
same_found false x y z h = refl

same_start : (p : Project) (f g : Store) → ((i : ℕ) → i < p.kept → f i ≡ g i) → started p f ≡ started p g
unfolding started
same_start p f g h = λ j. record {
  on = true;
  store = fun_ext (λ i. same_found (ltb i p.kept) (f i) (g i) (p.initial i) (λ e. h i (ltb-true i p.kept e))) j;
  lamp = false;
  forced = λ i. false;
  force = λ i. 0;
}

-- a cut leaves the same of values that are the same
cond_same : (a b c : Bool) (old old₁ next : Store) (i : ℕ) → old i ≡ old₁ i → cond a old (cond b next (cond c next old)) i ≡ cond a old₁ (cond b next (cond c next old₁)) i
cond_same true b c old old₁ next i e = e
cond_same false true c old old₁ next i e = refl
cond_same false false true old old₁ next i e = refl
cond_same false false false old old₁ next i e = e

leaves_same : (n k : ℕ) (new : Bool) (old old₁ next : Store) (i : ℕ) → old i ≡ old₁ i → cut_leaves n k new old next i ≡ cut_leaves n k new old₁ next i
unfolding cut_leaves
leaves_same n k new = cond_same (ltb (suc k) n) (leb n k) new

module _ (p : Project) (s : State) (t : Tale) (a : Agree p s t) where
  -- both have power, or none
  same_on : (b : Bool) → s.live.on ≡ b → t.live.on ≡ b
  same_on b h = sym (ap (λ l. l.on) a.lives) ∙ h

  -- what the tale says that the program makes is what it makes
  same_run : (f : ℕ → ℕ) (dt : ℕ) → (executed p s.live f dt).store ≡ (executed p t.live f dt).store
  same_run f dt = ap (λ l. (executed p l f dt).store) a.lives

  pair : {s₁ s₂ : State} {t₁ t₂ : Tale} → s₁ ≡ s₂ → t₁ ≡ t₂ → Agree p s₂ t₂ → Agree p s₁ t₁
  pair {t₁ = t₁} e g x = subst (λ v. Agree p v t₁) (sym e) (subst (Agree p _) (sym g) x)

  start_agrees : (d : Decision) → Agree p (react p start s) (tell p start d t)
  start_agrees d = pair (react_start p s) (tell_start p d t) (record { lives = same_start p _ _ a.keeps; keeps = a.keeps; sound = a.sound })

  idle : (e : Event) (d : Decision) → needs_power e ≡ true → s.live.on ≡ false → Agree p (react p e s) (tell p e d t)
  idle e d n h = pair (react_off p s e n h) (tell_off p d t e n (same_on false h)) a

  force_agrees : (i v : ℕ) (d : Decision) → s.live.on ≡ true → Agree p (react p (force i v) s) (tell p (force i v) d t)
  force_agrees i v d h = pair (react_force p s i v h) (tell_force p d t i v (same_on true h)) (record { lives = ap (forced_at i v) a.lives; keeps = a.keeps; sound = a.sound })

  free_agrees : (i : ℕ) (d : Decision) → s.live.on ≡ true → Agree p (react p (free i) s) (tell p (free i) d t)
  free_agrees i d h = pair (react_free p s i h) (tell_free p d t i (same_on true h)) (record { lives = ap (freed_at i) a.lives; keeps = a.keeps; sound = a.sound })

  scan_agrees : (f : ℕ → ℕ) (dt : ℕ) (d : Decision) → s.live.on ≡ true → Agree p (react p (scan f dt) s) (tell p (scan f dt) d t)
  scan_agrees f dt d h =
      let done = commit_keeps p.kept s.device (executed p s.live f dt).store a.sound in
      pair (react_scan p s f dt h) (tell_scan p d t f dt (same_on true h))
      (record { lives = ap (scanned p f dt) a.lives; keeps = λ i l. done.1 i l ∙ ap (λ v. v i) (same_run f dt); sound = done.0 })

  cut_agrees : (f : ℕ → ℕ) (dt k junk : ℕ) → s.live.on ≡ true → Agree p (react p (cut f dt k junk) s) (tell p (cut f dt k junk) (decide p (cut f dt k junk) s) t)
  cut_agrees f dt k junk h =
      let done = cut_keeps p.kept s.device (executed p s.live f dt).store k junk a.sound in
      let d : Decision = record { writes = write_count s.device (save p s f dt); new = came_out p.kept s.device junk } in
      pair (react_cut p s f dt k junk h) (ap (λ x. tell p (cut f dt k junk) x t) (decide_cut p s f dt k junk) ∙ tell_cut p d t f dt k junk (same_on true h))
      (record {
        lives = refl;
        keeps = λ i l. done.1 i l ∙ leaves_same d.writes k d.new (recovered p.kept s.device) t.kept (executed p s.live f dt).store i (a.keeps i l)
            ∙ ap (λ v. cut_leaves d.writes k d.new t.kept v i) (same_run f dt);
        sound = done.0;
      })

  powered : {A : Type 0} → (s.live.on ≡ true → A) → (s.live.on ≡ false → A) → A
  powered x y = ⊎_elim x y (cases_Bool s.live.on)

  -- ONE STEP: what an event does, and what the story tells of it
  pub step_agrees : (e : Event) → Agree p (react p e s) (tell p e (decide p e s) t)
  step_agrees start = start_agrees _
  step_agrees (scan f dt) = powered (scan_agrees f dt _) (idle (scan f dt) _ refl)
  step_agrees (cut f dt k junk) = powered (cut_agrees f dt k junk) (idle (cut f dt k junk) _ refl)
  step_agrees (force i v) = powered (force_agrees i v _) (idle (force i v) _ refl)
  step_agrees (free i) = powered (free_agrees i _) (idle (free i) _ refl)

pub agrees : (p : Project) (es : List Event) → Agree p (after p es) (tale p (decided p es))
unfolding after factory tale as_made decided
agrees p [] = let made = factory_sound p.kept p.initial in record { lives = refl; keeps = made.1; sound = made.0 }
agrees p (e ∷ es) = step_agrees p (after p es) (tale p (decided p es)) (agrees p es) e

pub survives : Survives
survives p es = let a = agrees p es in record { lives = a.lives; keeps = a.keeps }
