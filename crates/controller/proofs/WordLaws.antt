-- Words stay words, through every event and whatever is decided of it.
use Rattle.std.proofs.Common.{◌≡◌, ℕ, suc, ◌<◌, Bool, true, false, cond, eqb, ltb, leb, List, [], ◌∷◌, sym, refl, subst, ⊎_elim, arith}
use Rattle.std.proofs.lemmas.Bool.{cases_Bool}
use Rattle.base.specs.Stores.{Store}
use Rattle.retain.specs.Story.{cut_leaves}
use Rattle.controller.specs.World.{Project, Live, Event, start, scan, cut, force, free, input_image, output_image, executed, outputs, off, started, scanned, forced_at, freed_at}
use Rattle.controller.specs.Story.{Decision, Tale, as_made, tell, tale}
use Rattle.controller.specs.History.{after}
use Rattle.controller.specs.Decided.{decided}
use Rattle.controller.specs.Promises.{Each, Words, KeepsWords, BringsWords, WordsStay}
use Rattle.controller.proofs.Reacts.{tell_start, tell_scan, tell_cut, tell_force, tell_free, tell_off}
use Rattle.controller.proofs.Survival.{survives}

-- the values, and the numbers that points are forced to
record LiveWords (s : Live) : Type 0 where
  values : Words s.store
  forces : Words s.force

record TaleWords (t : Tale) : Type 0 where
  live : LiveWords t.live
  kept : Words t.kept

either : (b : Bool) (x y : ℕ) → x < 65536 → y < 65536 → cond b x y < 65536
either true x y h k = h
either false x y h k = k

leaves_words : (n k : ℕ) (new : Bool) (old next : Store) → Words old → Words next → Words (cut_leaves n k new old next)
unfolding cut_leaves
leaves_words n k new old next h g i = three (ltb (suc k) n) (leb n k) new
  where
    three : (a b c : Bool) → cond a old (cond b next (cond c next old)) i < 65536
    three true b c = h i
    three false true c = g i
    three false false true = g i
    three false false false = h i

off_words : LiveWords off
unfolding off
off_words = record { values = λ i. omega arith; forces = λ i. omega arith }

module _ (p : Project) (first : Words p.initial) (makes : KeepsWords p.program) where
  started_words : (u : Store) → Words u → LiveWords (started p u)
  unfolding started
  started_words u h = record { values = λ i. either (ltb i p.kept) _ _ (h i) (first i); forces = λ i. omega arith }

  put_words : (s : Live) → LiveWords s → (f : ℕ → ℕ) (dt : ℕ) → Words f → Words (executed p s f dt).store
  unfolding executed input_image
  put_words s h f dt g = makes dt _ (λ i. either (s.forced i) _ _ (h.forces i) (either (p.input i) _ _ (g i) (h.values i)))

  scanned_words : (s : Live) → LiveWords s → (f : ℕ → ℕ) (dt : ℕ) → Words f → LiveWords (scanned p f dt s)
  unfolding scanned
  scanned_words s h f dt g = record { values = put_words s h f dt g; forces = h.forces }

  forced_words : (s : Live) → LiveWords s → (i v : ℕ) → v < 65536 → LiveWords (forced_at i v s)
  unfolding forced_at
  forced_words s h i v l = record { values = h.values; forces = λ j. either (eqb j i) _ _ l (h.forces j) }

  freed_words : (s : Live) → LiveWords s → (i : ℕ) → LiveWords (freed_at i s)
  unfolding freed_at
  freed_words s h i = record { values = h.values; forces = h.forces }

  module _ (d : Decision) (t : Tale) (h : TaleWords t) where
    so : {t₁ t₂ : Tale} → t₁ ≡ t₂ → TaleWords t₂ → TaleWords t₁
    so e x = subst TaleWords (sym e) x

    powered : {A : Type 0} → (t.live.on ≡ true → A) → (t.live.on ≡ false → A) → A
    powered x y = ⊎_elim x y (cases_Bool t.live.on)

    told_words_lem : (e : Event) → BringsWords e → TaleWords (tell p e d t)
    told_words_lem start b = so (tell_start p d t) (record { live = started_words t.kept h.kept; kept = h.kept })
    told_words_lem (scan f dt) b = powered
        (λ on. so (tell_scan p d t f dt on) (record { live = scanned_words t.live h.live f dt b; kept = put_words t.live h.live f dt b }))
        (λ no. so (tell_off p d t (scan f dt) refl no) h)
    told_words_lem (cut f dt k junk) b = powered
        (λ on. so (tell_cut p d t f dt k junk on) (record { live = off_words; kept = leaves_words _ k _ _ _ h.kept (put_words t.live h.live f dt b) }))
        (λ no. so (tell_off p d t (cut f dt k junk) refl no) h)
    told_words_lem (force i v) b = powered
        (λ on. so (tell_force p d t i v on) (record { live = forced_words t.live h.live i v b; kept = h.kept }))
        (λ no. so (tell_off p d t (force i v) refl no) h)
    told_words_lem (free i) b = powered
        (λ on. so (tell_free p d t i on) (record { live = freed_words t.live h.live i; kept = h.kept }))
        (λ no. so (tell_off p d t (free i) refl no) h)

  tale_words : (es : List Event) → Each BringsWords es → TaleWords (tale p (decided p es))
  unfolding tale as_made decided
  tale_words [] b = record { live = off_words; kept = first }
  tale_words (e ∷ es) b = told_words_lem _ _ (tale_words es b.1) e b.0

shown_words : (s : Live) → LiveWords s → Words (outputs s)
unfolding outputs output_image
shown_words s h i = either (s.forced i) _ _ (h.forces i) (h.values i)

pub words_stay : WordsStay
words_stay p es first makes brings =
    let told = survives p es in
    let w = tale_words p first makes es brings in
    let live : LiveWords (after p es).live = subst LiveWords (sym told.lives) w.live in
    record {
      values = live.values;
      shown = shown_words (after p es).live live;
      kept = λ i l. subst (λ n. n < 65536) (sym (told.keeps i l)) (w.kept i);
    }
