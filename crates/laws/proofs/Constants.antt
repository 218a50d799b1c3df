-- What is never assigned, does not come from outside and is never forced is as at first.
use Rattle.std.proofs.Common.{◌≡◌, ℕ, suc, Bool, true, false, cond, eqb, ltb, leb, List, [], ◌∷◌, sym, refl, ap, ◌∙◌, subst, zero-add}
use Rattle.std.proofs.lemmas.Bool.{both_ways, ne_eqb}
use Rattle.base.specs.Stores.{Store}
use Rattle.retain.specs.Story.{cut_leaves}
use Rattle.semantics.specs.Eval.{Values}
use Rattle.controller.specs.World.{Project, Live, Event, start, scan, cut, force, free, input_image, given, executed, output_image, outputs, off, started, scanned, forced_at, freed_at}
use Rattle.controller.specs.Story.{Decision, Tale, as_made, tell, tale}
use Rattle.controller.specs.History.{after}
use Rattle.controller.specs.Decided.{decided}
use Rattle.controller.specs.Promises.{Each}
use Rattle.controller.proofs.Survival.{survives}
use Rattle.project.specs.Loading.{project_of}
use Rattle.laws.specs.Histories.{Unforced, AsFirst, Constants}
use Rattle.laws.proofs.Unassigned.{unassigned_stays_lem}

either : {A : Type 0} (b : Bool) (x y z : A) → x ≡ z → y ≡ z → cond b x y ≡ z
either true x y z h g = h
either false x y z h g = g

module _ (p : Project) (i : ℕ) (leaves : (elapsed : ℕ) (r : Values) → (p.program elapsed r).store i ≡ r.store i) (inside : p.input i ≡ false) where
  record Steady (t : Tale) : Type 0 where
    value : t.live.on ≡ true → t.live.store i ≡ p.initial i
    unforced : t.live.forced i ≡ false
    kept : t.kept i ≡ p.initial i

  by_power : (b : Bool) (x y : Tale) → (b ≡ true → Steady x) → Steady y → Steady (cond b x y)
  by_power true x y h g = h refl
  by_power false x y h g = g

  module _ (t : Tale) (h : Steady t) where
    put : (f : ℕ → ℕ) (elapsed : ℕ) → t.live.on ≡ true → (executed p t.live f elapsed).store i ≡ p.initial i
    unfolding executed input_image
    put f elapsed on = leaves elapsed (given p.input t.live f) ∙ rw (h.unforced, inside) (h.value on)

    left : (n k : ℕ) (new : Bool) (next : Store) → next i ≡ p.initial i → cut_leaves n k new t.kept next i ≡ p.initial i
    unfolding cut_leaves
    left n k new next e = three (ltb (suc k) n) (leb n k) new
      where
        three : (a b c : Bool) → cond a t.kept (cond b next (cond c next t.kept)) i ≡ p.initial i
        three true b c = h.kept
        three false true c = e
        three false false true = e
        three false false false = h.kept

    told_steady : (e : Event) (d : Decision) → Unforced i e → Steady (tell p e d t)
    unfolding tell started scanned forced_at freed_at off
    told_steady start d u = record { value = λ on. either (ltb i p.kept) _ _ _ h.kept refl; unforced = refl; kept = h.kept }
    told_steady (scan f elapsed) d u =
        by_power t.live.on _ t (λ on. record { value = λ _. put f elapsed on; unforced = h.unforced; kept = put f elapsed on }) h
    told_steady (cut f elapsed k junk) d u =
        by_power t.live.on _ t (λ on. record { value = λ q. absurd (both_ways false refl q); unforced = refl; kept = left d.writes k d.new _ (put f elapsed on) }) h
    told_steady (force j v) d u =
        by_power t.live.on _ t (λ on. record { value = λ _. h.value on; unforced = rw (ne_eqb i j u) h.unforced; kept = h.kept }) h
    told_steady (free j) d u =
        by_power t.live.on _ t (λ on. record { value = λ _. h.value on; unforced = either (eqb i j) false _ false refl h.unforced; kept = h.kept }) h

  tale_steady : (es : List Event) → Each (Unforced i) es → Steady (tale p (decided p es))
  unfolding tale decided as_made off
  tale_steady [] u = record { value = λ q. absurd (both_ways false refl q); unforced = refl; kept = refl }
  tale_steady (e ∷ es) u = told_steady (tale p (decided p es)) (tale_steady es u.1) e _ u.0

  as_first : (es : List Event) → Each (Unforced i) es → AsFirst p es i
  unfolding outputs output_image
  as_first es u =
      let told = survives p es in
      let w = tale_steady es u in
      let on = λ (q : (after p es).live.on ≡ true). ap (λ (l : Live). l.on) (sym told.lives) ∙ q in
      let value = λ (q : (after p es).live.on ≡ true). ap (λ (l : Live). l.store i) told.lives ∙ w.value (on q) in
      let unforced : (after p es).live.forced i ≡ false = ap (λ (l : Live). l.forced i) told.lives ∙ w.unforced in
      record { value = value; shown = λ q. rw unforced (value q); kept = λ l. told.keeps i l ∙ w.kept }

pub constants : Constants
constants h s i es u inside unforced =
    as_first (project_of h s) i
    (λ elapsed r. subst (λ (k : ℕ). ((project_of h s).program elapsed r).store k ≡ r.store k) (zero-add i) (unassigned_stays_lem elapsed 0 i s r u)) inside es unforced
