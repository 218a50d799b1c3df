-- The first fault stays, and stops nothing. Assumes nothing.
use Rattle.std.proofs.Common.{◌≡◌, ℕ, zero, suc, ◌<◌, Bool, true, false, cond, eqb, refl, ap, ◌∙◌}
use mathlib.Core.Path.{fun_ext}
use Rattle.syntax.specs.Ast.{Stmt, skip, assign, seq, branch, repeat, delay}
use Rattle.base.specs.Stores.{Store}
use Rattle.semantics.specs.Eval.{eval, faults, Values, noted, iterate, exec}
use Rattle.semantics.specs.Laws.{FirstStays, GoesOn}
use Rattle.semantics.proofs.Faults.{first_stays}

-- f leaves a fault as it is
abbrev Stays : (Values → Values) → Type 0
Stays f = (r : Values) → 0 < r.fault → (f r).fault ≡ r.fault

stays_then : (f g : Values → Values) → Stays f → Stays g → Stays (λ r. g (f r))
stays_then f g x y r l = y (f r) (rw (x r l) l) ∙ x r l

stays_noted : (e : Store → ℕ) → Stays (λ r. noted r (e r.store))
stays_noted e r l = first_stays r.fault (e r.store) l

stays_choice : (z : Values → Bool) (f g : Values → Values) → Stays f → Stays g → Stays (λ r. cond (z r) (f r) (g r))
stays_choice z f g x y r l = way (z r)
  where
    way : (b : Bool) → (cond b (f r) (g r)).fault ≡ r.fault
    way true = x r l
    way false = y r l

stays_iterate : (n : ℕ) (f : Values → Values) → Stays f → Stays (iterate n f)
unfolding iterate
stays_iterate zero f x r l = refl
stays_iterate (suc n) f x r l = stays_then f (iterate n f) x (stays_iterate n f x) r l

exec_stays : (elapsed o : ℕ) → (s : Stmt) → Stays (exec elapsed o s)
unfolding exec
exec_stays elapsed o skip r l = refl
exec_stays elapsed o (assign i e) r l = first_stays r.fault _ l
exec_stays elapsed o (seq s t) r l = stays_then (exec elapsed o s) (exec elapsed o t) (exec_stays elapsed o s) (exec_stays elapsed o t) r l
exec_stays elapsed o (branch e s t) r l =
    stays_choice (λ q. eqb (eval o q.store e) 0) (λ q. exec elapsed o t (noted q (faults o q.store e))) (λ q. exec elapsed o s (noted q (faults o q.store e)))
    (stays_then _ (exec elapsed o t) (stays_noted (λ st. faults o st e)) (exec_stays elapsed o t))
    (stays_then _ (exec elapsed o s) (stays_noted (λ st. faults o st e)) (exec_stays elapsed o s)) r l
exec_stays elapsed o (repeat n s) r l = stays_iterate n _ (exec_stays elapsed o s) r l
exec_stays elapsed o (delay out counter e preset) r l = first_stays r.fault _ l

pub first_fault_stays : FirstStays
first_fault_stays = exec_stays

-- f does the same to equal stores, whatever the faults
abbrev Blind : (Values → Values) → Type 0
Blind f = (q r : Values) → q.store ≡ r.store → (f q).store ≡ (f r).store

blind_noted : (e : Store → ℕ) → Blind (λ r. noted r (e r.store))
blind_noted e q r p = p

blind_then : (f g : Values → Values) → Blind f → Blind g → Blind (λ r. g (f r))
blind_then f g x y q r p = y (f q) (f r) (x q r p)

blind_choice : (z : Store → Bool) (f g : Values → Values) → Blind f → Blind g → Blind (λ r. cond (z r.store) (f r) (g r))
blind_choice z f g x y q r p = rw (ap z p) (way (z r.store))
  where
    way : (b : Bool) → (cond b (f q) (g q)).store ≡ (cond b (f r) (g r)).store
    way true = x q r p
    way false = y q r p

blind_iterate : (n : ℕ) (f : Values → Values) → Blind f → Blind (iterate n f)
unfolding iterate
blind_iterate zero f x q r p = p
blind_iterate (suc n) f x q r p = blind_iterate n f x (f q) (f r) (x q r p)

exec_blind : (elapsed o : ℕ) → (s : Stmt) → Blind (exec elapsed o s)
unfolding exec
exec_blind elapsed o skip q r p = p
exec_blind elapsed o (assign i e) q r p = rw p
exec_blind elapsed o (seq s t) q r p = exec_blind elapsed o t _ _ (exec_blind elapsed o s q r p)
exec_blind elapsed o (branch e s t) q r p =
    blind_choice (λ st. eqb (eval o st e) 0) (λ x. exec elapsed o t (noted x (faults o x.store e))) (λ x. exec elapsed o s (noted x (faults o x.store e)))
    (blind_then _ (exec elapsed o t) (blind_noted (λ st. faults o st e)) (exec_blind elapsed o t))
    (blind_then _ (exec elapsed o s) (blind_noted (λ st. faults o st e)) (exec_blind elapsed o s)) q r p
exec_blind elapsed o (repeat n s) q r p = blind_iterate n _ (exec_blind elapsed o s) q r p
exec_blind elapsed o (delay out counter e preset) q r p = rw p

pub goes_on : GoesOn
goes_on elapsed o s q r e i = ap (λ st. st i) (exec_blind elapsed o s q r (fun_ext e))
