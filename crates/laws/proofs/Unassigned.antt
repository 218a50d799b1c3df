-- What is never assigned stays as it was.
use Rattle.std.proofs.Common.{◌≡◌, ℕ, zero, suc, ◌+◌, Bool, true, false, cond, eqb, refl, ◌∙◌, arith}
use Rattle.base.specs.Stores.{update}
use Rattle.base.proofs.StoreLaws.{update_other}
use Rattle.syntax.specs.Ast.{skip, assign, seq, branch, repeat, delay}
use Rattle.semantics.specs.Eval.{Values, eval, faults, noted, iterate, exec}
use Rattle.laws.specs.Language.{UnassignedStays}

iterate_stays : (n k : ℕ) (f : Values → Values) → ((r : Values) → (f r).store k ≡ r.store k) → (r : Values) → (iterate n f r).store k ≡ r.store k
unfolding iterate
iterate_stays zero k f h r = refl
iterate_stays (suc n) k f h r = iterate_stays n k f h (f r) ∙ h r

either_stays : (b : Bool) (k v : ℕ) (q r : Values) → q.store k ≡ v → r.store k ≡ v → (cond b q r).store k ≡ v
either_stays true k v q r h g = h
either_stays false k v q r h g = g

pub unassigned_stays_lem : UnassignedStays
unfolding exec
unassigned_stays_lem elapsed o i skip r h = refl
unassigned_stays_lem elapsed o i (assign j e) r h = update_other r.store (o + j) _ (o + i) (λ q. h (omega arith))
unassigned_stays_lem elapsed o i (seq s t) r h = unassigned_stays_lem elapsed o i t _ h.1 ∙ unassigned_stays_lem elapsed o i s r h.0
unassigned_stays_lem elapsed o i (branch e s t) r h =
    let r' = noted r (faults o r.store e) in
    either_stays (eqb (eval o r.store e) 0) (o + i) (r.store (o + i)) (exec elapsed o t r') (exec elapsed o s r') (unassigned_stays_lem elapsed o i t r' h.1) (unassigned_stays_lem elapsed o i s r' h.0)
unassigned_stays_lem elapsed o i (repeat n s) r h = iterate_stays n (o + i) (exec elapsed o s) (λ q. unassigned_stays_lem elapsed o i s q h) r
unassigned_stays_lem elapsed o i (delay out counter e preset) r h =
    update_other (update r.store (o + counter) _) (o + out) _ (o + i) (λ q. h.0 (omega arith)) ∙ update_other r.store (o + counter) _ (o + i) (λ q. h.1 (omega arith))
