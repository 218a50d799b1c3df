-- What no expression names and no delay counts in makes no difference to the others.
use Rattle.std.proofs.Common.{◌≡◌, ℕ, zero, suc, ◌+◌, Bool, true, false, cond, ◌&&◌, eqb, leb, refl, ap, ap₂, arith}
use Rattle.base.specs.Stores.{Store, update}
use Rattle.base.specs.Words.{bit, truthy, apply_op, op_fault, first_of}
use Rattle.syntax.specs.Ast.{Expr, lit, var, invert, binary, skip, assign, seq, branch, repeat, delay}
use Rattle.semantics.specs.Eval.{eval, faults, Values, noted, iterate, exec}
use Rattle.base.specs.Delays.{counted}
use Rattle.laws.specs.Language.{Unnamed, AgreeBut, AlikeBut, UnreadIsNothing}

module _ (o i : ℕ) (s t : Store) (same : AgreeBut (o + i) s t) where
  eval_same : (e : Expr) → Unnamed i e → eval o s e ≡ eval o t e
  unfolding eval
  eval_same (lit n) h = refl
  eval_same (var j) h = same (o + j) (λ q. h (omega arith))
  eval_same (invert e) h = ap (λ x. bit (eqb x 0)) (eval_same e h)
  eval_same (binary op a b) h = ap₂ (apply_op op) (eval_same a h.0) (eval_same b h.1)

  faults_same : (e : Expr) → Unnamed i e → faults o s e ≡ faults o t e
  unfolding faults
  faults_same (lit n) h = refl
  faults_same (var j) h = refl
  faults_same (invert e) h = faults_same e h
  faults_same (binary op a b) h =
      let x = faults_same a h.0 in let y = faults_same b h.1 in let z = eval_same b h.1 in
      λ k. first_of (x k) (first_of (y k) (op_fault op (z k)))

noted_alike : (k : ℕ) (q r : Values) (f g : ℕ) → AlikeBut k q r → f ≡ g → AlikeBut k (noted q f) (noted r g)
noted_alike k q r f g h e = record { stores = h.stores; faults = ap₂ first_of h.faults e }

either_alike : (k : ℕ) (b c : Bool) (q r q' r' : Values) → b ≡ c → AlikeBut k q r → AlikeBut k q' r' → AlikeBut k (cond b q q') (cond c r r')
either_alike k b c q r q' r' e h g = rw e (way c)
  where
    way : (b : Bool) → AlikeBut k (cond b q q') (cond b r r')
    way true = h
    way false = g

iterate_alike : (n k : ℕ) (f : Values → Values) → ((q r : Values) → AlikeBut k q r → AlikeBut k (f q) (f r)) → (q r : Values) → AlikeBut k q r → AlikeBut k (iterate n f q) (iterate n f r)
unfolding iterate
iterate_alike zero k f h q r a = a
iterate_alike (suc n) k f h q r a = iterate_alike n k f h (f q) (f r) (h q r a)

pub unread_is_nothing_lem : UnreadIsNothing
unfolding exec
unread_is_nothing_lem elapsed o i skip q r h a = a
unread_is_nothing_lem elapsed o i (assign j e) q r h a =
    let v = eval_same o i q.store r.store a.stores e h in
    record {
      stores = λ k n. ap₂ (cond (eqb k (o + j))) v (a.stores k n);
      faults = ap₂ first_of a.faults (faults_same o i q.store r.store a.stores e h);
    }
unread_is_nothing_lem elapsed o i (seq s t) q r h a = unread_is_nothing_lem elapsed o i t _ _ h.1 (unread_is_nothing_lem elapsed o i s q r h.0 a)
unread_is_nothing_lem elapsed o i (branch e s t) q r h a =
    let n = noted_alike (o + i) q r _ _ a (faults_same o i q.store r.store a.stores e h.0) in
    either_alike (o + i) _ _ _ _ _ _ (ap (λ x. eqb x 0) (eval_same o i q.store r.store a.stores e h.0))
    (unread_is_nothing_lem elapsed o i t _ _ h.2 n) (unread_is_nothing_lem elapsed o i s _ _ h.1 n)
unread_is_nothing_lem elapsed o i (repeat n s) q r h a = iterate_alike n (o + i) (exec elapsed o s) (λ x y. unread_is_nothing_lem elapsed o i s x y h) q r a
unread_is_nothing_lem elapsed o i (delay out counter e preset) q r h a =
    let v = eval_same o i q.store r.store a.stores e h.1 in
    let c = a.stores (o + counter) (λ p. h.0 (omega arith)) in
    record {
      stores = λ k n.
          let w = a.stores k n in
          λ z. update (update (λ j. w z) (o + counter) (counted elapsed (c z) preset (truthy (v z)))) (o + out) (bit (truthy (v z) && leb preset (counted elapsed (c z) preset (truthy (v z))))) k;
      faults = ap₂ first_of a.faults (faults_same o i q.store r.store a.stores e h.1);
    }
