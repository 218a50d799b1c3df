-- Operators by their numbers: each gives the other back. Assumes nothing.
use Rattle.std.proofs.Common.{◌≡◌, ℕ, ◌<◌, cond, eqb, ◌≢◌, sym, subst, inl, inr, arith}
use Rattle.std.proofs.lemmas.Bool.{cases_eq, cond-true, cond-false, eq-eqb, ne_eqb}
use Rattle.std.proofs.lemmas.Bool.Decides.{nat_tests}
use Rattle.base.specs.declared.Op.{Op}
use Rattle.base.specs.Ops.{op_code, op_of}

pub op_code_lt : (o : Op) → op_code o < 8
unfolding op_code
op_code_lt o = grind arith

pub op_of_code : (o : Op) → op_of (op_code o) ≡ o
unfolding op_code
op_of_code o = grind arith

-- what holds of a choice by a number holds on both sides of the test
pub tested : {A : Type 0} (P : A → Type 0) (v n : ℕ) (x y : A) → (v ≡ n → P x) → (v ≢ n → P y) → P (cond (eqb v n) x y)
tested P v n x y p q =
    elim (cases_eq v n) [
      | inl e ↦ subst P (sym (cond-true (eqb v n) x y (eq-eqb v n e))) (p e)
      | inr e ↦ subst P (sym (cond-false (eqb v n) x y (ne_eqb v n e))) (q e)
    ]

pub op_code_of : (v : ℕ) → v < 8 → op_code (op_of v) ≡ v
unfolding op_code
op_code_of v h = grind (arith, nat_tests)
