-- Of several faults the first. Assumes nothing.
use Rattle.std.proofs.Common.{◌≡◌, ℕ, zero, suc, ◌<◌, refl, arith}
use Rattle.std.proofs.lemmas.Bool.{ne_eqb}
use Rattle.base.specs.Words.{first_of}

pub first_suc : (a b : ℕ) → first_of (suc a) b ≡ suc a
first_suc a b = rw (ne_eqb (suc a) 0 (omega arith))

pub first_zero : (a : ℕ) → first_of a 0 ≡ a
first_zero zero = refl
first_zero (suc a) = first_suc a 0

pub first_none : (b : ℕ) → first_of 0 b ≡ b
first_none b = refl

pub first_assoc : (a b c : ℕ) → first_of (first_of a b) c ≡ first_of a (first_of b c)
first_assoc zero b c = rw (first_none b, first_none (first_of b c))
first_assoc (suc a) b c = rw (first_suc a b, first_suc a c, first_suc a (first_of b c))

pub first_stays : (a b : ℕ) → 0 < a → first_of a b ≡ a
first_stays zero b l = absurd (omega arith)
first_stays (suc a) b l = first_suc a b
