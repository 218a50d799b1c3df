-- What is known of a program that passes a limit, or none. Assumes nothing.
use Rattle.std.proofs.Common.{◌≡◌, ℕ, min, Bool, true, false, leb, Some, None, Option, ap, ◌∙◌, arith}
use Rattle.std.proofs.lemmas.Bool.Decides.{nat_tests}
use Rattle.base.proofs.Checks.{passed}
use Rattle.base.specs.Refusals.{unless}
use Rattle.semantics.specs.Limits.{passes_limit}
use Rattle.semantics.specs.Needs.{Need, Fits}
use Rattle.semantics.specs.Measured.{Measures}
use Rattle.semantics.specs.declared.limits.Needs.{Needs}

-- a cost that was cut off passes the limit if the whole does
cut_off : (c : ℕ) → leb (min c 20001) 20000 ≡ leb c 20000
cut_off c = grind (arith, nat_tests)

pub measured_limit : (a : Need) (r : Needs) → Measures a r → passes_limit r.cost r.height r.depth ≡ passes_limit a.cost a.height a.depth
measured_limit a r m =
    (λ j. passes_limit (m.cost j) (m.height j) (m.depth j))
    ∙ ap (λ (b : Bool). unless b 3 0 (unless (leb a.height 32) 3 1 (unless (leb a.depth 8) 3 2 None))) (cut_off a.cost)

-- what passes no limit fits
pub within_limits : (a : Need) → passes_limit a.cost a.height a.depth ≡ None → Fits a
within_limits a e =
    let p = passed (leb a.cost 20000) 3 0 _ e in
    let q = passed (leb a.height 32) 3 1 _ p.1 in
    let r = passed (leb a.depth 8) 3 2 _ q.1 in
    record { cheap = grind (arith, nat_tests); low = grind (arith, nat_tests); shallow = grind (arith, nat_tests) }

-- a limit is refused as such
numbered : (b : Bool) (number place : ℕ) (rest : Option (ℕ × ℕ)) (n p : ℕ) → unless b number place rest ≡ Some (n, p) → (rest ≡ Some (n, p) → n ≡ number) → n ≡ number
numbered true number place rest n p e f = f e
numbered false number place rest n p e f = let z : ◌≡◌ {A = ℕ × ℕ} (n, p) (number, place) = cc in ap (λ (x : ℕ × ℕ). x.0) z

pub limit_number : (c h d n p : ℕ) → passes_limit c h d ≡ Some (n, p) → n ≡ 3
limit_number c h d n p e =
    numbered (leb c 20000) 3 0 _ n p e (λ f. numbered (leb h 32) 3 1 _ n p f (λ g. numbered (leb d 8) 3 2 None n p g (λ z. let y : ◌≡◌ {A = ℕ} 0 1 = cc in absurd (omega arith))))
