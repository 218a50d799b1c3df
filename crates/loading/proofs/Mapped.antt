-- What is known of an answer by the one that `map_err` made of it.
use Rattle.std.proofs.Common.{◌≡◌, Ok, Err, Result, refl, subst}
use Rattle.std.specs.Result.{MatchResult, IsErrAnd}

pub mapped_ok : {A E F : Type 0} (r : Result A E) (s : Result A F) (x : A) (Q : E → F → Type 0) → MatchResult r (λ y. s ≡ Ok y) (λ e. IsErrAnd s (Q e)) → s ≡ Ok x → r ≡ Ok x
mapped_ok (Ok y) s x Q h e = cc
mapped_ok (Err y) (Ok z) x Q h e = absurd h
mapped_ok (Err y) (Err z) x Q h e = cc

pub mapped_err : {A E F : Type 0} (r : Result A E) (s : Result A F) (f : F) (Q : E → F → Type 0) → MatchResult r (λ y. s ≡ Ok y) (λ e. IsErrAnd s (Q e)) → s ≡ Err f → (e : E) × (r ≡ Err e) × Q e f
mapped_err (Ok y) s f Q h e = cc
mapped_err {A = A} {F = F} (Err y) s f Q h e = (y, refl, subst (λ (v : Result A F). IsErrAnd v (Q y)) e h)
