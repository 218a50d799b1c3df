-- Numbers that narrow to 16 bits, and names, which are `v` and a number with no leading zero. Assumes nothing.
use Rattle.std.proofs.Common.{◌≡◌, ℕ, List, Some, Ok, Err, Result, sym, subst, ap, ◌∙◌, arith}
use Rattle.std.specs.Option.{MatchOption}
use Rattle.std.specs.Result.{OkIff, result_ok}
use Rattle.base.specs.Numerals.{name_of}
use Rattle.base.proofs.NumeralLaws.{name_back}
use Rattle.lexer.specs.declared.Token.TheVariants.{Name as name}
use Rattle.lexer.specs.Token.{Spells}

-- what `.ok()` makes of a conversion that gives v just where it fits
pub narrowed : {E : Type 0} → (r : Result ℕ E) (fits : Type 0) (v : ℕ) (S : ℕ → Type 0) {N : Type 0} → OkIff r fits v → ((fits → ⊥) → N) → S v → MatchOption (result_ok r) N S
narrowed (Ok x) fits v S h n s = subst S (sym h.1) s
narrowed (Err e) fits v S h n s = n h

pub name_read : (w : List ℕ) (i : ℕ) → Spells w (name i) → name_of w ≡ Some i
name_read w i s = ap name_of s.0 ∙ name_back i (omega (arith, s.1))
