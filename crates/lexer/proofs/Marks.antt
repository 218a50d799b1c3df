-- Marks by their numbers and by their words. Assumes nothing.
use Rattle.std.proofs.Common.{◌≡◌, ℕ, ◌≤◌, Some, sym, ap, ◌∙◌, inl, inr, arith}
use Rattle.std.specs.List.{find, slice_get}
use Rattle.std.specs.Option.{unwrap_or}
use Rattle.std.specs.Str.{bytes_eq}
use Rattle.std.proofs.lemmas.Bool.{cases_lt}
use Rattle.std.proofs.lemmas.Bool.Decides.{nat_tests}
use Rattle.std.proofs.lemmas.Option.{slice_get_past}
use Rattle.lexer.specs.declared.Mark.{Mark}
use Rattle.lexer.specs.declared.Mark.TheVariants.{End}
use Rattle.lexer.specs.declared.text.TheConstants.{MARKS}
use Rattle.lexer.specs.Token.{marking}
use Rattle.lexer.specs.Pairs.{code, mark_of}
use Rattle.lexer.proofs.PairLaws.{code_of}

at_code : (m : Mark) → slice_get MARKS (code m) ≡ Some m
unfolding code
at_code m = grind arith

last : (n : ℕ) → 13 ≤ n → mark_of n ≡ End
unfolding mark_of
last n h = grind (arith, nat_tests)

pub mark_at : (n : ℕ) → unwrap_or (slice_get MARKS n) End ≡ mark_of n
mark_at n =
    elim (cases_lt n 13) [
      | inl h ↦ ap (λ k. unwrap_or (slice_get MARKS k) End) (sym (code_of n h)) ∙ ap (λ o. unwrap_or o End) (at_code (mark_of n))
      | inr h ↦ ap (λ o. unwrap_or o End) (slice_get_past MARKS n h) ∙ sym (last n h)
    ]

-- a search among the marks by their words finds each
pub mark_found : (m : Mark) → find (λ x. bytes_eq (marking x) (marking m)) MARKS ≡ Some m
mark_found m = grind arith
