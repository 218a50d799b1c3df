-- How many instructions a row of numbers has.
use Rattle.std.proofs.Common.{◌≡◌, ℕ, ◌/◌, List, [], ◌∷◌, length, refl, arith}
use Rattle.compiler.specs.Code.{code_in}

pub code_length : (xs : List ℕ) → length (code_in xs) ≡ length xs / 4
unfolding code_in
code_length [] = refl
code_length (k ∷ []) = refl
code_length (k ∷ (a ∷ [])) = refl
code_length (k ∷ (a ∷ (b ∷ []))) = refl
code_length (k ∷ (a ∷ (b ∷ (c ∷ xs)))) = let e = code_length xs in omega arith
