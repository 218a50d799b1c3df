-- The tokens that are looked at for what could come next.
use Rattle.std.proofs.Common.{◌≡◌, ℕ, zero, suc, ◌*◌, List, [], ◌∷◌, take, refl, ap, ◌∙◌, arith}
use Rattle.lexer.specs.declared.Token.{Token}
use Rattle.lexer.specs.Pairs.{token_of, tokens_in}

-- the first pairs are the first tokens
pub tokens_in-take : (k : ℕ) (xs : List ℕ) → tokens_in (take (2 * k) xs) ≡ take k (tokens_in xs)
unfolding tokens_in
tokens_in-take zero xs = refl
tokens_in-take (suc k) [] = let two : 2 * suc k ≡ suc (suc (2 * k)) = omega arith in ap (λ n. tokens_in (take n [])) two
tokens_in-take (suc k) (a ∷ []) = let two : 2 * suc k ≡ suc (suc (2 * k)) = omega arith in ap (λ n. tokens_in (take n (a ∷ []))) two
tokens_in-take (suc k) (a ∷ b ∷ xs) =
    let two : 2 * suc k ≡ suc (suc (2 * k)) = omega arith in
    ap (λ n. tokens_in (take n (a ∷ b ∷ xs))) two ∙ ap (λ (ts : List Token). token_of a b ∷ ts) (tokens_in-take k xs)
