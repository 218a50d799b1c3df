-- Tokens and their pairs of numbers: each gives the other back. Assumes nothing.
use Rattle.std.proofs.Common.{◌≡◌, ℕ, zero, suc, ◌+◌, ◌*◌, ◌<◌, true, ◌&&◌, ltb, List, [], ◌∷◌, ◌++◌, length, get_or, take, drop, Some, None, sym, refl, ap, ◌∙◌, subst, arith}
use Rattle.std.proofs.lemmas.List.{take_at}
use Rattle.std.proofs.lemmas.Bool.Decides.{nat_tests}
use Rattle.std.proofs.lemmas.Bool.{cond-true, and_from, lt-ltb}
use Rattle.base.specs.Ops.{op_of}
use Rattle.base.proofs.OpLaws.{op_code_lt, op_of_code, op_code_of, tested}
use Rattle.lexer.specs.declared.Mark.{Mark}
use Rattle.lexer.specs.declared.Token.{Token}
use Rattle.lexer.specs.declared.Token.TheVariants.{Number as number, Name as name, Operator as operator, Mark as mark}
use Rattle.lexer.specs.Token.{Spells, Cuts, none, skip, piece}
use Rattle.lexer.specs.Pairs.{code, mark_of, kind, value, pairs, token_of, tokens_in, shaped}
use Rattle.lexer.specs.Outcome.{Written}
use Rattle.lexer.specs.Laws.{PairsBack, PairIsToken, OnePair}

pub code_lt : (m : Mark) → code m < 13
unfolding code
code_lt m = grind arith

pub mark_of_code : (m : Mark) → mark_of (code m) ≡ m
unfolding code mark_of
mark_of_code m = grind arith

pub code_of : (v : ℕ) → v < 13 → code (mark_of v) ≡ v
unfolding code mark_of
code_of v h = grind (arith, nat_tests)

-- what holds of the tokens of each kind
pub token_cases : (P : Token → Type 0) (k v : ℕ) → (k ≡ 0 → P (number v)) → (k ≡ 1 → P (name v)) → (k ≡ 2 → P (operator (op_of v))) → (2 < k → P (mark (mark_of v))) → P (token_of k v)
unfolding token_of
token_cases P k v a b c d = tested P k 0 _ _ a (λ x. tested P k 1 _ _ b (λ y. tested P k 2 _ _ c (λ z. d (omega arith))))

-- a token's pair is read as the token
pub token_back : (t : Token) → token_of (kind t) (value t) ≡ t
unfolding token_of
token_back (number n) = refl
token_back (name i) = refl
token_back (operator o) = ap operator (op_of_code o)
token_back (mark m) = ap mark (mark_of_code m)

pub pairs_back : PairsBack
unfolding pairs tokens_in
pairs_back [] = refl
pairs_back (t ∷ ts) = λ i. token_back t i ∷ pairs_back ts i

-- a token that a text can spell has a pair of words that is a token's
pub spelled_shaped : (w : List ℕ) (t : Token) → Spells w t → shaped (kind t) (value t) ≡ true
spelled_shaped w t s = grind (arith, nat_tests, op_code_lt, code_lt)

pub spelled_word : (w : List ℕ) (t : Token) → Spells w t → value t < 65536
spelled_word w t s = grind (arith, op_code_lt, code_lt)

pub pair_is_token : PairIsToken
pair_is_token w t s =
    cond-true (shaped (kind t) (value t) && ltb (value t) 65536) (Some (token_of (kind t) (value t))) None (and_from _ _ (spelled_shaped w t s) (lt-ltb (value t) 65536 (spelled_word w t s)))
    ∙ ap Some (token_back t)

-- a pair that is a token's is the pair of the token that it is read as
pair_back : (k v : ℕ) → shaped k v ≡ true → (kind (token_of k v) ≡ k) × (value (token_of k v) ≡ v)
unfolding token_of
pair_back k v h = grind (arith, nat_tests, op_code_of, code_of)

pub one_pair : OnePair
one_pair k v t e = let back = pair_back k v in grind (arith, nat_tests, back)

pub pairs_push : (ts : List Token) (t : Token) → pairs (ts ++ t ∷ []) ≡ pairs ts ++ (kind t ∷ value t ∷ [])
unfolding pairs
pairs_push [] t = refl
pairs_push (u ∷ ts) t = ap (λ l. kind u ∷ value u ∷ l) (pairs_push ts t)

pub pairs_length : (ts : List Token) → length (pairs ts) ≡ 2 * length ts
unfolding pairs
pairs_length [] = refl
pairs_length (t ∷ ts) = omega (arith, pairs_length ts)

-- every pair of the tokens of a text is a token's
pub cuts_shaped : {f rest : List ℕ} {ts : List Token} → Cuts f ts rest → (j : ℕ) → j < length ts → shaped (get_or (pairs ts) (2 * j) 0) (get_or (pairs ts) (2 * j + 1) 0) ≡ true
unfolding pairs
cuts_shaped none j h = absurd (omega arith)
cuts_shaped (skip y c) j h = cuts_shaped c j h
cuts_shaped (piece w t s p c) zero h = spelled_shaped w t s
cuts_shaped (piece w t {ts} s p c) (suc j) h =
    let two : 2 * suc j ≡ suc (suc (2 * j)) = omega arith in
    let three : 2 * suc j + 1 ≡ suc (suc (2 * j + 1)) = omega arith in
    subst (λ (x : ℕ × ℕ). shaped (get_or (pairs (t ∷ ts)) x.0 0) (get_or (pairs (t ∷ ts)) x.1 0) ≡ true) (λ i. (sym two i, sym three i)) (cuts_shaped c j (omega arith))

-- the tokens that stand in a room's front
pub written_front : (text room room₁ : List ℕ) (n : ℕ) (h : Written text room room₁ n) → take (2 * n) room₁ ≡ pairs h.tokens
written_front text room room₁ n h = ap (take (2 * n)) h.holds ∙ take_at (pairs h.tokens) (drop (2 * n) room) (2 * n) (pairs_length h.tokens ∙ ap (λ x. 2 * x) h.count)

pub written_tokens : (text room room₁ : List ℕ) (n : ℕ) (h : Written text room room₁ n) → tokens_in (take (2 * n) room₁) ≡ h.tokens
written_tokens text room room₁ n h = ap tokens_in (written_front text room room₁ n h) ∙ pairs_back h.tokens
