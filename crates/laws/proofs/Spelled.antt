-- Tokens written with blanks between them are cut into these tokens.
use Rattle.std.proofs.Common.{◌≡◌, ℕ, ◌^◌, ◌<◌, Bool, true, false, cond, not, ◌&&◌, ltb, List, [], ◌∷◌, ◌++◌, get_or, decimal, sym, refl, subst, append-nil, arith}
use Rattle.std.specs.Char.{is_ascii_alphanumeric}
use Rattle.std.proofs.lemmas.Fmt.{decimal_is_IsNumeral}
use Rattle.std.proofs.lemmas.Bool.{ltb-true, and_parts, both_ways}
use Rattle.lexer.specs.declared.Token.{Token}
use Rattle.lexer.specs.declared.Token.TheVariants.{Number as number, Name as name, Operator as operator, Mark as mark}
use Rattle.lexer.specs.Token.{blank, operation, marking, Spells, Parted, Cuts, none, skip, piece}

-- a token, and the blanks after it
abbrev pub Spaced : Type 0
Spaced = Token × List ℕ

-- the shortest spelling of a token
unfoldable pub spelling : Token → List ℕ
spelling (number n) = decimal n
spelling (name i) = 118 ∷ decimal i
spelling (operator o) = operation o
spelling (mark m) = marking m

unfoldable pub writable : Token → Bool
writable (number n) = ltb n 65536
writable (name i) = ltb i 64
writable (operator o) = true
writable (mark m) = true

unfoldable pub all_blank : List ℕ → Bool
all_blank [] = true
all_blank (b ∷ bs) = blank b && all_blank bs

-- letters and digits do not run together
unfoldable pub apart : List ℕ → List ℕ → Bool
apart w bs = cond (is_ascii_alphanumeric (get_or w 0 0)) (not (is_ascii_alphanumeric (get_or bs 0 0))) true

unfoldable pub text_of : List Spaced → List ℕ
text_of [] = []
text_of (x ∷ xs) = spelling x.0 ++ (x.1 ++ text_of xs)

unfoldable pub tokens_of : List Spaced → List Token
tokens_of [] = []
tokens_of (x ∷ xs) = x.0 ∷ tokens_of xs

unfoldable pub well_spaced : List Spaced → Bool
well_spaced [] = true
well_spaced (x ∷ xs) = (writable x.0 && all_blank x.1) && (apart (spelling x.0) (x.1 ++ text_of xs) && well_spaced xs)

spells : (t : Token) → writable t ≡ true → Spells (spelling t) t
unfolding spelling writable
spells (number n) h =
    let low : n < 65536 = ltb-true n 65536 h in
    let wide : n < 2 ^ 64 = omega arith in
    let r = decimal_is_IsNumeral n wide in
    (r.0, r.1, low)
spells (name i) h = (refl, ltb-true i 64 h)
spells (operator o) h = refl
spells (mark m) h = refl

parted : (w bs : List ℕ) → apart w bs ≡ true → Parted w bs
unfolding apart
parted w bs = way (is_ascii_alphanumeric (get_or w 0 0)) (is_ascii_alphanumeric (get_or bs 0 0))
  where
    way : (a b : Bool) → cond a (not b) true ≡ true → a ≡ true → b ≡ false
    way true true h e = absurd (both_ways false refl h)
    way true false h e = refl
    way false b h e = absurd (both_ways false refl e)

skip_all : {bs : List ℕ} {ts : List Token} (g : List ℕ) → all_blank g ≡ true → Cuts bs ts [] → Cuts (g ++ bs) ts []
unfolding all_blank
skip_all [] h c = c
skip_all (b ∷ g) h c = let p = and_parts (blank b) (all_blank g) h in skip p.0 (skip_all g p.1 c)

pub cut_text : (xs : List Spaced) → well_spaced xs ≡ true → Cuts (text_of xs) (tokens_of xs) []
unfolding well_spaced text_of tokens_of
cut_text [] h = none
cut_text (x ∷ xs) h =
    let p = and_parts (writable x.0 && all_blank x.1) _ h in
    let q = and_parts (writable x.0) (all_blank x.1) p.0 in
    let r = and_parts (apart (spelling x.0) (x.1 ++ text_of xs)) (well_spaced xs) p.1 in
    piece (spelling x.0) x.0 (spells x.0 q.0)
    (subst (Parted (spelling x.0)) (sym (append-nil (x.1 ++ text_of xs))) (parted (spelling x.0) (x.1 ++ text_of xs) r.0))
    (skip_all x.1 q.1 (cut_text xs r.1))
