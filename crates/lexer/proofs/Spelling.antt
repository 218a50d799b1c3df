-- What the spellings of tokens have in common, and that each is of one token. Assumes nothing.
use Rattle.std.proofs.Common.{◌≡◌, ℕ, ◌<◌, Bool, true, false, ◌&&◌, eqb, List, [], ◌∷◌, ◌++◌, length, get_or, take, drop, IsUtf8, IsAscii, decimal, sym, refl, ap, ◌∙◌, subst, arith, lit<, rules}
use Rattle.std.specs.Str.Parse.{digits_value, AllDigits, IsNumeral}
use Rattle.std.specs.Char.{is_ascii_alphanumeric}
use Rattle.std.proofs.lemmas.Bool.{and_parts, and_from, cond-true}
use Rattle.std.proofs.lemmas.Str.Ascii.{IsAscii-nil, IsAscii-cons}
use Rattle.std.proofs.lemmas.List.{get_or-take}
use Rattle.std.proofs.lemmas.Str.{IsUtf8-from_ascii}
use Rattle.std.proofs.lemmas.Fmt.{decimal_is_IsNumeral}
use Rattle.std.proofs.lemmas.Bool.Decides.{nat_tests}
use Rattle.base.specs.declared.Op.{Op}
use Rattle.lexer.specs.declared.Mark.{Mark}
use Rattle.lexer.specs.declared.Token.{Token}
use Rattle.lexer.specs.declared.Token.TheVariants.{Number as number, Name as name, Operator as operator, Mark as mark}
use Rattle.lexer.specs.Token.{blank, operation, marking, Spells, Parted}
use Rattle.lexer.specs.Laws.{TextIsSpelling}
use Rattle.lexer.specs.Piece.{run, piece_length}

-- letters and digits throughout
abbrev pub all_alnum : List ℕ → Bool
all_alnum [] = true
all_alnum (b ∷ bs) = is_ascii_alphanumeric b && all_alnum bs

-- the three shapes of a spelling
pub data Shape : List ℕ → Type 0 where
  word : (b : ℕ) (bs : List ℕ) → is_ascii_alphanumeric b ≡ true → all_alnum bs ≡ true → Shape (b ∷ bs)
  sign : (b : ℕ) → is_ascii_alphanumeric b ≡ false → blank b ≡ false → eqb b 58 ≡ false → b < 128 → Shape (b ∷ [])
  becomes : Shape (58 ∷ 61 ∷ [])

digits_alnum : (ds : List ℕ) → AllDigits 10 ds → all_alnum ds ≡ true
digits_alnum [] h = refl
digits_alnum (c ∷ cs) h = grind (arith, nat_tests, digits_alnum cs)

number_shape : (w : List ℕ) → IsNumeral 10 w → Shape w
number_shape [] h = absurd (omega (arith, h.0))
number_shape (c ∷ cs) h = word c cs (grind (arith, nat_tests)) (digits_alnum cs h.1.1)

name_digits : (i : ℕ) → i < 64 → IsNumeral 10 (decimal i) × (digits_value 10 (decimal i) ≡ i)
name_digits i h = decimal_is_IsNumeral i (omega arith)

operation_shape : (o : Op) → Shape (operation o)
operation_shape o = search (rules, word, sign, becomes)

marking_shape : (m : Mark) → Shape (marking m)
marking_shape m = search (rules, word, sign, becomes)

pub shape : (w : List ℕ) (t : Token) → Spells w t → Shape w
shape w (number n) s = number_shape w s.0
shape w (name i) s = subst Shape (sym s.0) (word 118 (decimal i) refl (digits_alnum (decimal i) (name_digits i s.1).0.1))
shape w (operator o) s = subst Shape (sym s) (operation_shape o)
shape w (mark m) s = subst Shape (sym s) (marking_shape m)

-- a spelling is of one token
pub one_token : (w : List ℕ) (t u : Token) → Spells w t → Spells w u → t ≡ u
one_token w (operator o) u s r = grind (arith, nat_tests)
one_token w (mark m) u s r = grind (arith, nat_tests)
one_token w t (operator o) s r = grind (arith, nat_tests)
one_token w t (mark m) s r = grind (arith, nat_tests)
one_token w (number n) (number m) s r = ap number (sym s.1 ∙ r.1)
one_token w (name i) (name j) s r = ap name (sym (name_digits i s.1).1 ∙ ap (λ l. digits_value 10 (drop 1 l)) (sym s.0 ∙ r.0) ∙ (name_digits j r.1).1)
one_token w (number n) (name i) s r = grind (arith, nat_tests)
one_token w (name i) (number n) s r = grind (arith, nat_tests)

pub alnum_solid : (b : ℕ) → is_ascii_alphanumeric b ≡ true → (blank b ≡ false) × (b < 128)
alnum_solid b h = (grind (arith, nat_tests), grind (arith, nat_tests))

-- a text that begins with a spelling begins with no blank
pub solid : (w bs : List ℕ) → Shape w → (0 < length (w ++ bs)) × (blank (get_or (w ++ bs) 0 0) ≡ false)
solid _ bs (word b cs a h) = (omega arith, (alnum_solid b a).0)
solid _ bs (sign b a s n l) = (omega arith, s)
solid _ bs becomes = (omega arith, refl)

pub shape_some : (w : List ℕ) → Shape w → 0 < length w
shape_some _ (word b cs a h) = omega arith
shape_some _ (sign b a s n l) = omega arith
shape_some _ becomes = omega arith

run_front : (w bs : List ℕ) → all_alnum w ≡ true → is_ascii_alphanumeric (get_or bs 0 0) ≡ false → run (w ++ bs) ≡ length w
run_front [] [] h p = refl
run_front [] (b ∷ bs) h p = grind arith
run_front (c ∷ w) bs h p = grind (arith, run_front w bs)

-- a token's spelling is the piece at the front
pub shape_length : (w bs : List ℕ) → Shape w → Parted w bs → piece_length (w ++ bs) ≡ length w
shape_length _ bs (word b cs a h) p = grind (arith, run_front cs bs h (p a))
shape_length _ bs (sign b a s n l) p = grind arith
shape_length _ bs becomes p = refl

run_stops : (bs : List ℕ) → is_ascii_alphanumeric (get_or (drop (run bs) bs) 0 0) ≡ false
run_stops [] = refl
run_stops (b ∷ bs) = grind (arith, run_stops bs)

piece_some : (b : ℕ) (bs : List ℕ) → 0 < piece_length (b ∷ bs)
piece_some b bs = grind (arith, nat_tests)

-- the first piece is parted from what follows
pub piece_parted : (rest : List ℕ) → Parted (take (piece_length rest) rest) (drop (piece_length rest) rest)
piece_parted [] a = refl
piece_parted (b ∷ bs) a =
    let first : is_ascii_alphanumeric b ≡ true = sym (ap is_ascii_alphanumeric (get_or-take (piece_length (b ∷ bs)) (b ∷ bs) 0 0 (piece_some b bs))) ∙ a in
    ap (λ k. is_ascii_alphanumeric (get_or (drop k (b ∷ bs)) 0 0)) (cond-true _ _ _ first) ∙ run_stops bs

all_ascii : (bs : List ℕ) → all_alnum bs ≡ true → IsAscii bs
all_ascii [] h = IsAscii-nil
all_ascii (b ∷ bs) h = IsAscii-cons b bs (alnum_solid b (and_parts _ _ h).0).1 (all_ascii bs (and_parts _ _ h).1)

pub shape_ascii : (w : List ℕ) → Shape w → IsAscii w
shape_ascii _ (word b bs a h) = all_ascii (b ∷ bs) (and_from _ _ a h)
shape_ascii _ (sign b a s n l) = IsAscii-cons b [] l IsAscii-nil
shape_ascii _ becomes = IsAscii-cons 58 (61 ∷ []) (lit< tt) (IsAscii-cons 61 [] (lit< tt) IsAscii-nil)

pub spells_utf8 : (w : List ℕ) (t : Token) → Spells w t → IsUtf8 w
spells_utf8 w t s = IsUtf8-from_ascii w (shape_ascii w (shape w t s))

pub text_is_spelling : TextIsSpelling
text_is_spelling w (number n) s = let reads = decimal_is_IsNumeral n (omega (arith, s.2)) in (reads.0, reads.1, s.2)
text_is_spelling w (name i) s = (refl, s.1)
text_is_spelling w (operator o) s = grind arith
text_is_spelling w (mark m) s = refl
