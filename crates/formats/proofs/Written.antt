-- Words as they are written, and cut again.
use Rattle.std.proofs.Common.{◌≡◌, ℕ, zero, suc, ◌+◌, ◌^◌, ◌<◌, ◌≤◌, Bool, true, false, cond, ◌&&◌, ltb, List, [], ◌∷◌, ◌++◌, length, Some, decimal, sym, refl, ap, ◌∙◌, append_assoc, append-nil, arith}
use mathlib.Core.Path.{fun_ext}
use Rattle.std.specs.Str.{all_ascii_digits}
use Rattle.std.proofs.lemmas.Fmt.{digits_decimal, decimal_nonempty}
use Rattle.std.proofs.lemmas.Str.Parse.{tells_all_ascii_digits}
use Rattle.std.proofs.lemmas.Bool.{lt-ltb, and_from, and_parts}
use Rattle.std.proofs.lemmas.Bool.Decides.{nat_tests}
use Rattle.lines.specs.Words.{Words, end, word, words_on}
use Rattle.lines.specs.Reading.{below, variable_of, value_of}
use Rattle.formats.specs.ScriptText.{spaced, name_text}
use Rattle.lines.proofs.Cuts.{stop, blank_is, Whole, Ends, first_word, first_blank, begins_end}
use Rattle.lines.proofs.LineCuts.{Lacks}
use Rattle.base.proofs.NumeralLaws.{digits, number_back, name_back}

below_limit : (n limit : ℕ) → n < limit → below limit (Some n) ≡ Some n
below_limit n limit h = let t = lt-ltb n limit h in rw t

pub variable_back : (n : ℕ) → n < 64 → variable_of (name_text n) ≡ Some n
variable_back n h = ap (below 64) (name_back n (omega arith)) ∙ below_limit n 64 h

pub value_back : (n : ℕ) → n < 65536 → value_of (decimal n) ≡ Some n
value_back n h = ap (below 65536) (number_back n (omega arith)) ∙ below_limit n 65536 h

-- a byte of a written word: a digit, or above the colon
abbrev plain : ℕ → Bool
plain b = cond (ltb b 58) (ltb 47 b) (ltb 58 b)

abbrev pub clean : List ℕ → Bool
clean [] = true
clean (b ∷ bs) = plain b && clean bs

plain_no_stop : (b : ℕ) → plain b ≡ true → stop b ≡ false
plain_no_stop b h = grind (arith, nat_tests)

plain_no_end : (b : ℕ) → plain b ≡ true → b ≡ 10 → ⊥
plain_no_end b h e = grind (arith, nat_tests)

digit_plain : (c : ℕ) → 48 ≤ c → c ≤ 57 → plain c ≡ true
digit_plain c l h = grind (arith, nat_tests)

clean_whole : (w : List ℕ) → clean w ≡ true → Whole w
clean_whole [] k i l = absurd (omega arith)
clean_whole (b ∷ bs) k zero l = plain_no_stop b (and_parts (plain b) (clean bs) k).0
clean_whole (b ∷ bs) k (suc i) l = clean_whole bs (and_parts (plain b) (clean bs) k).1 i (omega arith)

pub clean_lacks : (w : List ℕ) → clean w ≡ true → Lacks 10 w
clean_lacks [] k i l e = absurd (omega arith)
clean_lacks (b ∷ bs) k zero l e = plain_no_end b (and_parts (plain b) (clean bs) k).0 e
clean_lacks (b ∷ bs) k (suc i) l e = clean_lacks bs (and_parts (plain b) (clean bs) k).1 i (omega arith) e

digits_clean : (ds : List ℕ) → all_ascii_digits ds ≡ true → clean ds ≡ true
digits_clean [] e = refl
digits_clean (c ∷ cs) e = let p = tells_all_ascii_digits.parts c cs e in and_from _ _ (digit_plain c p.0.0 p.0.1) (digits_clean cs p.1)

-- a word that can be written
pub record Word (w : List ℕ) : Type 0 where
  pub some : 0 < length w
  pub bytes : clean w ≡ true

pub number_word : (n : ℕ) → n < 2 ^ 64 → Word (decimal n)
number_word n h = record { some = decimal_nonempty n h; bytes = digits_clean (decimal n) (digits_decimal digits n h) }

pub name_word : (n : ℕ) → n < 2 ^ 64 → Word (name_text n)
name_word n h = record { some = omega arith; bytes = (number_word n h).bytes }

abbrev pub AllWords : List (List ℕ) → Type 0
AllWords [] = Unit {0}
AllWords (w ∷ ws) = Word w × AllWords ws

-- words with a blank before each, from a place on, and what follows them
unfoldable pub place : ℕ → List (List ℕ) → (ℕ → Words) → Words
place at [] k = k at
place at (w ∷ ws) k = word (at + 1) w (place (at + 1 + length w) ws k)

ends_spaced : (ws : List (List ℕ)) (ys : List ℕ) → Ends ys → Ends (spaced ws ++ ys)
unfolding spaced
ends_spaced [] ys h = h
ends_spaced (w ∷ ws) ys h = refl

pub spaced_back : (at : ℕ) (ws : List (List ℕ)) (ys : List ℕ) → AllWords ws → Ends ys → words_on at [] (spaced ws ++ ys) ≡ place at ws (λ p. words_on p [] ys)
unfolding spaced place
spaced_back at [] ys h s = refl
spaced_back at (w ∷ ws) ys h s =
    first_blank at 32 _ ((w ++ spaced ws) ++ ys) refl (sym (blank_is 32))
    ∙ first_word (at + 1) _ w (spaced ws ++ ys) (append_assoc w (spaced ws) ys) h.0.some (clean_whole w h.0.bytes) (ends_spaced ws ys s)
    ∙ ap (word (at + 1) w) (spaced_back (at + 1 + length w) ws ys h.1 s)

pub spaced_end : (at : ℕ) (ws : List (List ℕ)) → AllWords ws → words_on at [] (spaced ws) ≡ place at ws end
spaced_end at ws h =
    ap (words_on at []) (sym (append-nil (spaced ws))) ∙ spaced_back at ws [] h tt ∙ ap (place at ws) (fun_ext (λ p. begins_end p [] refl))

-- a first word, and words after it
pub line_cut : (at : ℕ) (w : List ℕ) (ws : List (List ℕ)) (ys : List ℕ) → Word w → AllWords ws → Ends ys → words_on at [] (w ++ (spaced ws ++ ys)) ≡ word at w (place (at + length w) ws (λ p. words_on p [] ys))
line_cut at w ws ys h hs s =
    first_word at _ w (spaced ws ++ ys) refl h.some (clean_whole w h.bytes) (ends_spaced ws ys s) ∙ ap (word at w) (spaced_back (at + length w) ws ys hs s)

pub line_end : (at : ℕ) (w : List ℕ) (ws : List (List ℕ)) → Word w → AllWords ws → words_on at [] (w ++ spaced ws) ≡ word at w (place (at + length w) ws end)
line_end at w ws h hs =
    ap (λ l. words_on at [] (w ++ l)) (sym (append-nil (spaced ws))) ∙ line_cut at w ws [] h hs tt ∙ ap (λ k. word at w (place (at + length w) ws k)) (fun_ext (λ p. begins_end p [] refl))

-- written words hold no line feed
pub lacks_append : (c : ℕ) (xs ys : List ℕ) → Lacks c xs → Lacks c ys → Lacks c (xs ++ ys)
lacks_append c [] ys h k i l e = k i l e
lacks_append c (x ∷ xs) ys h k zero l e = h 0 (omega arith) e
lacks_append c (x ∷ xs) ys h k (suc i) l e = lacks_append c xs ys (λ j m f. h (suc j) (omega arith) f) k i (omega arith) e

pub lacks_cons : (c b : ℕ) (ys : List ℕ) → (b ≡ c → ⊥) → Lacks c ys → Lacks c (b ∷ ys)
lacks_cons c b ys h k zero l e = h e
lacks_cons c b ys h k (suc i) l e = k i (omega arith) e

pub spaced_lacks : (ws : List (List ℕ)) → AllWords ws → Lacks 10 (spaced ws)
unfolding spaced
spaced_lacks [] h i l e = absurd (omega arith)
spaced_lacks (w ∷ ws) h i l e = lacks_cons 10 32 (w ++ spaced ws) (λ z. omega arith) (lacks_append 10 w (spaced ws) (clean_lacks w h.0.bytes) (spaced_lacks ws h.1)) i l e

pub line_lacks : (w : List ℕ) (ws : List (List ℕ)) → Word w → AllWords ws → Lacks 10 (w ++ spaced ws)
line_lacks w ws h hs = lacks_append 10 w (spaced ws) (clean_lacks w h.bytes) (spaced_lacks ws hs)

pub known : (w : List ℕ) → 0 < length w → clean w ≡ true → Word w
known w s b = record { some = s; bytes = b }
