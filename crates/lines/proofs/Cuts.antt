-- A line cut into words.
use Rattle.std.proofs.Common.{◌≡◌, ℕ, zero, suc, ◌+◌, ◌-◌, ◌<◌, ◌≤◌, Bool, true, false, cond, eqb, ◌⊎◌, List, [], ◌∷◌, ◌++◌, length, get_or, take, drop, Some, None, Option, sym, refl, ap, ◌∙◌, subst, ⊎_elim, append_assoc, append-nil, arith}
use lib.Utf8.{scalar, encode, low_scalar}
use Rattle.std.specs.Char.{char_set_contains}
use Rattle.std.specs.Str.Pattern.{HasPassingCharAt, FindsPrefixBy, CutsPrefixes, IsFullyTrimmed}
use Rattle.std.specs.Str.{NoCharPasses}
use Rattle.std.proofs.lemmas.Str.Pattern.{drop_at_char}
use Rattle.std.proofs.lemmas.Bool.{cases_lt, cases_eq, ne_eqb, eq-eqb, both_ways}
use Rattle.std.proofs.lemmas.List.{take-append-drop, length-take-le}
use Rattle.std.proofs.lemmas.Str.{NoCharPasses-byte, encode_ascii}
use Rattle.std.proofs.lemmas.Bool.Decides.{nat_tests}
use Rattle.lines.specs.Words.{Words, end, word, blank, words_on}
use Rattle.lines.specs.Reading.{ended, first_place}

-- where a word ends: at a blank or a colon
abbrev pub stop : ℕ → Bool
stop c = char_set_contains (32 ∷ 9 ∷ 13 ∷ 58 ∷ []) c

pub blank_is : (c : ℕ) → char_set_contains (32 ∷ 9 ∷ 13 ∷ []) c ≡ blank c
unfolding blank
blank_is c = refl

pub blank_ascii : (c : ℕ) → blank c ≡ true → c < 128
unfolding blank
blank_ascii c h = grind (arith, nat_tests)

pub stop_ascii : (c : ℕ) → stop c ≡ true → c < 128
stop_ascii c h = grind (arith, nat_tests)

large_no_stop : (c : ℕ) → 128 ≤ c → stop c ≡ false
large_no_stop c h = grind (arith, nat_tests)

no_stop : (c : ℕ) → stop c ≡ false → (blank c ≡ false) × (eqb c 58 ≡ false)
unfolding blank
no_stop c h = (grind (arith, nat_tests), grind (arith, nat_tests))

pub stop_from : (c : ℕ) → blank c ≡ false → (c ≡ 58 → ⊥) → stop c ≡ false
unfolding blank
stop_from c h n = grind (arith, nat_tests)

stop_kinds : (c : ℕ) → stop c ≡ true → (blank c ≡ true) ⊎ ((blank c ≡ false) × (c ≡ 58))
unfolding blank
stop_kinds c h = grind (arith, nat_tests)

-- no byte of xs ends a word
abbrev pub Whole : List ℕ → Type 0
Whole xs = (i : ℕ) → i < length xs → stop (get_or xs i 0) ≡ false

pub whole_from_without : (xs : List ℕ) → NoCharPasses stop xs → Whole xs
whole_from_without xs h i l = ⊎_elim (λ s. NoCharPasses-byte stop xs i h l s) (λ s. large_no_stop (get_or xs i 0) s) (cases_lt (get_or xs i 0) 128)

-- what ends no word is added to the word
grown : (at : ℕ) (seen xs ys : List ℕ) → Whole xs → words_on at seen (xs ++ ys) ≡ words_on at (seen ++ xs) ys
unfolding words_on
grown at seen [] ys h = ap (λ l. words_on at l ys) (sym (append-nil seen))
grown at seen (x ∷ xs) ys h =
    let n = no_stop x (h 0 (omega arith)) in
    rw (n.0, n.1) (grown at (seen ++ (x ∷ [])) xs ys (λ i l. h (suc i) (omega arith)) ∙ ap (λ l. words_on at l ys) (append_assoc seen (x ∷ []) xs))

-- a word ends where the line does, or before a byte that ends it
abbrev pub Ends : List ℕ → Type 0
Ends [] = Unit {0}
Ends (b ∷ bs) = stop b ≡ true

ended_word : (at c : ℕ) (seen ys : List ℕ) → Ends ys → words_on at (c ∷ seen) ys ≡ word at (c ∷ seen) (words_on (at + length (c ∷ seen)) [] ys)
unfolding words_on
ended_word at c seen [] h = ap (λ n. word at (c ∷ seen) (end n)) (omega arith)
ended_word at c seen (b ∷ ys) h =
    let here : at + length (c ∷ seen) + 1 ≡ at + length (c ∷ seen) + 0 + 1 = omega arith in
    let there : at + length (c ∷ seen) ≡ at + length (c ∷ seen) + 0 = omega arith in
    ⊎_elim
    (λ (e : blank b ≡ true). rw e (ap (λ n. word at (c ∷ seen) (words_on n [] ys)) here))
    (λ (e : (blank b ≡ false) × (b ≡ 58)).
    let f = e.0 in
    let g : eqb b 58 ≡ true = eq-eqb b 58 e.1 in
    rw (f, g) (ap (λ n. word at (c ∷ seen) (word n (58 ∷ []) (words_on (at + length (c ∷ seen) + 1) [] ys))) there ∙ ap (λ n. word at (c ∷ seen) (word (at + length (c ∷ seen) + 0) (58 ∷ []) (words_on n [] ys))) here))
    (stop_kinds b h)

pub first_word : (at : ℕ) (bs xs ys : List ℕ) → bs ≡ xs ++ ys → 0 < length xs → Whole xs → Ends ys → words_on at [] bs ≡ word at xs (words_on (at + length xs) [] ys)
first_word at bs [] ys e l h s = absurd (omega arith)
first_word at bs (x ∷ xs) ys e l h s = ap (words_on at []) e ∙ grown at [] (x ∷ xs) ys h ∙ ended_word at x xs ys s

pub first_colon : (at : ℕ) (bs ys : List ℕ) → bs ≡ 58 ∷ ys → words_on at [] bs ≡ word at (58 ∷ []) (words_on (at + 1) [] ys)
unfolding words_on blank
first_colon at bs ys e =
    ap (words_on at []) e ∙ ap (λ n. word n (58 ∷ []) (words_on (n + 1) [] ys)) (omega arith)

pub first_blank : (at c : ℕ) (bs ys : List ℕ) → bs ≡ c ∷ ys → blank c ≡ true → words_on at [] bs ≡ words_on (at + 1) [] ys
unfolding words_on
first_blank at c bs ys e h = ap (words_on at []) e ∙ rw h (ap (λ n. words_on n [] ys) (omega arith))

-- the byte at which a search by a test of ASCII characters stops
pub such_byte : (t : ℕ → Bool) → ((c : ℕ) → t c ≡ true → c < 128) → (bs : List ℕ) (i j : ℕ) → HasPassingCharAt t bs i j → (c : ℕ) × (t c ≡ true) × (drop i bs ≡ c ∷ drop j bs)
such_byte t small bs i j h = (h.0, h.1, drop_at_char h.0 bs i j h.2 (small h.0 h.1))

-- a line that begins with no blank begins with a word, unless it is empty
abbrev pub Begins : ℕ → Words → Type 0
Begins at ws = (w : List ℕ) × (us : Words) × (ws ≡ word at w us)

one_of : (x y : Bool) (at : ℕ) (w : List ℕ) (us vs ws : Words) → Begins at ws → Begins at (cond x (word at w us) (cond y (word at w vs) ws))
one_of true y at w us vs ws h = (w, us, refl)
one_of false true at w us vs ws h = (w, vs, refl)
one_of false false at w us vs ws h = h

goes_on : (at c : ℕ) (seen bs : List ℕ) → Begins at (words_on at (c ∷ seen) bs)
unfolding words_on
goes_on at c seen [] = (c ∷ seen, _, refl)
goes_on at c seen (b ∷ bs) = one_of (blank b) (eqb b 58) at (c ∷ seen) _ _ _ (goes_on at c (seen ++ (b ∷ [])) bs)

colon_or : (y : Bool) (at : ℕ) (w : List ℕ) (us ws : Words) → Begins at ws → Begins at (cond y (word (at + 0) w us) ws)
colon_or true at w us ws h = (w, us, ap (λ n. word n w us) (omega arith))
colon_or false at w us ws h = h

pub begins_word : (at : ℕ) (bs : List ℕ) → 0 < length bs → blank (get_or bs 0 0) ≡ false → Begins at (words_on at [] bs)
unfolding words_on
begins_word at [] l h = absurd (omega arith)
begins_word at (b ∷ bs) l h = rw h (colon_or (eqb b 58) at (58 ∷ []) (words_on (at + 0 + 1) [] bs) (words_on at (b ∷ []) bs) (goes_on at b [] bs))

pub begins_end : (at : ℕ) (bs : List ℕ) → length bs ≡ 0 → words_on at [] bs ≡ end at
unfolding words_on
begins_end at [] e = ap end (omega arith)
begins_end at (b ∷ bs) e = absurd (omega arith)

-- how the first word is cut off: a colon, what stands before the first byte that ends a word, or all
pub cut_colon : (bs xs ys : List ℕ) → get_or bs 0 0 ≡ 58 → xs ≡ take 1 bs → ys ≡ drop 1 bs → (at : ℕ) → words_on at [] bs ≡ word at xs (words_on (at + length xs) [] ys)
cut_colon [] xs ys c x y at = absurd (omega arith)
cut_colon (b ∷ bs) xs ys c x y at =
    first_colon at (b ∷ bs) bs (ap (λ n. n ∷ bs) c)
    ∙ ap (λ l. word at l (words_on (at + length l) [] bs)) (ap (λ n. n ∷ []) (sym c) ∙ sym x)
    ∙ ap (λ l. word at xs (words_on (at + length xs) [] l)) (sym y)

-- a search that stops at no first byte has passed over some
passed_over : (bs rest : List ℕ) (n c : ℕ) → stop c ≡ true → drop n bs ≡ c ∷ rest → stop (get_or bs 0 0) ≡ false → 0 < n
passed_over bs rest zero c t e f = absurd (both_ways (stop (get_or bs 0 0)) f (subst (λ l. stop (get_or l 0 0) ≡ true) (sym e) t))
passed_over bs rest (suc n) c t e f = omega arith

pub cut_some : (bs xs ys : List ℕ) (n j : ℕ) → n ≤ length bs → NoCharPasses stop (take n bs) → HasPassingCharAt stop bs n j → (get_or bs 0 0 ≡ 58 → ⊥) → xs ≡ take n bs → ys ≡ drop n bs → (at : ℕ) → blank (get_or bs 0 0) ≡ false → words_on at [] bs ≡ word at xs (words_on (at + length xs) [] ys)
cut_some bs xs ys n j within w s colon x y at b =
    let found = such_byte stop stop_ascii bs n j s in
    let some = passed_over bs (drop j bs) n found.0 found.1 found.2 (stop_from (get_or bs 0 0) b colon) in
    let long : 0 < length xs = omega (arith, ap length x, length-take-le n bs within) in
    let whole : Whole xs = subst Whole (sym x) (whole_from_without (take n bs) w) in
    let ends : Ends ys = subst Ends (sym (y ∙ found.2)) found.1 in
    first_word at bs xs ys (sym (take-append-drop n bs) ∙ ap (λ l. l ++ drop n bs) (sym x) ∙ ap (λ l. xs ++ l) (sym y)) long whole ends

pub cut_all : (bs : List ℕ) → NoCharPasses stop bs → (at : ℕ) → 0 < length bs → words_on at [] bs ≡ word at bs (words_on (at + length bs) [] [])
cut_all bs w at l = first_word at bs bs [] (sym (append-nil bs)) l (whole_from_without bs w) tt

-- the first byte of a text whose first character is no blank
large_no_blank : (c : ℕ) → 128 ≤ c → blank c ≡ false
unfolding blank
large_no_blank c h = grind (arith, nat_tests)

pub no_blank_first : (bs : List ℕ) → ((c : ℕ) (rest : List ℕ) → scalar c ≡ true → bs ≡ encode c ++ rest → blank c ≡ false) → blank (get_or bs 0 0) ≡ false
unfolding blank
no_blank_first [] h = refl
no_blank_first (b ∷ bs) h =
    ⊎_elim
    (λ (s : b < 128). h b bs (low_scalar b (omega arith)) (ap (λ l. l ++ bs) (sym (encode_ascii b s))))
    (λ (s : 128 ≤ b). large_no_blank b s)
    (cases_lt b 128)

-- what is answered to a search for a blank at the front of a text
abbrev pub BlankPrefix : List ℕ → Option ℕ → Type 0
BlankPrefix bs r = (t : ℕ → Bool) → ((c : ℕ) → char_set_contains (32 ∷ 9 ∷ 13 ∷ []) c ≡ t c) → FindsPrefixBy t bs r

passed : (bs : List ℕ) (n : ℕ) → BlankPrefix bs (Some n) → (b : ℕ) × (blank b ≡ true) × (bs ≡ b ∷ drop n bs)
passed bs n h = such_byte blank blank_ascii bs 0 n (h blank blank_is)

-- blanks that are trimmed off the front of a line
pub trimmed : (at : ℕ) (bs rest ns : List ℕ) → CutsPrefixes BlankPrefix bs ns rest → (length rest ≤ length bs) × (words_on (at + (length bs - length rest)) [] rest ≡ words_on at [] bs)
trimmed at bs rest [] e =
    (omega (arith, ap length e), ap (λ l. words_on (at + (length bs - length l)) [] l) e ∙ ap (λ n. words_on n [] bs) (omega arith))
trimmed at bs rest (n ∷ ns) h =
    let b = passed h.0 n h.2 in
    let e : h.0 ≡ b.0 ∷ rest = b.2 ∙ ap (λ l. b.0 ∷ l) (sym h.3) in
    let before = trimmed at bs h.0 ns h.1 in
    let next : at + (length bs - length rest) ≡ at + (length bs - length h.0) + 1 = omega (arith, before.0, ap length e) in
    (omega (arith, before.0, ap length e), ap (λ m. words_on m [] rest) next ∙ sym (first_blank (at + (length bs - length h.0)) b.0 h.0 rest e b.1) ∙ before.1)

pub trimmed_first : (rest : List ℕ) → IsFullyTrimmed BlankPrefix rest → blank (get_or rest 0 0) ≡ false
trimmed_first rest (None, h, e) = no_blank_first rest (h blank blank_is)
trimmed_first rest (Some n, h, e) =
    let b = passed rest n h in
    absurd (omega (arith, ap length (b.2 ∙ ap (λ m. b.0 ∷ drop m rest) e)))

-- a line that begins with no blank: whether it has words, and where the first stands
module _ (at : ℕ) (bs : List ℕ) (first : blank (get_or bs 0 0) ≡ false) where
  pub ended_is : eqb (length bs) 0 ≡ ended (words_on at [] bs)
  ended_is = ⊎_elim
      (λ e. eq-eqb (length bs) 0 e ∙ sym (ap ended (begins_end at bs e)))
      (λ n. ne_eqb (length bs) 0 n ∙ sym (ap ended (begins_word at bs (omega arith) first).2))
      (cases_eq (length bs) 0)

  pub place_is : at ≡ first_place (words_on at [] bs)
  place_is = ⊎_elim
      (λ e. sym (ap first_place (begins_end at bs e)))
      (λ n. sym (ap first_place (begins_word at bs (omega arith) first).2))
      (cases_eq (length bs) 0)
