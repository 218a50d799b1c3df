-- The readers of headers and scripts once more, so that reading a text computes; and that they read the same.
use Rattle.std.proofs.Common.{◌≡◌, ℕ, ◌+◌, Bool, true, false, cond, eqb, List, [], ◌∷◌, ◌++◌, length, drop, Ok, Err, Result, refl, ap, ◌∙◌}
use Rattle.headers.specs.declared.header.Header.{Header}
use Rattle.lines.specs.Words.{Lines, last, line, lines_on, Words, end, word, blank, then_words, words_on}
use Rattle.lines.specs.Reading.{outcome, and_ok}
use Rattle.headers.specs.Header.{Plan, blank_header, take_header_line, read_header_line, finished, read_header, read_project}
use Rattle.scripts.specs.Script.{Request, take_line, read_line, read_lines, read_script}

-- a text cut into lines
unfoldable pub lines : ℕ → List ℕ → List ℕ → Lines
lines at seen [] = last at seen
lines at seen (b ∷ bs) =
    elim (eqb b 10) [ true ↦ line at seen (lines (at + length seen + 1) [] bs) | false ↦ lines at (seen ++ (b ∷ [])) bs ]

lines_same : (at : ℕ) (seen bs : List ℕ) → lines_on at seen bs ≡ lines at seen bs
unfolding lines lines_on
lines_same at seen [] = refl
lines_same at seen (b ∷ bs) = way (eqb b 10) (lines_same (at + length seen + 1) [] bs) (lines_same at (seen ++ (b ∷ [])) bs)
  where
    way : (c : Bool) → lines_on (at + length seen + 1) [] bs ≡ lines (at + length seen + 1) [] bs → lines_on at (seen ++ (b ∷ [])) bs ≡ lines at (seen ++ (b ∷ [])) bs →
        cond c (line at seen (lines_on (at + length seen + 1) [] bs)) (lines_on at (seen ++ (b ∷ [])) bs)
        ≡ elim c [ true ↦ line at seen (lines (at + length seen + 1) [] bs) | false ↦ lines at (seen ++ (b ∷ [])) bs ]
    way true p q = ap (line at seen) p
    way false p q = q

-- a line cut into words
unfoldable pub words : ℕ → List ℕ → List ℕ → Words
words at seen [] = then_words at seen (end (at + length seen))
words at seen (b ∷ bs) =
    elim (blank b) [
      | true ↦ then_words at seen (words (at + length seen + 1) [] bs)
      | false ↦ elim (eqb b 58) [ true ↦ then_words at seen (word (at + length seen) (58 ∷ []) (words (at + length seen + 1) [] bs)) | false ↦ words at (seen ++ (b ∷ [])) bs ]
    ]

words_same : (at : ℕ) (seen bs : List ℕ) → words_on at seen bs ≡ words at seen bs
unfolding words words_on
words_same at seen [] = refl
words_same at seen (b ∷ bs) = way (blank b) (eqb b 58) (words_same (at + length seen + 1) [] bs) (words_same at (seen ++ (b ∷ [])) bs)
  where
    way : (c d : Bool) → words_on (at + length seen + 1) [] bs ≡ words (at + length seen + 1) [] bs → words_on at (seen ++ (b ∷ [])) bs ≡ words at (seen ++ (b ∷ [])) bs →
        cond c (then_words at seen (words_on (at + length seen + 1) [] bs))
        (cond d (then_words at seen (word (at + length seen) (58 ∷ []) (words_on (at + length seen + 1) [] bs))) (words_on at (seen ++ (b ∷ [])) bs))
        ≡ elim c [
          | true ↦ then_words at seen (words (at + length seen + 1) [] bs)
          | false ↦ elim d [ true ↦ then_words at seen (word (at + length seen) (58 ∷ []) (words (at + length seen + 1) [] bs)) | false ↦ words at (seen ++ (b ∷ [])) bs ]
        ]
    way true d p q = ap (then_words at seen) p
    way false true p q = ap (λ ws. then_words at seen (word (at + length seen) (58 ∷ []) ws)) p
    way false false p q = q

and_ok_same : {X Y : Type 0} (r s : Result X ℕ) (k m : X → Result Y ℕ) → r ≡ s → ((x : X) → k x ≡ m x) → and_ok r k ≡ and_ok s m
and_ok_same r s k m e f = ap (λ q. and_ok q k) e ∙ way s
  where
    way : (q : Result _ ℕ) → and_ok q k ≡ and_ok q m
    way (Ok x) = f x
    way (Err p) = refl

-- a header
unfoldable pub header : List ℕ → Header → Lines → Result Plan ℕ
header bs h (last at l) =
    and_ok (outcome (take_header_line h (words at [] l))) (λ x. cond x.0 (Ok (finished x.1 (at + length l) [])) (Err (at + length l)))
header bs h (line at l ls) =
    and_ok (outcome (take_header_line h (words at [] l))) (λ x. cond x.0 (Ok (finished x.1 (at + (length l + 1)) (drop (at + (length l + 1)) bs))) (header bs x.1 ls))

header_same : (bs : List ℕ) (h : Header) (ls : Lines) → read_header bs h ls ≡ header bs h ls
unfolding header read_header read_header_line
header_same bs h (last at l) = and_ok_same _ _ _ _ (ap (λ ws. outcome (take_header_line h ws)) (words_same at [] l)) (λ x. refl)
header_same bs h (line at l ls) = and_ok_same _ _ _ _ (ap (λ ws. outcome (take_header_line h ws)) (words_same at [] l))
    (λ x. ap (cond x.0 (Ok (finished x.1 (at + (length l + 1)) (drop (at + (length l + 1)) bs)))) (header_same bs x.1 ls))

pub project_read : (text : List ℕ) → read_project text ≡ header text blank_header (lines 0 [] text)
unfolding read_project
project_read text = header_same text blank_header (lines_on 0 [] text) ∙ ap (header text blank_header) (lines_same 0 [] text)

-- a script
unfoldable pub script : List Request → Lines → Result (List Request) ℕ
script acc (last at bs) = and_ok (outcome (take_line (words at [] bs))) (λ new. Ok (acc ++ new))
script acc (line at bs ls) = and_ok (outcome (take_line (words at [] bs))) (λ new. script (acc ++ new) ls)

script_same : (acc : List Request) (ls : Lines) → read_lines acc ls ≡ script acc ls
unfolding script read_lines read_line
script_same acc (last at bs) = and_ok_same _ _ _ _ (ap (λ ws. outcome (take_line ws)) (words_same at [] bs)) (λ new. refl)
script_same acc (line at bs ls) = and_ok_same _ _ _ _ (ap (λ ws. outcome (take_line ws)) (words_same at [] bs)) (λ new. script_same (acc ++ new) ls)

pub script_read : (text : List ℕ) → read_script text ≡ script [] (lines 0 [] text)
unfolding read_script
script_read text = script_same [] (lines_on 0 [] text) ∙ ap (script []) (lines_same 0 [] text)
