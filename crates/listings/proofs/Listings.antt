-- A listing line by line.
use Rattle.std.proofs.Common.{◌≡◌, ℕ, ◌+◌, ◌/◌, ◌<◌, ◌≤◌, List, [], ◌∷◌, ◌++◌, length, get_or, map, take, codes, decimal, ap, ◌∙◌, sym, refl, append_assoc, append-nil, arith}
use Rattle.std.proofs.lemmas.List.{map_more, length-map, length-take-le, take_all}
use Rattle.std.specs.Simd.{first_chunks}
use Rattle.compiler.specs.Code.{instr_at}
use Rattle.compiler.specs.Instr.{Instr}
use Rattle.compiler.specs.Texts.{instr_text}
use Rattle.compiler.proofs.Decodes.{chunks_read}
use Rattle.listings.specs.ListingText.{code_text, needs_text, listing}

-- a line of a listing
abbrev pub line : ℕ → Instr → List ℕ
line place i = decimal place ++ (codes " " ++ (instr_text i ++ codes "\n"))

-- one line more
code_text_more : (place n : ℕ) (is : List Instr) (i : Instr) → n ≡ place + length is → code_text place (is ++ i ∷ []) ≡ code_text place is ++ line n i
unfolding code_text
code_text_more place n [] i e = let here : place ≡ n = omega arith in append-nil (line place i) ∙ ap (λ p. line p i) here
code_text_more place n (j ∷ is) i e = ap (λ l. line place j ++ l) (code_text_more (place + 1) n is i (omega arith)) ∙ sym (append_assoc (line place j) (code_text (place + 1) is) (line n i))

-- no line yet
pub no_lines : (out : List ℕ) → out ≡ [] → out ≡ code_text 0 []
unfolding code_text
no_lines out e = e

pub line_more : (out out' : List ℕ) (xs : List (List ℕ)) (d : List ℕ) (place : ℕ) (i : Instr) → place < length xs → i ≡ instr_at (get_or xs place d) → out ≡ code_text 0 (map instr_at (take place xs)) → out' ≡ out ++ line place i → out' ≡ code_text 0 (map instr_at (take (place + 1) xs))
line_more out out' xs d place i h is inv grown =
    let n : place ≡ 0 + length (map instr_at (take place xs)) = omega (arith, length-map (take place xs) instr_at, length-take-le place xs (omega arith)) in
    grown ∙ (λ j. inv j ++ line place (is j)) ∙ sym (code_text_more 0 place (map instr_at (take place xs)) (instr_at (get_or xs place d)) n)
    ∙ ap (code_text 0) (sym (map_more instr_at xs place d h))

-- all lines were written, and the last
pub lines_all : (out out' code : List ℕ) (xs : List (List ℕ)) (place cost height depth : ℕ) → length xs ≤ place → xs ≡ first_chunks 4 (length code / 4) code → out ≡ code_text 0 (map instr_at (take place xs)) →
    out' ≡ out ++ needs_text cost height depth → out' ≡ listing code cost height depth
lines_all out out' code xs place cost height depth h is inv grown =
    grown
    ∙ ap (λ l. l ++ needs_text cost height depth)
    (inv ∙ ap (λ ys. code_text 0 (map instr_at ys)) (take_all place xs h ∙ is) ∙ ap (code_text 0) (chunks_read (length code / 4) code refl))
