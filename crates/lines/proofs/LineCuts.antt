-- A text cut into lines.
use Rattle.std.proofs.Common.{◌≡◌, ℕ, suc, ◌+◌, ◌<◌, false, eqb, List, [], ◌∷◌, ◌++◌, length, get_or, sym, ap, ◌∙◌, append_assoc, append-nil, arith}
use Rattle.std.proofs.lemmas.Bool.{ne_eqb}
use Rattle.lines.specs.Words.{last, line, lines_on}

-- c does not stand in xs
abbrev pub Lacks : ℕ → List ℕ → Type 0
Lacks c xs = (i : ℕ) → i < length xs → get_or xs i 0 ≡ c → ⊥

-- what holds no line feed is added to the line
grown : (at : ℕ) (seen xs ys : List ℕ) → Lacks 10 xs → lines_on at seen (xs ++ ys) ≡ lines_on at (seen ++ xs) ys
unfolding lines_on
grown at seen [] ys h = ap (λ l. lines_on at l ys) (sym (append-nil seen))
grown at seen (x ∷ xs) ys h =
    let n : eqb x 10 ≡ false = ne_eqb x 10 (h 0 (omega arith)) in
    rw n (grown at (seen ++ (x ∷ [])) xs ys (λ i l e. h (suc i) (omega arith) e) ∙ ap (λ l. lines_on at l ys) (append_assoc seen (x ∷ []) xs))

pub first_line : (at : ℕ) (bs xs ys : List ℕ) → bs ≡ xs ++ (10 ∷ ys) → Lacks 10 xs → lines_on at [] bs ≡ line at xs (lines_on (at + (length xs + 1)) [] ys)
unfolding lines_on
first_line at bs xs ys e h =
    ap (lines_on at []) e ∙ grown at [] xs (10 ∷ ys) h ∙ ap (λ n. line at xs (lines_on n [] ys)) (omega arith)

pub last_line : (at : ℕ) (bs : List ℕ) → Lacks 10 bs → lines_on at [] bs ≡ last at bs
unfolding lines_on
last_line at bs h = ap (lines_on at []) (sym (append-nil bs)) ∙ grown at [] bs [] h
