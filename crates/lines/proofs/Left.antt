-- What is left of a text that is read line by line.
use Rattle.std.proofs.Common.{◌≡◌, ℕ, ◌+◌, List, [], ◌∷◌, ◌++◌, length, drop, Some, None, Option, sym, ap, ◌∙◌, append_assoc, arith, length-append}
use Rattle.std.proofs.lemmas.List.{drop_at, drop-drop}
use Rattle.std.proofs.lemmas.Option.{none-some}
use Rattle.lines.specs.declared.line.Line.{Line}
use Rattle.lines.specs.Lines.{AllLeft, LastLine, Gives}

-- what is left of a text is its end
abbrev pub EndsText : List ℕ → Option Line → Type 0
EndsText text None = Unit {0}
EndsText text (Some left) = (left.text.now ≡ drop left.at text) × (left.at + length left.text.now ≡ length text)

pub all_ends : (text : List ℕ) (left : Option Line) → AllLeft text left → EndsText text left
all_ends text None h = absurd h
all_ends text (Some l) h = (h.1 ∙ ap (λ n. drop n text) (sym h.0), omega (arith, h.0, ap length h.1))

-- what is left of the text begins after the line
rest_more : (text : List ℕ) (here : ℕ) (rest xs ys : List ℕ) → rest ≡ xs ++ (10 ∷ ys) → rest ≡ drop here text → ys ≡ drop (here + (length xs + 1)) text
rest_more text here rest xs ys cut e =
    sym (drop_at (xs ++ (10 ∷ [])) ys (length xs + 1) (length-append xs (10 ∷ [])))
    ∙ ap (drop (length xs + 1)) (append_assoc xs (10 ∷ []) ys ∙ sym cut ∙ e)
    ∙ drop-drop (length xs + 1) here text

-- where the last line ends, the text does
pub last_ends : (text : List ℕ) (r l : Line) → EndsText text (Some r) → LastLine r l → l.at + length l.text.now ≡ length text
last_ends text r l e g = omega (arith, g.at, ap length g.whole, e.1)

-- what is left after a line is the text's end too
pub ends_more : (text : List ℕ) (l : Line) (left more : Option Line) → EndsText text left → Gives left (Some l) more → EndsText text more
ends_more text l None more e g = absurd (none-some l (sym g.0))
ends_more text l (Some r) None e g = tt
ends_more text l (Some r) (Some m) e g =
    let more = rest_more text r.at r.text.now l.text.now m.text.now g.parts e.0 in (
      more ∙ ap (λ n. drop n text) (omega (arith, g.at, g.begins)),
      omega (arith, g.at, g.begins, e.1, simp length-append at (ap length g.parts)),
    )
