-- A project that is written out is read back.
use Rattle.std.proofs.Common.{◌≡◌, ℕ, ◌+◌, ◌^◌, ◌<◌, true, false, ◌≢◌, List, [], ◌∷◌, ◌++◌, map, length, get_or, drop, set, replicate, is_some, Some, None, Option, Ok, codes, decimal, sym, refl, ap, ◌∙◌, append_assoc, arith, length-append, get_or-set_other}
use Rattle.std.proofs.lemmas.List.{drop_at, get_or-replicate, map-set}
use Rattle.std.specs.Option.{unwrap_or}
use Rattle.headers.specs.declared.header.Header.{Header}
use Rattle.scripts.specs.declared.script.Input.{Input}
use Rattle.lines.specs.Words.{end, blank, words_on, lines_on}
use Rattle.lines.specs.Reading.{took, outcome}
use Rattle.headers.specs.Header.{Plan, blank_header, take_marks, take_header_line, read_header_line, finished, read_header, read_project}
use Rattle.formats.specs.HeaderText.{words_line, first_lines, header_text, marked, valued, Variables, LacksVariable, Distinct, ProjectReadsBack}
use Rattle.formats.specs.ScriptText.{spaced, name_text, InputsFit}
use Rattle.lines.proofs.LineCuts.{Lacks, first_line}
use Rattle.base.proofs.NumeralLaws.{number_back}
use Rattle.formats.proofs.Written.{known, variable_back, value_back, Word, number_word, name_word, AllWords, place, line_end, line_lacks}

-- a written line is cut off, and what follows it is read on
line_cut : (w : List ℕ) (ws : List (List ℕ)) (more program : List ℕ) → (words_line w ws ++ more) ++ program ≡ (w ++ spaced ws) ++ (10 ∷ (more ++ program))
line_cut w ws more program = append_assoc (words_line w ws) more program ∙ append_assoc (w ++ spaced ws) (10 ∷ []) (more ++ program)

line_length : (here : ℕ) (w : List ℕ) (ws : List (List ℕ)) → here + (length (w ++ spaced ws) + 1) ≡ here + length (words_line w ws)
line_length here w ws = ap (λ n. here + n) (sym (length-append (w ++ spaced ws) (10 ∷ [])))

-- what a line that is cut off does with what is read
module _ (text : List ℕ) (h h₁ : Header) (here : ℕ) (rest xs ys : List ℕ) (cut : rest ≡ xs ++ (10 ∷ ys)) (lacks : Lacks 10 xs) where
  header_program : read_header_line h here xs ≡ Ok (true, h₁) → read_header text h (lines_on here [] rest) ≡ Ok (finished h₁ (here + (length xs + 1)) (drop (here + (length xs + 1)) text))
  unfolding read_header
  header_program told = ap (read_header text h) (first_line here rest xs ys cut lacks) ∙ rw told

  header_more : read_header_line h here xs ≡ Ok (false, h₁) → read_header text h (lines_on here [] rest) ≡ read_header text h₁ (lines_on (here + (length xs + 1)) [] ys)
  unfolding read_header
  header_more told = ap (read_header text h) (first_line here rest xs ys cut lacks) ∙ rw told

module _ (text program : List ℕ) (h : Header) (here : ℕ) where
  line_more : (h₁ : Header) (w : List ℕ) (ws : List (List ℕ)) (more : List ℕ) → Word w → AllWords ws → read_header_line h here (w ++ spaced ws) ≡ Ok (false, h₁) → read_header text h (lines_on here [] ((words_line w ws ++ more) ++ program)) ≡ read_header text h₁ (lines_on (here + length (words_line w ws)) [] (more ++ program))
  line_more h₁ w ws more hw hs told =
      header_more text h h₁ here _ (w ++ spaced ws) (more ++ program) (line_cut w ws more program) (line_lacks w ws hw hs) told
      ∙ ap (λ n. read_header text h₁ (lines_on n [] (more ++ program))) (line_length here w ws)

  program_back : read_header text h (lines_on here [] (first_lines [] ++ program)) ≡ Ok (finished h (here + length (first_lines [])) (drop (here + length (first_lines [])) text))
  unfolding spaced words_on blank read_header_line
  program_back = header_program text h h here _ (codes "program") program refl (line_lacks (codes "program") [] (known (codes "program") (omega arith) refl) tt) refl

-- the words of the three kinds of lines
module _ (h : Header) (at : ℕ) where
  kept_back : (n : ℕ) → n < 2 ^ 64 → h.kept ≡ None → read_header_line h at (codes "kept" ++ spaced (decimal n ∷ [])) ≡ Ok (false, record h { kept = Some n })
  unfolding read_header_line place
  kept_back n small none =
      ap (λ ws. outcome (take_header_line h ws)) (line_end at (codes "kept") (decimal n ∷ []) (known (codes "kept") (omega arith) refl) (number_word n small, tt))
      ∙ rw (none, number_back n small)

  first_back : (v n : ℕ) → v < 64 → n < 65536 → is_some (get_or h.firsts v None) ≡ false → read_header_line h at (codes "first" ++ spaced (name_text v ∷ decimal n ∷ [])) ≡ Ok (false, record h { firsts = set h.firsts v (Some n) })
  unfolding read_header_line place
  first_back v n hv hn new =
      ap (λ ws. outcome (take_header_line h ws)) (line_end at (codes "first") (name_text v ∷ decimal n ∷ []) (known (codes "first") (omega arith) refl) (name_word v (omega arith), (number_word n (omega arith), tt)))
      ∙ rw (variable_back v hv, new, value_back n hn)

marks_back : (at : ℕ) (m vs : List ℕ) → Variables vs → (q : ℕ) × (take_marks m (place at (map name_text vs) end) ≡ took (marked m vs) (end q))
unfolding take_marks place marked
marks_back at m [] h = (at, refl)
marks_back at m (v ∷ vs) h =
    let more = marks_back (at + 1 + length (name_text v)) (set m v 1) vs h.1 in
    (more.0, rw (variable_back v h.0) more.1)

variables_words : (vs : List ℕ) → Variables vs → AllWords (map name_text vs)
variables_words [] h = tt
variables_words (v ∷ vs) h = (name_word v (omega arith), variables_words vs h.1)

outside_back : (h : Header) (at : ℕ) (vs : List ℕ) → Variables vs → h.inputs ≡ None → read_header_line h at (codes "outside" ++ spaced (map name_text vs)) ≡ Ok (false, record h { inputs = Some (marked (replicate 64 0) vs) })
unfolding read_header_line
outside_back h at vs hs none =
    let more = marks_back (at + 7) (replicate 64 0) vs hs in
    ap (λ ws. outcome (take_header_line h ws)) (line_end at (codes "outside") (map name_text vs) (known (codes "outside") (omega arith) refl) (variables_words vs hs))
    ∙ rw (none, more.1)

-- of none of these variables it was said what it is at first
abbrev Unnamed : List (Option ℕ) → List Input → Type 0
Unnamed firsts [] = Unit {0}
Unnamed firsts (i ∷ is) = (is_some (get_or firsts i.variable None) ≡ false) × Unnamed firsts is

still_unnamed : (firsts : List (Option ℕ)) (v n : ℕ) (is : List Input) → LacksVariable v is → Unnamed firsts is → Unnamed (set firsts v (Some n)) is
still_unnamed firsts v n [] l u = tt
still_unnamed firsts v n (i ∷ is) l u =
    let other : i.variable ≢ v = l.0 in
    (ap is_some (get_or-set_other firsts v i.variable (Some n) None other) ∙ u.0, still_unnamed firsts v n is l.1 u.1)

-- the header after the lines `first`
unfoldable with_firsts : Header → List Input → Header
with_firsts h [] = h
with_firsts h (i ∷ is) =
    with_firsts (record h { firsts = set h.firsts i.variable (Some i.value) }) is

firsts_back : (text program : List ℕ) (h : Header) (here : ℕ) (is : List Input) → InputsFit is → Distinct is → Unnamed h.firsts is → read_header text h (lines_on here [] (first_lines is ++ program)) ≡ Ok (finished (with_firsts h is) (here + length (first_lines is)) (drop (here + length (first_lines is)) text))
unfolding with_firsts
firsts_back text program h here [] fit apart new = program_back text program h here
firsts_back text program h here (i ∷ is) fit apart new =
    let words = name_text i.variable ∷ decimal i.value ∷ [] in
    let h₁ : Header = record h { firsts = set h.firsts i.variable (Some i.value) } in
    let sum : here + length (words_line (codes "first") words) + length (first_lines is) ≡ here + length (words_line (codes "first") words ++ first_lines is) = omega (arith, length-append (words_line (codes "first") words) (first_lines is)) in
    line_more text program h here h₁ (codes "first") words (first_lines is) (known (codes "first") (omega arith) refl) (name_word i.variable (omega arith), (number_word i.value (omega arith), tt)) (first_back h here i.variable i.value fit.0 fit.1 new.0)
    ∙ firsts_back text program h₁ (here + length (words_line (codes "first") words)) is fit.2 apart.1 (still_unnamed h.firsts i.variable i.value is apart.0 new.1)
    ∙ ap (λ n. Ok (finished (with_firsts h₁ is) n (drop n text))) sum

-- what each variable is at first, where what is not said is 0
abbrev said : List (Option ℕ) → List ℕ
said = map (λ v. unwrap_or v 0)

abbrev plan_of : Header → List ℕ → ℕ → List ℕ → Plan
plan_of h firsts at program = record { kept = unwrap_or h.kept 0; inputs = unwrap_or h.inputs (replicate 64 0); firsts = firsts; at = at; program = program }

finished_firsts : (h : Header) (is : List Input) (at : ℕ) (program : List ℕ) → finished (with_firsts h is) at program ≡ plan_of h (valued (said h.firsts) is) at program
unfolding with_firsts valued
finished_firsts h [] at program = refl
finished_firsts h (i ∷ is) at program =
    finished_firsts (record h { firsts = set h.firsts i.variable (Some i.value) }) is at program
    ∙ ap (λ l. plan_of h (valued l is) at program) (map-set (λ v. unwrap_or v 0) h.firsts i.variable (Some i.value))

all_unnamed : (is : List Input) → InputsFit is → Unnamed (replicate 64 None) is
all_unnamed [] h = tt
all_unnamed (i ∷ is) h = (ap is_some (get_or-replicate 64 i.variable None None h.0), all_unnamed is h.2)

pub project_reads_back : ProjectReadsBack
unfolding read_project header_text
project_reads_back kept outside firsts program small variables fit apart =
    let one = words_line (codes "kept") (decimal kept ∷ []) in
    let two = words_line (codes "outside") (map name_text outside) in
    let text = (one ++ (two ++ first_lines firsts)) ++ program in
    let h₁ : Header = record blank_header { kept = Some kept } in
    let h₂ : Header = record h₁ { inputs = Some (marked (replicate 64 0) outside) } in
    let whole = one ++ (two ++ first_lines firsts) in
    let sum : 0 + length one + length two + length (first_lines firsts) ≡ length whole = omega (arith, length-append one (two ++ first_lines firsts), length-append two (first_lines firsts)) in
    line_more text program blank_header 0 h₁ (codes "kept") (decimal kept ∷ []) (two ++ first_lines firsts) (known (codes "kept") (omega arith) refl) (number_word kept small, tt) (kept_back blank_header 0 kept small refl)
    ∙ line_more text program h₁ (0 + length one) h₂ (codes "outside") (map name_text outside) (first_lines firsts) (known (codes "outside") (omega arith) refl) (variables_words outside variables) (outside_back h₁ (0 + length one) outside variables refl)
    ∙ firsts_back text program h₂ (0 + length one + length two) firsts fit apart (all_unnamed firsts fit)
    ∙ ap Ok (finished_firsts h₂ firsts _ _)
    ∙ ap (λ n. Ok (plan_of h₂ (valued (replicate 64 0) firsts) n (drop n text))) sum
    ∙ ap (λ l. Ok (plan_of h₂ (valued (replicate 64 0) firsts) (length whole) l)) (drop_at whole program (length whole) refl)
