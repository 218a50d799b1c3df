-- A script that is written out is read back.
use Rattle.std.proofs.Common.{◌≡◌, ℕ, ◌+◌, List, [], ◌∷◌, ◌++◌, length, Ok, codes, decimal, sym, refl, ap, ◌∙◌, append_assoc, append-nil, arith}
use Rattle.scripts.specs.declared.script.Input.{Input}
use Rattle.lines.specs.Words.{end, word, words_on, lines_on}
use Rattle.lines.specs.Reading.{took, and_ok, outcome}
use Rattle.scripts.specs.Script.{Request, start, scan, cut, force, free, take_pairs, take_inputs, take_line, read_line, read_lines, read_script}
use Rattle.formats.specs.ScriptText.{spaced, name_text, keyword, arguments, inputs_of, input_words, inputs_text, line_text, script_text, InputsFit, RequestFits, RequestsFit, ScriptReadsBack}
use Rattle.lines.proofs.Cuts.{Ends, first_colon, begins_end}
use Rattle.lines.proofs.LineCuts.{Lacks, first_line}
use Rattle.base.proofs.NumeralLaws.{number_back, name_back}
use Rattle.formats.proofs.Written.{known, variable_back, value_back, Word, clean_lacks, number_word, name_word, AllWords, place, spaced_end, line_cut, lacks_append, lacks_cons, spaced_lacks}

inputs_are_words : (is : List Input) → InputsFit is → AllWords (input_words is)
inputs_are_words [] h = tt
inputs_are_words (i ∷ is) h = (name_word i.variable (omega arith), (number_word i.value (omega arith), inputs_are_words is h.2))

pairs_back : (at : ℕ) (acc is : List Input) → InputsFit is → (q : ℕ) × (take_pairs acc (place at (input_words is) end) ≡ took (acc ++ is) (end q))
unfolding take_pairs place
pairs_back at acc [] h = (at, ap (λ l. took l (end at)) (sym (append-nil acc)))
pairs_back at acc (i ∷ is) h =
    let more = pairs_back (at + 1 + length (name_text i.variable) + 1 + length (decimal i.value)) (acc ++ (i ∷ [])) is h.2 in
    (more.0, rw (variable_back i.variable h.0, value_back i.value h.1) (more.1 ∙ ap (λ l. took l (end more.0)) (append_assoc acc (i ∷ []) is)))

ends_inputs : (is : List Input) → Ends (inputs_text is)
ends_inputs [] = tt
ends_inputs (i ∷ is) = refl

inputs_back : (at : ℕ) (is : List Input) → InputsFit is → (q : ℕ) × (take_inputs (words_on at [] (inputs_text is)) ≡ took is (end q))
inputs_back at [] h = (at, ap take_inputs (begins_end at [] refl))
inputs_back at (i ∷ is) h =
    let words = input_words (i ∷ is) in
    let more = pairs_back (at + 1) [] (i ∷ is) h in
    (more.0, ap take_inputs (first_colon at _ (spaced words) refl ∙ ap (word at (58 ∷ [])) (spaced_end (at + 1) words (inputs_are_words (i ∷ is) h))) ∙ more.1)

keyword_word : (r : Request) → Word (keyword r)
keyword_word start = known (codes "start") (omega arith) refl
keyword_word (scan t is) = known (codes "scan") (omega arith) refl
keyword_word (cut t k j is) = known (codes "cut") (omega arith) refl
keyword_word (force i n) = known (codes "force") (omega arith) refl
keyword_word (free i) = known (codes "free") (omega arith) refl

arguments_words : (r : Request) → RequestFits r → AllWords (arguments r)
arguments_words start h = tt
arguments_words (scan t is) h = (number_word t h.0, tt)
arguments_words (cut t k j is) h =
    (number_word t h.0, (known (codes "at") (omega arith) refl, (number_word k h.1, (known (codes "junk") (omega arith) refl, (number_word j h.2, tt)))))
arguments_words (force i n) h = (name_word i h.0, (number_word n h.1, tt))
arguments_words (free i) h = (name_word i h, tt)

inputs_fit : (r : Request) → RequestFits r → InputsFit (inputs_of r)
inputs_fit start h = tt
inputs_fit (scan t is) h = h.1
inputs_fit (cut t k j is) h = h.3
inputs_fit (force i n) h = tt
inputs_fit (free i) h = tt

cut_line : (at : ℕ) (r : Request) → RequestFits r → words_on at [] (line_text r) ≡ word at (keyword r) (place (at + length (keyword r)) (arguments r) (λ p. words_on p [] (inputs_text (inputs_of r))))
cut_line at r h = line_cut at (keyword r) (arguments r) (inputs_text (inputs_of r)) (keyword_word r) (arguments_words r h) (ends_inputs (inputs_of r))

line_back : (at : ℕ) (r : Request) → RequestFits r → read_line at (line_text r) ≡ Ok (r ∷ [])
unfolding read_line words_on place
line_back at start h = ap (λ ws. outcome (take_line ws)) (cut_line at start h)
line_back at (scan t is) h =
    let more = inputs_back (at + 4 + 1 + length (decimal t)) is h.1 in
    ap (λ ws. outcome (take_line ws)) (cut_line at (scan t is) h) ∙ rw (number_back t h.0, more.1)
line_back at (cut t k j is) h =
    let more = inputs_back (at + 3 + 1 + length (decimal t) + 1 + 2 + 1 + length (decimal k) + 1 + 4 + 1 + length (decimal j)) is h.3 in
    ap (λ ws. outcome (take_line ws)) (cut_line at (cut t k j is) h) ∙ rw (number_back t h.0, number_back k h.1, number_back j h.2, more.1)
line_back at (force i n) h =
    ap (λ ws. outcome (take_line ws)) (cut_line at (force i n) h) ∙ rw (name_back i h.0, number_back n h.1)
line_back at (free i) h = ap (λ ws. outcome (take_line ws)) (cut_line at (free i) h) ∙ rw (name_back i h)

inputs_lack : (is : List Input) → InputsFit is → Lacks 10 (inputs_text is)
inputs_lack [] h = λ i l e. absurd (omega arith)
inputs_lack (i ∷ is) h = lacks_cons 10 58 (spaced (input_words (i ∷ is))) (λ z. omega arith) (spaced_lacks (input_words (i ∷ is)) (inputs_are_words (i ∷ is) h))

request_lacks : (r : Request) → RequestFits r → Lacks 10 (line_text r)
request_lacks r h =
    lacks_append 10 (keyword r) (spaced (arguments r) ++ inputs_text (inputs_of r)) (clean_lacks (keyword r) (keyword_word r).bytes)
    (lacks_append 10 (spaced (arguments r)) (inputs_text (inputs_of r)) (spaced_lacks (arguments r) (arguments_words r h)) (inputs_lack (inputs_of r) (inputs_fit r h)))

lines_back : (at : ℕ) (acc rs : List Request) → RequestsFit rs → read_lines acc (lines_on at [] (script_text rs)) ≡ Ok (acc ++ rs)
unfolding read_lines read_line lines_on words_on script_text
lines_back at acc [] h = refl
lines_back at acc (r ∷ rs) h =
    ap (read_lines acc) (first_line at (line_text r ++ (10 ∷ script_text rs)) (line_text r) (script_text rs) refl (request_lacks r h.0))
    ∙ ap (λ t. and_ok t (λ new. read_lines (acc ++ new) (lines_on (at + (length (line_text r) + 1)) [] (script_text rs)))) (line_back at r h.0)
    ∙ lines_back (at + (length (line_text r) + 1)) (acc ++ (r ∷ [])) rs h.1
    ∙ ap Ok (append_assoc acc (r ∷ []) rs)

pub script_reads_back : ScriptReadsBack
unfolding read_script
script_reads_back rs h = lines_back 0 [] rs h
