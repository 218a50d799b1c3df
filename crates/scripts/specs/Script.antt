-- What a script asks of the controller, line by line. Assumes nothing: these are definitions.
use Rattle.std.specs.Prelude.{ℕ, cond, List, [], ◌∷◌, ◌++◌, Ok, vec_items, codes, Result, nat_lt}
use Rattle.std.specs.Str.{bytes_eq}
use Rattle.base.specs.Stores.{Store, update}
use Rattle.scripts.specs.declared.script.Input.{Input}
use Rattle.scripts.specs.declared.script.Event.{Event}
use Rattle.scripts.specs.declared.script.Event.TheVariants.{Start, Scan, Cut, Force, Free}
use Rattle.lines.specs.Words.{Words, end, word, words_on, Lines, last, line, lines_on}
use Rattle.lines.specs.Reading.{Took, took, wrong, and_then, read_as, take_word, take_number, take_name, variable_of, value_of, take_keyword, take_end, ended, outcome, and_ok}

-- what a line asks for, with the times, points and numbers that it names
pub data Request : Type 0 where
  start : Request
  scan : (elapsed : ℕ) → List Input → Request
  cut : (elapsed at junk : ℕ) → List Input → Request
  force : (point number : ℕ) → Request
  free : (point : ℕ) → Request

abbrev pub request : Event → Request
request Start = start
request (Scan elapsed inputs) = scan elapsed (vec_items inputs)
request (Cut elapsed at junk inputs) = cut elapsed at junk (vec_items inputs)
request (Force point number) = force point number
request (Free point) = free point

-- variables with values up to the end of the line, after those read before
unfoldable pub take_pairs : List Input → Words → Took (List Input)
take_pairs acc (end p) = took acc (end p)
take_pairs acc (word p v (end q)) = and_then (read_as p (variable_of v) (end q)) (λ x _. wrong q)
take_pairs acc (word p v (word q n ws)) =
    and_then (read_as p (variable_of v) ws)
    (λ x _. and_then (read_as q (value_of n) ws) (λ y _. take_pairs (acc ++ (record { variable = x; value = y } ∷ [])) ws))

-- a colon and inputs; the colon may be left out where there are none
abbrev pub take_inputs : Words → Took (List Input)
take_inputs ws = cond (ended ws) (took [] ws) (and_then (take_keyword (codes ":") ws) (λ _ us. take_pairs [] us))

abbrev pub take_scan : Words → Took Request
take_scan ws = and_then (take_number ws) (λ t us. and_then (take_inputs us) (λ is vs. took (scan t is) vs))

abbrev pub take_cut : Words → Took Request
take_cut ws =
    and_then (take_number ws) (λ t us.
    and_then (take_keyword (codes "at") us) (λ _ ks.
    and_then (take_number ks) (λ k ts.
    and_then (take_keyword (codes "junk") ts) (λ _ js.
    and_then (take_number js) (λ j rest.
    and_then (take_inputs rest) (λ is vs. took (cut t k j is) vs))))))

abbrev pub take_force : Words → Took Request
take_force ws = and_then (take_name ws) (λ i us. and_then (take_number us) (λ n vs. took (force i n) vs))

abbrev pub take_free : Words → Took Request
take_free ws = and_then (take_name ws) (λ i us. took (free i) us)

-- a line's first word says what it asks for
abbrev pub take_request : Words → Took Request
take_request ws =
    and_then (take_word ws) (λ w us.
    cond (bytes_eq w.1 (codes "start")) (took start us)
    (cond (bytes_eq w.1 (codes "scan")) (take_scan us)
    (cond (bytes_eq w.1 (codes "cut")) (take_cut us)
    (cond (bytes_eq w.1 (codes "force")) (take_force us)
    (cond (bytes_eq w.1 (codes "free")) (take_free us)
    (wrong w.0))))))

-- a blank line asks for nothing; on any other nothing follows what it asks for
abbrev pub take_line : Words → Took (List Request)
take_line ws =
    cond (ended ws) (took [] ws) (and_then (take_request ws) (λ r us. and_then (take_end us) (λ _ vs. took (r ∷ []) vs)))

-- a line from the place `at` on
unfoldable pub read_line : ℕ → List ℕ → Result (List Request) ℕ
read_line at bs = outcome (take_line (words_on at [] bs))

-- lines, after what was read before
unfoldable pub read_lines : List Request → Lines → Result (List Request) ℕ
read_lines acc (last at bs) = and_ok (read_line at bs) (λ new. Ok (acc ++ new))
read_lines acc (line at bs ls) = and_ok (read_line at bs) (λ new. read_lines (acc ++ new) ls)

-- what the lines of a script ask for, or the place of the first word that does not fit
unfoldable pub read_script : List ℕ → Result (List Request) ℕ
read_script bs = read_lines [] (lines_on 0 [] bs)

-- what comes in at the 64 variables once these inputs were named: a later one counts, and what is not named stays
unfoldable pub inputs_after : Store → List Input → Store
inputs_after s [] = s
inputs_after s (i ∷ is) = inputs_after (cond (nat_lt i.variable 64) (update s i.variable i.value) s) is
