-- What a project's text says: a header line by line, and then the program's text. Assumes nothing: these are definitions.
use Rattle.std.specs.Prelude.{ℕ, ◌+◌, Bool, true, false, cond, List, [], map, length, drop, replicate, is_some, Some, None, Ok, Err, codes, Option, Result, slice_index_or, slice_set}
use Rattle.std.specs.Option.{unwrap_or}
use Rattle.std.specs.Str.{bytes_eq}
use Rattle.headers.specs.declared.header.Header.{Header}
use Rattle.headers.specs.declared.header.Project.{Project}
use Rattle.lines.specs.Words.{Words, end, word, words_on, Lines, last, line, lines_on}
use Rattle.lines.specs.Reading.{Took, took, wrong, and_then, read_as, take, take_word, take_number, take_value, variable_of, take_end, ended, outcome, and_ok}

-- how many variables are kept, a 1 for each that comes from outside, what each is at first, where the program's text begins, and that text
pub record Plan : Type 0 where
  pub kept : ℕ
  pub inputs : List ℕ
  pub firsts : List ℕ
  pub at : ℕ
  pub program : List ℕ

abbrev pub plan : Project → Plan
plan p = record { kept = p.kept; inputs = p.inputs; firsts = p.firsts; at = p.at; program = p.program.now }

-- nothing is said yet
abbrev pub blank_header : Header
blank_header = record { kept = None; inputs = None; firsts = replicate 64 None }

-- `kept` and a number, unless that was said before; p is where the line's first word stands
abbrev pub take_kept : Header → ℕ → Words → Took Header
take_kept h p ws =
    cond (is_some h.kept) (wrong p)
    (and_then (take_number ws) (λ n us. took (record h { kept = Some n }) us))

-- variables up to the end of the line, each marked with a 1
unfoldable pub take_marks : List ℕ → Words → Took (List ℕ)
take_marks marks (end p) = took marks (end p)
take_marks marks (word p w ws) = and_then (read_as p (variable_of w) ws) (λ v _. take_marks (slice_set marks v 1) ws)

-- `outside` and variables, unless that was said before
abbrev pub take_outside : Header → ℕ → Words → Took Header
take_outside h p ws =
    cond (is_some h.inputs) (wrong p)
    (and_then (take_marks (replicate 64 0) ws) (λ m us. took (record h { inputs = Some m }) us))

-- a variable of which nothing was said
abbrev pub unless_named : List (Option ℕ) → Option ℕ → Option ℕ
unless_named firsts None = None
unless_named firsts (Some v) = cond (is_some (slice_index_or firsts v None)) None (Some v)

-- `first`, such a variable and a value
abbrev pub take_first : Header → Words → Took Header
take_first h ws =
    and_then (take (λ w. unless_named h.firsts (variable_of w)) ws) (λ v us.
    and_then (take_value us) (λ n vs. took (record h { firsts = slice_set h.firsts v (Some n) }) vs))

-- what a line adds to the header, and whether it is the line `program`
abbrev pub more_header : Took Header → Took (Bool × Header)
more_header t = and_then t (λ h ws. took (false, h) ws)

abbrev pub take_entry : Header → Words → Took (Bool × Header)
take_entry h ws =
    and_then (take_word ws) (λ w us.
    cond (bytes_eq w.1 (codes "kept")) (more_header (take_kept h w.0 us))
    (cond (bytes_eq w.1 (codes "outside")) (more_header (take_outside h w.0 us))
    (cond (bytes_eq w.1 (codes "first")) (more_header (take_first h us))
    (cond (bytes_eq w.1 (codes "program")) (took (true, h) us)
    (wrong w.0)))))

-- a blank line adds nothing; on any other nothing follows
abbrev pub take_header_line : Header → Words → Took (Bool × Header)
take_header_line h ws =
    cond (ended ws) (took (false, h) ws) (and_then (take_entry h ws) (λ x us. and_then (take_end us) (λ _ vs. took x vs)))

unfoldable pub read_header_line : Header → ℕ → List ℕ → Result (Bool × Header) ℕ
read_header_line h at bs = outcome (take_header_line h (words_on at [] bs))

-- a header and the program's text, once that is reached; what is not said is 0
abbrev pub finished : Header → ℕ → List ℕ → Plan
finished h at program =
    record { kept = unwrap_or h.kept 0; inputs = unwrap_or h.inputs (replicate 64 0); firsts = map (λ v. unwrap_or v 0) h.firsts; at = at; program = program }

-- the lines of the text bs that are still to come, after what the header said before; without a line `program` the end of the text does not fit
unfoldable pub read_header : List ℕ → Header → Lines → Result Plan ℕ
read_header bs h (last at l) =
    and_ok (read_header_line h at l) (λ x. cond x.0 (Ok (finished x.1 (at + length l) [])) (Err (at + length l)))
read_header bs h (line at l ls) =
    and_ok (read_header_line h at l) (λ x. cond x.0 (Ok (finished x.1 (at + (length l + 1)) (drop (at + (length l + 1)) bs))) (read_header bs x.1 ls))

-- what a project's text says, or the place of the first word of its header that does not fit
unfoldable pub read_project : List ℕ → Result Plan ℕ
read_project bs = read_header bs blank_header (lines_on 0 [] bs)
