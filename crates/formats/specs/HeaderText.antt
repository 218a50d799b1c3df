-- A project as it is written: what is kept, what comes from outside, what variables are at first, and the program. Assumes nothing: these are definitions.
use Rattle.std.specs.Prelude.{◌≡◌, ℕ, ◌^◌, ◌<◌, List, [], ◌∷◌, ◌++◌, map, length, replicate, Ok, codes, decimal, ◌≢◌, slice_set}
use Rattle.scripts.specs.declared.script.Input.{Input}
use Rattle.headers.specs.Header.{read_project}
use Rattle.formats.specs.ScriptText.{spaced, name_text, InputsFit}

-- a line of words
abbrev pub words_line : List ℕ → List (List ℕ) → List ℕ
words_line w ws = (w ++ spaced ws) ++ (10 ∷ [])

abbrev pub first_lines : List Input → List ℕ
first_lines [] = words_line (codes "program") []
first_lines (i ∷ is) = words_line (codes "first") (name_text i.variable ∷ decimal i.value ∷ []) ++ first_lines is

unfoldable pub header_text : ℕ → List ℕ → List Input → List ℕ
header_text kept outside firsts =
    words_line (codes "kept") (decimal kept ∷ []) ++ (words_line (codes "outside") (map name_text outside) ++ first_lines firsts)

-- the cells named are set, one after another
unfoldable pub marked : List ℕ → List ℕ → List ℕ
marked m [] = m
marked m (v ∷ vs) = marked (slice_set m v 1) vs

unfoldable pub valued : List ℕ → List Input → List ℕ
valued f [] = f
valued f (i ∷ is) = valued (slice_set f i.variable i.value) is

abbrev pub Variables : List ℕ → Type 0
Variables [] = Unit {0}
Variables (v ∷ vs) = (v < 64) × Variables vs

-- no variable is named twice
abbrev pub LacksVariable : ℕ → List Input → Type 0
LacksVariable v [] = Unit {0}
LacksVariable v (i ∷ is) = (i.variable ≢ v) × LacksVariable v is

abbrev pub Distinct : List Input → Type 0
Distinct [] = Unit {0}
Distinct (i ∷ is) = LacksVariable i.variable is × Distinct is

-- every project that is written out is read back as itself
abbrev pub ProjectReadsBack : Type 0
ProjectReadsBack =
    (kept : ℕ) (outside : List ℕ) (firsts : List Input) (program : List ℕ) → kept < 2 ^ 64 → Variables outside → InputsFit firsts → Distinct firsts →
    read_project (header_text kept outside firsts ++ program)
    ≡ Ok (record { kept = kept; inputs = marked (replicate 64 0) outside; firsts = valued (replicate 64 0) firsts; at = length (header_text kept outside firsts); program = program })
