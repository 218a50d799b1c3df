-- A script as it is written: a line an event, one blank between words. Assumes nothing: these are definitions.
use Rattle.std.specs.Prelude.{◌≡◌, ℕ, ◌^◌, ◌<◌, List, [], ◌∷◌, ◌++◌, Ok, codes, decimal}
use Rattle.scripts.specs.declared.script.Input.{Input}
use Rattle.scripts.specs.Script.{Request, start, scan, cut, force, free, read_script}

-- words, each with a blank before it
unfoldable pub spaced : List (List ℕ) → List ℕ
spaced [] = []
spaced (w ∷ ws) = 32 ∷ (w ++ spaced ws)

-- a variable, as `v5`
abbrev pub name_text : ℕ → List ℕ
name_text i = 118 ∷ decimal i

abbrev pub keyword : Request → List ℕ
keyword start = codes "start"
keyword (scan t is) = codes "scan"
keyword (cut t k j is) = codes "cut"
keyword (force i n) = codes "force"
keyword (free i) = codes "free"

abbrev pub arguments : Request → List (List ℕ)
arguments start = []
arguments (scan t is) = decimal t ∷ []
arguments (cut t k j is) = decimal t ∷ codes "at" ∷ decimal k ∷ codes "junk" ∷ decimal j ∷ []
arguments (force i n) = name_text i ∷ decimal n ∷ []
arguments (free i) = name_text i ∷ []

abbrev pub inputs_of : Request → List Input
inputs_of start = []
inputs_of (scan t is) = is
inputs_of (cut t k j is) = is
inputs_of (force i n) = []
inputs_of (free i) = []

abbrev pub input_words : List Input → List (List ℕ)
input_words [] = []
input_words (i ∷ is) = name_text i.variable ∷ decimal i.value ∷ input_words is

-- a colon and the inputs, if there are any
abbrev pub inputs_text : List Input → List ℕ
inputs_text [] = []
inputs_text (i ∷ is) = 58 ∷ spaced (input_words (i ∷ is))

abbrev pub line_text : Request → List ℕ
line_text r = keyword r ++ (spaced (arguments r) ++ inputs_text (inputs_of r))

unfoldable pub script_text : List Request → List ℕ
script_text [] = []
script_text (r ∷ rs) = line_text r ++ (10 ∷ script_text rs)

-- numbers that a script can name
abbrev pub InputsFit : List Input → Type 0
InputsFit [] = Unit {0}
InputsFit (i ∷ is) = (i.variable < 64) × (i.value < 65536) × InputsFit is

abbrev pub RequestFits : Request → Type 0
RequestFits start = Unit {0}
RequestFits (scan t is) = (t < 2 ^ 64) × InputsFit is
RequestFits (cut t k j is) = (t < 2 ^ 64) × (k < 2 ^ 64) × (j < 2 ^ 64) × InputsFit is
RequestFits (force i n) = (i < 2 ^ 64) × (n < 2 ^ 64)
RequestFits (free i) = i < 2 ^ 64

abbrev pub RequestsFit : List Request → Type 0
RequestsFit [] = Unit {0}
RequestsFit (r ∷ rs) = RequestFits r × RequestsFit rs

-- every script that is written out is read back as itself
abbrev pub ScriptReadsBack : Type 0
ScriptReadsBack = (rs : List Request) → RequestsFit rs → read_script (script_text rs) ≡ Ok rs
