-- What a report says, and the text of its line. Assumes nothing: these are definitions.
use Rattle.std.specs.Prelude.{ℕ, Bool, true, false, List, [], ◌++◌, vec_items, codes, decimal}
use Rattle.std.specs.List.{flat_map}
use Rattle.reports.specs.declared.report.Setting.{Setting}
use Rattle.reports.specs.declared.report.Report.{Report}
use Rattle.reports.specs.declared.report.Report.TheVariants.{Started, Scanned, Refused}

-- what is told of an event: the kept values that a start found; the variables that show another value after a scan, and whether the lamp
-- went on; or a refusal's number and place
pub data Said : Type 0 where
  started : List Setting → Said
  scanned : List Setting → (lamp : Bool) → Said
  refused : (number place : ℕ) → Said

-- what a report says
abbrev pub said : Report → Said
said (Started v) = started (vec_items v)
said (Scanned v lamp) = scanned (vec_items v) lamp
said (Refused n p) = refused n p

-- a variable and its value, as `v2 17`
abbrev pub setting_text : Setting → List ℕ
setting_text s = codes "v" ++ (decimal s.variable ++ (codes " " ++ decimal s.value))

-- a setting with the blank before it
abbrev pub spaced : Setting → List ℕ
spaced s = codes " " ++ setting_text s

-- what is told of the lamp
abbrev pub lamp_text : Bool → List ℕ
lamp_text true = codes " lamp lit"
lamp_text false = []

-- the words of what is said
abbrev pub said_words : Said → List ℕ
said_words (started l) = codes "start:" ++ flat_map spaced l
said_words (scanned l lamp) = codes "scan:" ++ (flat_map spaced l ++ lamp_text lamp)
said_words (refused n p) = codes "refused " ++ (decimal n ++ (codes " at " ++ decimal p))

-- the line of what is said, with its end
abbrev pub said_text : Said → List ℕ
said_text s = said_words s ++ codes "\n"

-- the line of a report
abbrev pub line_of : Report → List ℕ
line_of r = said_text (said r)
