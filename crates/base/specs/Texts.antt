-- How operators and refusals are written. Assumes nothing: these are definitions.
use Rattle.std.specs.Prelude.{ℕ, List, ◌++◌, codes, decimal}
use Rattle.base.specs.declared.Op.{Op}
use Rattle.base.specs.declared.Op.TheVariants.{Add, Sub, Mul, Div, Less, Equal, And, Or}
use Rattle.base.specs.declared.Refusal.{Refusal}
use Rattle.base.specs.Refusals.{number_of, place_of}

-- an operator in a program's text
abbrev pub operator_text : Op → List ℕ
operator_text Add = codes "+"
operator_text Sub = codes "-"
operator_text Mul = codes "*"
operator_text Div = codes "/"
operator_text Less = codes "<"
operator_text Equal = codes "="
operator_text And = codes "and"
operator_text Or = codes "or"

-- a refusal as people are told of it: its number and its place
abbrev pub refusal_text : Refusal → List ℕ
refusal_text r = codes "refused " ++ (decimal (number_of r) ++ (codes " at " ++ decimal (place_of r)))
