-- Code as a listing: an instruction a line with its place, and last what the program costs. Assumes nothing: these are definitions.
use Rattle.std.specs.Prelude.{ℕ, ◌+◌, List, [], ◌∷◌, ◌++◌, codes, decimal}
use Rattle.compiler.specs.Code.{code_in}
use Rattle.compiler.specs.Instr.{Instr}
use Rattle.compiler.specs.Texts.{instr_text}

-- the lines of instructions, the first of which stands at a place
unfoldable pub code_text : ℕ → List Instr → List ℕ
code_text place [] = []
code_text place (i ∷ is) = (decimal place ++ (codes " " ++ (instr_text i ++ codes "\n"))) ++ code_text (place + 1) is

-- the last line
abbrev pub needs_text : (cost height depth : ℕ) → List ℕ
needs_text cost height depth =
    codes "cost " ++ (decimal cost ++ (codes ", height " ++ (decimal height ++ (codes ", depth " ++ (decimal depth ++ codes "\n")))))

-- the listing of code that is given in numbers
abbrev pub listing : List ℕ → (cost height depth : ℕ) → List ℕ
listing code cost height depth = code_text 0 (code_in code) ++ needs_text cost height depth
