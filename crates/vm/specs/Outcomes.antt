-- What a whole run makes of the variables, and how it ends. Assumes nothing: these are definitions.
use Rattle.std.specs.Prelude.{◌≡◌, ℕ, cond, List, length, ◌==◌}
use Rattle.base.specs.Stores.{cells}
use Rattle.semantics.specs.Eval.{Values, Program}
use Rattle.compiler.specs.Machine.{Machine, boot}
use Rattle.compiler.specs.Code.{code_in}
use Rattle.compiler.specs.Right.{Compiled}
use Rattle.vm.specs.Bounds.{bounded_steps}
use Rattle.vm.specs.declared.Outcome.{Outcome}
use Rattle.vm.specs.declared.Outcome.TheVariants.{Finished, Trapped}

-- the values that variables and a fault are
abbrev pub values_of : (vars : List ℕ) (fault : ℕ) → Values
values_of vars fault = record { store = cells vars; fault = fault }

-- where a run of numbers as code ends: after 20,000 instructions, or before an instruction that is not allowed
abbrev pub last : (size : ℕ) (code : List ℕ) (elapsed : ℕ) → Values → Machine
last size code elapsed r = bounded_steps size 20000 elapsed (code_in code) (boot r)

-- the program that any numbers are, as code on a machine of so many variables
unfoldable pub program_of : (size : ℕ) → (code : List ℕ) → Program
program_of size code elapsed r = record { store = (last size code elapsed r).vars; fault = (last size code elapsed r).fault }

-- a run comes to the code's end: it meets no instruction that is not allowed, and does not use its budget up
abbrev pub Ends : (size : ℕ) (code : List ℕ) (elapsed : ℕ) → Values → Type 0
Ends size code elapsed r = (last size code elapsed r).pc ≡ length (code_in code)

-- finished at the code's end, and trapped anywhere else
abbrev pub outcome_of : (size : ℕ) (code : List ℕ) (elapsed : ℕ) → Values → Outcome
outcome_of size code elapsed r = cond ((last size code elapsed r).pc == length (code_in code)) Finished Trapped

-- an outcome as a number
abbrev pub ended : Outcome → ℕ
ended Finished = 1
ended Trapped = 0

-- a run of code that is right for a program finishes, with the values that the program means
abbrev pub RunsRight : (elapsed : ℕ) (code vars : List ℕ) (fault : ℕ) → Outcome → (vars₁ : List ℕ) (fault₁ : ℕ) → Type 0
RunsRight elapsed code vars fault r vars₁ fault₁ =
    (means : Program) → Compiled (length vars) means code →
    (r ≡ Finished) × (cells vars₁ ≡ (means elapsed (values_of vars fault)).store) × (fault₁ ≡ (means elapsed (values_of vars fault)).fault)

-- code that is right for a program is that program
abbrev pub CodeMeans : Type 0
CodeMeans = (size : ℕ) (means : Program) (code : List ℕ) → Compiled size means code → program_of size code ≡ means

-- code that is right for a program comes to its end from any values
abbrev pub NeverTrapped : Type 0
NeverTrapped = (size : ℕ) (means : Program) (code : List ℕ) → Compiled size means code → (elapsed : ℕ) (r : Values) → Ends size code elapsed r
