-- What it is for code to be right. Assumes nothing: these are definitions.
use Rattle.std.specs.Prelude.{◌≡◌, ℕ, ◌+◌, ◌≤◌, List, [], length, slice_index_or}
use Rattle.semantics.specs.Eval.{Values, Program}
use Rattle.semantics.specs.Needs.{Need, Fits}
use Rattle.compiler.specs.Instr.{Instr, stop, touches}
use Rattle.compiler.specs.Machine.{Machine, steps, boot}
use Rattle.compiler.specs.Code.{code_in}

-- m has come to the end of code with nothing left over, and with the values r
pub record Finished (c : List Instr) (r : Values) (m : Machine) : Type 0 where
  pub at_end : m.pc ≡ length c
  pub no_stack : m.stack ≡ []
  pub no_control : m.control ≡ []
  pub same_store : (i : ℕ) → m.vars i ≡ r.store i
  pub same_fault : m.fault ≡ r.fault

-- a machine at an instruction has no more on its stacks than a need says, and touches no variable past it
pub record Within (a : Need) (i : Instr) (m : Machine) : Type 0 where
  pub stack_low : length m.stack ≤ a.height
  pub control_low : length m.control ≤ a.depth
  pub store_low : m.base + touches i ≤ a.reach

-- code is right for a program: from any values it comes to its end, within the cost, with what the program means, and is within the need at every step
pub record Right (means : Program) (a : Need) (c : List Instr) : Type 0 where
  pub runs : (elapsed : ℕ) (r : Values) → (k : ℕ) × (k ≤ a.cost) × Finished c (means elapsed r) (steps k elapsed c (boot r))
  pub low : (elapsed : ℕ) (r : Values) (k : ℕ) → Within a (slice_index_or c (steps k elapsed c (boot r)).pc stop) (steps k elapsed c (boot r))

-- a controller of so many variables may run these numbers for a program: they are right code for it, and it needs no more than there is
pub record Compiled (size : ℕ) (means : Program) (code : List ℕ) : Type 0 where
  pub needs : Need
  pub right : Right means needs (code_in code)
  pub fits : Fits needs
  pub near : needs.reach ≤ size
