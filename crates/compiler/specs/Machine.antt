-- The machine, and what each instruction does. Assumes nothing: these are definitions.
use Rattle.std.specs.Prelude.{ℕ, zero, suc, ◌+◌, ◌-◌, cond, List, [], ◌∷◌, ◌==◌, nat_le, slice_index_or}
use Rattle.base.specs.Delays.{delayed}
use Rattle.base.specs.Stores.{Store, update}
use Rattle.base.specs.Words.{bit, truthy, apply_op, op_fault, first_of}
use Rattle.semantics.specs.Eval.{Values}
use Rattle.compiler.specs.Instr.{Instr, push, load, store, invert, binary, jump, jump_if_zero, enter, back, tick, stop}

-- where the machine is, its values, the rounds left of each repetition, where its variables begin, the variables, and the first fault
pub record Machine : Type 0 where
  pub pc : ℕ
  pub stack : List ℕ
  pub control : List ℕ
  pub base : ℕ
  pub vars : Store
  pub fault : ℕ

-- the top of a stack, 0 of an empty one
abbrev pub top : List ℕ → ℕ
top [] = 0
top (x ∷ xs) = x

-- a stack without its top
abbrev pub rest : List ℕ → List ℕ
rest [] = []
rest (x ∷ xs) = xs

-- one instruction
abbrev pub step : (elapsed : ℕ) → Instr → Machine → Machine
step elapsed (push n) m = record { pc = m.pc + 1; stack = n ∷ m.stack; control = m.control; base = m.base; vars = m.vars; fault = m.fault }
step elapsed (load i) m = record { pc = m.pc + 1; stack = m.vars (m.base + i) ∷ m.stack; control = m.control; base = m.base; vars = m.vars; fault = m.fault }
step elapsed (store i) m = record { pc = m.pc + 1; stack = rest m.stack; control = m.control; base = m.base; vars = update m.vars (m.base + i) (top m.stack); fault = m.fault }
step elapsed invert m = record { pc = m.pc + 1; stack = bit (top m.stack == 0) ∷ rest m.stack; control = m.control; base = m.base; vars = m.vars; fault = m.fault }
step elapsed (binary o) m =
    record {
      pc = m.pc + 1;
      stack = apply_op o (top (rest m.stack)) (top m.stack) ∷ rest (rest m.stack);
      control = m.control;
      base = m.base;
      vars = m.vars;
      fault = first_of m.fault (op_fault o (top m.stack));
    }
step elapsed (jump n) m = record { pc = m.pc + 1 + n; stack = m.stack; control = m.control; base = m.base; vars = m.vars; fault = m.fault }
step elapsed (jump_if_zero n) m =
    record { pc = m.pc + 1 + cond (top m.stack == 0) n 0; stack = rest m.stack; control = m.control; base = m.base; vars = m.vars; fault = m.fault }
step elapsed (enter n past) m =
    record { pc = m.pc + 1 + cond (n == 0) past 0; stack = m.stack; control = cond (n == 0) m.control (n ∷ m.control); base = m.base; vars = m.vars; fault = m.fault }
step elapsed (back n) m =
    record {
      pc = cond (nat_le (top m.control) 1) (m.pc + 1) (m.pc + 1 - n);
      stack = m.stack;
      control = cond (nat_le (top m.control) 1) (rest m.control) ((top m.control - 1) ∷ rest m.control);
      base = m.base;
      vars = m.vars;
      fault = m.fault;
    }
step elapsed (tick out counter preset) m =
    record {
      pc = m.pc + 1;
      stack = rest m.stack;
      control = m.control;
      base = m.base;
      vars = delayed elapsed (m.base + out) (m.base + counter) preset (truthy (top m.stack)) m.vars;
      fault = m.fault;
    }
step elapsed stop m = m

-- so many instructions; past its end code stops
unfoldable pub steps : ℕ → (elapsed : ℕ) → List Instr → Machine → Machine
steps zero elapsed code m = m
steps (suc k) elapsed code m = steps k elapsed code (step elapsed (slice_index_or code m.pc stop) m)

-- a machine before its first instruction
abbrev pub boot : Values → Machine
boot r = record { pc = 0; stack = []; control = []; base = 0; vars = r.store; fault = r.fault }
