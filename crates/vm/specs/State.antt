-- The machine that a `Vm` and the variables stand for, and what an instruction does to it. Assumes nothing: these are definitions.
use Rattle.std.specs.Prelude.{◌≡◌, ℕ, ◌+◌, Bool, cond, List, length}
use Rattle.base.specs.Stores.{cells}
use Rattle.compiler.specs.Instr.{Instr}
use Rattle.compiler.specs.Machine.{Machine, step}
use Rattle.vm.specs.Bounds.{allowed}
use Rattle.vm.specs.Stacks.{stacked}
use Rattle.vm.specs.declared.machine.Items.{Items}
use Rattle.vm.specs.declared.machine.Vm.{Vm}

-- the machine of a `Vm` and the numbers on its stacks over these variables, at the instruction pc
abbrev pub machine_at : (pc : ℕ) → Vm → Items → (vars : List ℕ) → Machine
machine_at pc vm items vars =
    record {
      pc = pc;
      stack = stacked items.values vm.values.height;
      control = stacked items.control vm.control.height;
      base = vm.base;
      vars = cells vars;
      fault = vm.fault;
    }

-- the machine at the instruction that a `Vm` is at
abbrev pub machine_of : Vm → Items → (vars : List ℕ) → Machine
machine_of vm items vars = machine_at vm.pc vm items vars

-- a machine that is at the next instruction, and else as it was
abbrev pub passed : Machine → Machine
passed m = record { pc = m.pc + 1; stack = m.stack; control = m.control; base = m.base; vars = m.vars; fault = m.fault }

-- an instruction was done, or was not allowed and passed; and which of the two is told
pub record Does (size elapsed : ℕ) (i : Instr) (before after : Machine) (told : Bool) : Type 0 where
  pub tells : told ≡ allowed size i before
  pub does : after ≡ cond told (step elapsed i before) (passed before)

-- what an instruction does to a `Vm` that is at the one after it
abbrev pub Done : (elapsed : ℕ) → Instr → (vm : Vm) (items : Items) (vars : List ℕ) (vm₁ : Vm) (items₁ : Items) (vars₁ : List ℕ) → Bool → Type 0
Done elapsed i vm items vars vm₁ items₁ vars₁ told =
    (pc : ℕ) → vm.pc ≡ pc + 1 → Does (length vars) elapsed i (machine_at pc vm items vars) (machine_of vm₁ items₁ vars₁) told

-- what an instruction does that has nothing to do with the variables and the time, whatever they are
abbrev pub DoneInside : Instr → (vm : Vm) (items : Items) (vm₁ : Vm) (items₁ : Items) → Bool → Type 0
DoneInside i vm items vm₁ items₁ told =
    (size elapsed pc : ℕ) (vars : List ℕ) → vm.pc ≡ pc + 1 → Does size elapsed i (machine_at pc vm items vars) (machine_of vm₁ items₁ vars) told
