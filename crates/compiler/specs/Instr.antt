-- The instructions of the machine that programs are compiled for. Assumes nothing: these are definitions.
use Rattle.std.specs.Prelude.{ℕ, suc, max}
use Rattle.base.specs.declared.Op.{Op}

-- jumps are by so many instructions from the next one
pub data Instr : Type 0 where
  push : ℕ → Instr
  load : ℕ → Instr
  store : ℕ → Instr
  invert : Instr
  binary : Op → Instr
  jump : ℕ → Instr
  jump_if_zero : ℕ → Instr
  enter : (rounds past : ℕ) → Instr
  back : ℕ → Instr
  tick : (out counter preset : ℕ) → Instr
  stop : Instr

-- how many variables from the base on an instruction may touch
abbrev pub touches : Instr → ℕ
touches (push n) = 0
touches (load i) = suc i
touches (store i) = suc i
touches invert = 0
touches (binary o) = 0
touches (jump n) = 0
touches (jump_if_zero n) = 0
touches (enter n past) = 0
touches (back n) = 0
touches (tick out counter preset) = max (suc out) (suc counter)
touches stop = 0
