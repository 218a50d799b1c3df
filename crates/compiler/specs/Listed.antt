-- Which instruction of the machine a value stands for. Assumes nothing: these are definitions.
use Rattle.compiler.specs.Instr as instr
use Rattle.compiler.specs.Instr.{Instr}
use Rattle.compiler.specs.declared.instruction.Instruction.{Instruction}
use Rattle.compiler.specs.declared.instruction.Instruction.TheVariants.{Push, Load, Store, Not, Binary, Jump, JumpIfZero, Enter, Back, Delay, Stop}

-- the instruction that is listed
abbrev pub listed : Instruction → Instr
listed (Push n) = instr.push n
listed (Load i) = instr.load i
listed (Store i) = instr.store i
listed Not = instr.invert
listed (Binary op) = instr.binary op
listed (Jump n) = instr.jump n
listed (JumpIfZero n) = instr.jump_if_zero n
listed (Enter rounds past) = instr.enter rounds past
listed (Back n) = instr.back n
listed (Delay out counter length) = instr.tick out counter length
listed Stop = instr.stop
