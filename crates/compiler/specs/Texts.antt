-- How instructions are written for people. Assumes nothing: these are definitions.
use Rattle.std.specs.Prelude.{ℕ, List, ◌++◌, codes, decimal}
use Rattle.base.specs.declared.Op.{Op}
use Rattle.base.specs.declared.Op.TheVariants.{Add, Sub, Mul, Div, Less, Equal, And, Or}
use Rattle.compiler.specs.Instr as instr
use Rattle.compiler.specs.Instr.{Instr}

-- the word for an operation
abbrev pub op_text : Op → List ℕ
op_text Add = codes "add"
op_text Sub = codes "sub"
op_text Mul = codes "mul"
op_text Div = codes "div"
op_text Less = codes "less"
op_text Equal = codes "equal"
op_text And = codes "and"
op_text Or = codes "or"

-- an instruction with its operands
abbrev pub instr_text : Instr → List ℕ
instr_text (instr.push n) = codes "push " ++ decimal n
instr_text (instr.load i) = codes "load v" ++ decimal i
instr_text (instr.store i) = codes "store v" ++ decimal i
instr_text instr.invert = codes "not"
instr_text (instr.binary op) = op_text op
instr_text (instr.jump n) = codes "jump " ++ decimal n
instr_text (instr.jump_if_zero n) = codes "jump-if-zero " ++ decimal n
instr_text (instr.enter rounds past) = codes "enter " ++ (decimal rounds ++ (codes " " ++ decimal past))
instr_text (instr.back n) = codes "back " ++ decimal n
instr_text (instr.tick out counter preset) = codes "delay v" ++ (decimal out ++ (codes " v" ++ (decimal counter ++ (codes " " ++ decimal preset))))
instr_text instr.stop = codes "stop"
