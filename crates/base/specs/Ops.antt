-- Operators as numbers, in tokens, nodes and instructions alike. Assumes nothing: these are definitions.
use Rattle.std.specs.Prelude.{ℕ, cond, ◌==◌}
use Rattle.base.specs.declared.Op.{Op}
use Rattle.base.specs.declared.Op.TheVariants.{Add, Sub, Mul, Div, Less, Equal, And, Or}

-- an operator's number
unfoldable pub op_code : Op → ℕ
op_code Add = 0
op_code Sub = 1
op_code Mul = 2
op_code Div = 3
op_code Less = 4
op_code Equal = 5
op_code And = 6
op_code Or = 7

-- the operator of a number; from 7 on Or
abbrev pub op_of : ℕ → Op
op_of n =
    cond (n == 0) Add (cond (n == 1) Sub (cond (n == 2) Mul (cond (n == 3) Div (cond (n == 4) Less (cond (n == 5) Equal (cond (n == 6) And Or))))))
