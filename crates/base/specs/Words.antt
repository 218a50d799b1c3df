-- Words, 0 to 65,535, the operations on them, and the faults that they note. Assumes nothing: these are definitions.
use Rattle.std.specs.Prelude.{ℕ, ◌+◌, ◌-◌, ◌*◌, ◌/◌, ◌%◌, Bool, true, false, cond, not, ◌&&◌, ◌||◌, ◌==◌, nat_lt}
use Rattle.base.specs.declared.Op.{Op}
use Rattle.base.specs.declared.Op.TheVariants.{Add, Sub, Mul, Div, Less, Equal, And, Or}

-- a truth value as a word
abbrev pub bit : Bool → ℕ
bit b = cond b 1 0

-- any word but 0 is true
abbrev pub truthy : ℕ → Bool
truthy n = not (n == 0)

-- sums, differences and products go round, a quotient by 0 is 0, and true is 1
abbrev pub apply_op : Op → ℕ → ℕ → ℕ
apply_op Add a b = (a + b) % 65536
apply_op Sub a b = (a + (65536 - b)) % 65536
apply_op Mul a b = a * b % 65536
apply_op Div a b = cond (b == 0) 0 (a / b)
apply_op Less a b = bit (nat_lt a b)
apply_op Equal a b = bit (a == b)
apply_op And a b = bit (truthy a && truthy b)
apply_op Or a b = bit (truthy a || truthy b)

-- does an operator divide
abbrev pub divides : Op → Bool
divides Add = false
divides Sub = false
divides Mul = false
divides Div = true
divides Less = false
divides Equal = false
divides And = false
divides Or = false

-- the fault of an operation at this right operand: 0 none, 1 divided by 0
abbrev pub op_fault : Op → ℕ → ℕ
op_fault o b = bit (divides o && b == 0)

-- of two faults, one after the other, the first stays
abbrev pub first_of : ℕ → ℕ → ℕ
first_of a b = cond (a == 0) b a
