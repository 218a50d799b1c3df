-- What expressions and statements mean. Assumes nothing: these are definitions.
use Rattle.std.specs.Prelude.{ℕ, zero, suc, ◌+◌, cond, ◌==◌}
use Rattle.base.specs.Delays.{delayed}
use Rattle.base.specs.Stores.{Store, update}
use Rattle.base.specs.Words.{bit, truthy, apply_op, op_fault, first_of}
use Rattle.syntax.specs.Ast.{Expr, lit, var, invert, binary, Stmt, skip, assign, seq, branch, repeat, delay}

-- the value of an expression; variables are counted from base
unfoldable pub eval : (base : ℕ) → Store → Expr → ℕ
eval o s (lit n) = n
eval o s (var i) = s (o + i)
eval o s (invert e) = bit (eval o s e == 0)
eval o s (binary op a b) = apply_op op (eval o s a) (eval o s b)

-- the first fault of an expression: 0 none, 1 divided by 0; the left side is worked out first
unfoldable pub faults : (base : ℕ) → Store → Expr → ℕ
faults o s (lit n) = 0
faults o s (var i) = 0
faults o s (invert e) = faults o s e
faults o s (binary op a b) = first_of (faults o s a) (first_of (faults o s b) (op_fault op (eval o s b)))

-- what a run works on: the variables, and the first fault since the start
pub record Values : Type 0 where
  pub store : Store
  pub fault : ℕ

-- the values once a fault was met, or none
abbrev pub noted : Values → ℕ → Values
noted r f = record { store = r.store; fault = first_of r.fault f }

-- f, n times over
unfoldable pub iterate : ℕ → (Values → Values) → Values → Values
iterate zero f r = r
iterate (suc n) f r = iterate n f (f r)

-- one run of a statement, so long after the last one; variables are counted from base
unfoldable pub exec : (elapsed base : ℕ) → Stmt → Values → Values
exec elapsed o skip r = r
exec elapsed o (assign i e) r =
    record { store = update r.store (o + i) (eval o r.store e); fault = first_of r.fault (faults o r.store e) }
exec elapsed o (seq s t) r = exec elapsed o t (exec elapsed o s r)
exec elapsed o (branch e s t) r =
    let r' : Values = record { store = r.store; fault = first_of r.fault (faults o r.store e) } in
    cond (eval o r.store e == 0) (exec elapsed o t r') (exec elapsed o s r')
exec elapsed o (repeat n s) r = iterate n (exec elapsed o s) r
exec elapsed o (delay out counter e preset) r =
    record {
      store = delayed elapsed (o + out) (o + counter) preset (truthy (eval o r.store e)) r.store;
      fault = first_of r.fault (faults o r.store e);
    }

-- what a program makes of the values in one run, so long after the last one
abbrev pub Program : Type 0
Program = (elapsed : ℕ) → Values → Values

-- the program that a statement is
abbrev pub meaning : Stmt → Program
meaning s elapsed r = exec elapsed 0 s r
