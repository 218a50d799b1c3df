-- A tree laid out in numbers: nodes of four, children at lower indices than their parent. Assumes nothing: these are definitions.
use Rattle.std.specs.Prelude.{◌≡◌, ℕ, ◌+◌, ◌*◌, ◌<◌, List, slice_index}
use Rattle.base.specs.Ops.{op_code}
use Rattle.syntax.specs.Ast.{Expr, lit, var, invert, binary, Stmt, skip, assign, seq, branch, repeat, delay}

-- number k of node i
abbrev pub cell : List ℕ → ℕ → ℕ → ℕ
cell m i k = slice_index m (4 * i + k)

-- the node i, and those below it, hold an expression: 0 a literal, 1 a variable, 2 not, 3 a binary operation
unfoldable pub Holds : List ℕ → ℕ → Expr → Type 0
Holds m i (lit n) = (cell m i 0 ≡ 0) × (cell m i 1 ≡ n)
Holds m i (var n) = (cell m i 0 ≡ 1) × (cell m i 1 ≡ n)
Holds m i (invert e) = (cell m i 0 ≡ 2) × (cell m i 1 < i) × Holds m (cell m i 1) e
Holds m i (binary o a b) = (cell m i 0 ≡ 3) × (cell m i 1 ≡ op_code o) × (cell m i 2 < i) × Holds m (cell m i 2) a × (cell m i 3 < i) × Holds m (cell m i 3) b

-- the node i is a delay's condition and length
abbrev pub HoldsSetting : List ℕ → ℕ → Expr → ℕ → Type 0
HoldsSetting m i e preset = (cell m i 0 ≡ 10) × (cell m i 1 < i) × Holds m (cell m i 1) e × (cell m i 2 ≡ preset)

-- the same of a statement: 4 skip, 5 assign, 6 seq, 7 branch, 8 repeat, 9 delay, whose condition and length are a node of their own
unfoldable pub HoldsStmt : List ℕ → ℕ → Stmt → Type 0
HoldsStmt m i skip = cell m i 0 ≡ 4
HoldsStmt m i (assign v e) = (cell m i 0 ≡ 5) × (cell m i 1 ≡ v) × (cell m i 2 < i) × Holds m (cell m i 2) e
HoldsStmt m i (seq s t) = (cell m i 0 ≡ 6) × (cell m i 1 < i) × HoldsStmt m (cell m i 1) s × (cell m i 2 < i) × HoldsStmt m (cell m i 2) t
HoldsStmt m i (branch e s t) =
    (cell m i 0 ≡ 7) × (cell m i 1 < i) × Holds m (cell m i 1) e × (cell m i 2 < i) × HoldsStmt m (cell m i 2) s × (cell m i 3 < i) × HoldsStmt m (cell m i 3) t
HoldsStmt m i (repeat n s) = (cell m i 0 ≡ 8) × (cell m i 1 ≡ n) × (cell m i 2 < i) × HoldsStmt m (cell m i 2) s
HoldsStmt m i (delay out counter e preset) = (cell m i 0 ≡ 9) × (cell m i 1 ≡ out) × (cell m i 2 ≡ counter) × (cell m i 3 < i) × HoldsSetting m (cell m i 3) e preset
