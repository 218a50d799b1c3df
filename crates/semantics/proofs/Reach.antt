-- A program whose variables are below a number reaches no further. Assumes nothing.
use Rattle.std.proofs.Common.{ℕ, ◌≤◌, arith}
use Rattle.syntax.specs.Ast.{Expr, lit, var, invert, binary, Stmt, skip, assign, seq, branch, repeat, delay}
use Rattle.syntax.specs.Names.{ExprBelow, Below}
use Rattle.semantics.specs.Needs.{expr_need, stmt_need}

expr_reach : (n : ℕ) (e : Expr) → ExprBelow n e → (expr_need e).reach ≤ n
unfolding expr_need
expr_reach n (lit k) b = omega arith
expr_reach n (var i) b = omega arith
expr_reach n (invert e) b = expr_reach n e b
expr_reach n (binary o x y) b = omega (arith, expr_reach n x b.0, expr_reach n y b.1)

pub stmt_reach : (n : ℕ) (s : Stmt) → Below n s → (stmt_need s).reach ≤ n
unfolding stmt_need
stmt_reach n skip b = omega arith
stmt_reach n (assign i e) b = omega (arith, expr_reach n e b.1)
stmt_reach n (seq s t) b = omega (arith, stmt_reach n s b.0, stmt_reach n t b.1)
stmt_reach n (branch e s t) b = omega (arith, expr_reach n e b.0, stmt_reach n s b.1, stmt_reach n t b.2)
stmt_reach n (repeat k s) b = stmt_reach n s b
stmt_reach n (delay out counter e preset) b = omega (arith, expr_reach n e b.2)
