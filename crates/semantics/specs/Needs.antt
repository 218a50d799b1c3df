-- What a program needs, said before it runs, and how much there is. Assumes nothing: these are definitions.
use Rattle.std.specs.Prelude.{ℕ, suc, ◌+◌, ◌*◌, ◌≤◌, max}
use Rattle.syntax.specs.Ast.{Expr, lit, var, invert, binary, Stmt, skip, assign, seq, branch, repeat, delay}

-- at most so many instructions, values at a time, repetitions one in another, and variables from the base on
pub record Need : Type 0 where
  pub cost : ℕ
  pub height : ℕ
  pub depth : ℕ
  pub reach : ℕ

-- a need by its parts
abbrev pub need : (cost height depth reach : ℕ) → Need
need c h d r = record { cost = c; height = h; depth = d; reach = r }

-- what an expression needs
unfoldable pub expr_need : Expr → Need
expr_need (lit n) = need 1 1 0 0
expr_need (var i) = need 1 1 0 (suc i)
expr_need (invert e) = let a = expr_need e in need (a.cost + 1) a.height 0 a.reach
expr_need (binary o d e) =
    let a = expr_need d in let b = expr_need e in
    need (a.cost + (b.cost + 1)) (max a.height (b.height + 1)) 0 (max a.reach b.reach)

-- what a statement needs
unfoldable pub stmt_need : Stmt → Need
stmt_need skip = need 0 0 0 0
stmt_need (assign i e) = let a = expr_need e in need (a.cost + 1) a.height 0 (max a.reach (suc i))
stmt_need (seq s t) =
    let a = stmt_need s in let b = stmt_need t in
    need (a.cost + b.cost) (max a.height b.height) (max a.depth b.depth) (max a.reach b.reach)
stmt_need (branch e s t) =
    let c = expr_need e in let a = stmt_need s in let b = stmt_need t in
    need (c.cost + (1 + max (a.cost + 1) b.cost)) (max c.height (max a.height b.height)) (max a.depth b.depth) (max c.reach (max a.reach b.reach))
stmt_need (repeat n s) = let a = stmt_need s in need (1 + n * (a.cost + 1)) a.height (a.depth + 1) a.reach
stmt_need (delay out counter e preset) = let a = expr_need e in need (a.cost + 1) a.height 0 (max a.reach (max (suc out) (suc counter)))

-- a program is taken if a run needs at most 20,000 instructions, 32 values at a time and 8 repetitions one in another
pub record Fits (a : Need) : Type 0 where
  pub cheap : a.cost ≤ 20000
  pub low : a.height ≤ 32
  pub shallow : a.depth ≤ 8
