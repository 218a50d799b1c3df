-- What is found out of a tree before it runs, in the numbers of the code. Assumes nothing: these are definitions.
use Rattle.std.specs.Prelude.{◌≡◌, ℕ, min, List}
use Rattle.syntax.specs.Ast.{Expr, Stmt}
use Rattle.syntax.specs.Tree.{Holds, HoldsSetting, HoldsStmt}
use Rattle.semantics.specs.Needs.{Need, expr_need, stmt_need}
use Rattle.semantics.specs.declared.limits.Needs.{Needs}

-- numbers say what is needed; costs above 20,000 are told as 20,001
pub record Measures (a : Need) (r : Needs) : Type 0 where
  pub cost : r.cost ≡ min a.cost 20001
  pub height : r.height ≡ a.height
  pub depth : r.depth ≡ a.depth
  pub reach : r.reach ≡ a.reach

-- the needs of whatever expression, condition of a delay or statement a node holds
abbrev pub MeasuredExpr : (m : List ℕ) (i : ℕ) → Needs → Type 0
MeasuredExpr m i r = (e : Expr) → Holds m i e → Measures (expr_need e) r

abbrev pub MeasuredSetting : (m : List ℕ) (i : ℕ) → Needs → Type 0
MeasuredSetting m i r = (e : Expr) (preset : ℕ) → HoldsSetting m i e preset → Measures (expr_need e) r

abbrev pub Measured : (m : List ℕ) (i : ℕ) → Needs → Type 0
Measured m i r = (s : Stmt) → HoldsStmt m i s → Measures (stmt_need s) r
