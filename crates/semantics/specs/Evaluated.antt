-- What the evaluator of trees works out. Assumes nothing: these are definitions.
use Rattle.std.specs.Prelude.{◌≡◌, ℕ, ◌≤◌, List, length, None, Result, nat_le}
use Rattle.base.specs.declared.Refusal.{Refusal}
use Rattle.base.specs.Refusals.{unless, Answered}
use Rattle.base.specs.Stores.{cells}
use Rattle.base.specs.Words.{first_of}
use Rattle.syntax.specs.Ast.{Expr, Stmt, delay}
use Rattle.syntax.specs.Tree.{Holds, HoldsSetting, HoldsStmt}
use Rattle.semantics.specs.declared.interpreter.Scan.{Scan}
use Rattle.semantics.specs.Eval.{Values, eval, faults, exec}
use Rattle.semantics.specs.Needs.{stmt_need}

-- the values that a lent slice of variables and a lent fault hold
abbrev pub values_in : List ℕ → ℕ → Values
values_in vars fault = record { store = cells vars; fault = fault }

-- the value of an expression, and its fault noted
pub record Valued (vars : List ℕ) (fault : ℕ) (e : Expr) (r fault' : ℕ) : Type 0 where
  pub is : r ≡ eval 0 (cells vars) e
  pub noted : fault' ≡ first_of fault (faults 0 (cells vars) e)

-- the same of whatever expression a node holds
abbrev pub ValuesExpr : (m : List ℕ) (i : ℕ) (vars : List ℕ) (fault r fault' : ℕ) → Type 0
ValuesExpr m i vars fault r fault' = (e : Expr) → Holds m i e → Valued vars fault e r fault'

-- one run of a statement, if all its variables are there
abbrev pub Ran : (elapsed : ℕ) (s : Stmt) (vars : List ℕ) (fault : ℕ) (vars' : List ℕ) (fault' : ℕ) → Type 0
Ran elapsed s vars fault vars' fault' = (stmt_need s).reach ≤ length vars → values_in vars' fault' ≡ exec elapsed 0 s (values_in vars fault)

-- the same of whatever delay or statement a node holds
abbrev pub RunsDelay : (m : List ℕ) (i elapsed out counter : ℕ) (vars : List ℕ) (fault : ℕ) (vars' : List ℕ) (fault' : ℕ) → Type 0
RunsDelay m i elapsed out counter vars fault vars' fault' = (e : Expr) (preset : ℕ) → HoldsSetting m i e preset → Ran elapsed (delay out counter e preset) vars fault vars' fault'

abbrev pub RunsStmt : (m : List ℕ) (i elapsed : ℕ) (vars : List ℕ) (fault : ℕ) (vars' : List ℕ) (fault' : ℕ) → Type 0
RunsStmt m i elapsed vars fault vars' fault' = (s : Stmt) → HoldsStmt m i s → Ran elapsed s vars fault vars' fault'

-- a scan goes on with the same program, over the same variables
pub record SameScan (r r' : Scan) : Type 0 where
  pub nodes : r'.nodes.now ≡ r.nodes.now
  pub elapsed : r'.elapsed ≡ r.elapsed
  pub vars : r'.vars.ghost_name ≡ r.vars.ghost_name
  pub kept : length r'.vars.now ≡ length r.vars.now

-- one run of whatever statement a node holds; refused, and then nothing is changed, where there are fewer variables than it reaches
abbrev pub Evaluates : {A : Type 0} (m : List ℕ) (i elapsed : ℕ) (vars : List ℕ) (fault : ℕ) → Result A Refusal → (vars' : List ℕ) (fault' : ℕ) → Type 0
Evaluates m i elapsed vars fault r vars' fault' =
    (s : Stmt) → HoldsStmt m i s →
    Answered r (unless (nat_le (stmt_need s).reach (length vars)) 5 2 None) (λ _. values_in vars' fault' ≡ exec elapsed 0 s (values_in vars fault)) ((vars' ≡ vars) × (fault' ≡ fault))
