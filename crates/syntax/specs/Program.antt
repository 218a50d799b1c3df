-- Programs held in nodes. Assumes nothing: these are definitions.
use Rattle.std.specs.Prelude.{ℕ, ◌/◌, ◌≤◌, List, length}
use Rattle.lexer.specs.Pairs.{tokens_in}
use Rattle.syntax.specs.Ast.{Stmt}
use Rattle.syntax.specs.Grammar.{Reads}
use Rattle.syntax.specs.Names.{Below, Words}
use Rattle.syntax.specs.Printer.{print}
use Rattle.syntax.specs.Tree.{HoldsStmt}

-- node i holds a program of at most 4,096 tokens, its variables below 64, its numbers words
pub record Held (m : List ℕ) (i : ℕ) : Type 0 where
  pub program : Stmt
  pub holds : HoldsStmt m i program
  pub names : Below 64 program
  pub words : Words program
  pub short : length (print program) ≤ 4096

-- node i holds the program of the pairs xs, in at most as many nodes as there are tokens, and one more; printed, it has no more tokens
pub record ProgramOf (xs m : List ℕ) (i : ℕ) : Type 0 where
  pub program : Stmt
  pub reads : Reads (tokens_in xs) program
  pub holds : HoldsStmt m i program
  pub names : Below 64 program
  pub words : Words program
  pub few : i ≤ length xs / 2
  pub short : length (print program) ≤ length xs / 2
