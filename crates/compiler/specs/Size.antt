-- How long code is. Assumes nothing: these are statements.
use Rattle.std.specs.Prelude.{◌≤◌, List, length}
use Rattle.lexer.specs.declared.Token.{Token}
use Rattle.syntax.specs.Ast.{Stmt}
use Rattle.syntax.specs.Grammar.{Reads}
use Rattle.compiler.specs.Compile.{compile}

-- a program has no more instructions than tokens
abbrev pub ShortCode : Type 0
ShortCode = (ts : List Token) (s : Stmt) → Reads ts s → length (compile s) ≤ length ts
