-- What a maker prints of a project. Assumes nothing: these are definitions.
use Rattle.std.specs.Prelude.{◌≡◌, ℕ, List, Ok, Err, string_bytes, Result, String}
use Rattle.std.specs.declared.alloc.Global.{Global}
use Rattle.lexer.specs.declared.Token.{Token}
use Rattle.lexer.specs.Pairs.{pairs}
use Rattle.syntax.specs.Ast.{Stmt}
use Rattle.syntax.specs.Grammar.{Reads}
use Rattle.semantics.specs.Eval.{meaning}
use Rattle.semantics.specs.Needs.{stmt_need}
use Rattle.semantics.specs.Measured.{Measures}
use Rattle.semantics.specs.declared.limits.Needs.{Needs}
use Rattle.compiler.specs.Code.{code_in}
use Rattle.compiler.specs.Right.{Right, Compiled}
use Rattle.headers.specs.Header.{Plan}
use Rattle.listings.specs.ListingText.{listing}
use Rattle.loading.specs.declared.load.Failure.{Failure}
use Rattle.loading.specs.declared.load.Failure.TheVariants.{Memory}
use Rattle.loading.specs.Loading.{CutUp, Parsed, Taken, Declined}

-- a project is listed: it is taken, and the listing shows code that is right for its program, and what the program needs
pub record Listed (project : List ℕ) (text : String Global) : Type 0 where
  pub plan : Plan
  pub program : Stmt
  pub code : List ℕ
  pub taken : Taken project plan program
  pub compiled : Compiled 64 (meaning program) code
  pub answer : string_bytes text ≡ listing code (stmt_need program).cost (stmt_need program).height (stmt_need program).depth

-- and the code stays within what the program needs
pub record ListedWithinNeeds (project : List ℕ) (text : String Global) : Type 0 where
  pub listed : Listed project text
  pub within : Right (meaning listed.program) (stmt_need listed.program) (code_in listed.code)

-- a project is listed, or it is not taken
abbrev pub Lists : (project : List ℕ) → Result (String Global) Failure → Type 0
Lists project (Ok text) = Listed project text
Lists project (Err f) = Declined project f

abbrev pub ListsWithinNeeds : (project : List ℕ) → Result (String Global) Failure → Type 0
ListsWithinNeeds project (Ok text) = ListedWithinNeeds project text
ListsWithinNeeds project (Err f) = Declined project f

-- the needs of the program that the tokens of a text are; of a program's tokens there are always some
abbrev pub NeedsIn : (tokens : List ℕ) → Result Needs Failure → Type 0
NeedsIn xs (Ok n) = (ts : List Token) (s : Stmt) → xs ≡ pairs ts → Reads ts s → Measures (stmt_need s) n
NeedsIn xs (Err f) = (text : List ℕ) (ts : List Token) (s : Stmt) → CutUp text ts → xs ≡ pairs ts → Reads ts s → ⊥

-- the needs of a project's program; where it is a program, only memory can be wanting
abbrev pub NeedsOf : (project : List ℕ) → Result Needs Failure → Type 0
NeedsOf project (Ok n) = (h : Plan) (s : Stmt) → Parsed project h s → Measures (stmt_need s) n
NeedsOf project (Err f) = (h : Plan) (s : Stmt) → Parsed project h s → f ≡ Memory
