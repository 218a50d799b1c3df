-- Which project texts are taken, why others are not, and what is loaded of those that are. Assumes nothing: these are definitions.
use Rattle.std.specs.Prelude.{◌≡◌, ℕ, ◌<◌, ◌≤◌, List, [], length, Some, Ok, Err, vec_items, Result, Vec}
use Rattle.std.specs.declared.alloc.Global.{Global}
use Rattle.base.specs.declared.Refusal.{Refusal}
use Rattle.base.specs.declared.Refusal.TheVariants.{Token as BadToken, Program as NoProgram, Limit, Room, Length, Off, Time, Stamp, Point}
use Rattle.lexer.specs.declared.Token.{Token}
use Rattle.lexer.specs.Token.{Cuts}
use Rattle.lexer.specs.Pairs.{pairs}
use Rattle.lexer.specs.Outcome.{Broken}
use Rattle.syntax.specs.Ast.{Stmt}
use Rattle.syntax.specs.Grammar.{Reads}
use Rattle.syntax.specs.Theorems.{Placed}
use Rattle.semantics.specs.Eval.{meaning}
use Rattle.semantics.specs.Limits.{passes_limit}
use Rattle.semantics.specs.Needs.{stmt_need, Fits}
use Rattle.compiler.specs.Code.{code_in}
use Rattle.compiler.specs.Right.{Right, Compiled}
use Rattle.headers.specs.Header.{Plan, read_project}
use Rattle.loading.specs.declared.load.Failure.{Failure}
use Rattle.loading.specs.declared.load.Failure.TheVariants.{Memory, Header, Program, Script}
use Rattle.loading.specs.declared.load.Loaded.{Loaded}

-- a text is cut into these tokens, and they are not too many
pub record CutUp (text : List ℕ) (ts : List Token) : Type 0 where
  pub cuts : Cuts text ts []
  pub few : length ts ≤ 4096

-- a project's text has a header that is read, and its program's text is cut into these tokens
pub record ReadUp (text : List ℕ) (h : Plan) (ts : List Token) : Type 0 where
  pub header : read_project text ≡ Ok h
  pub cut_up : CutUp h.program ts

-- and they are a program
pub record Parsed (text : List ℕ) (h : Plan) (s : Stmt) : Type 0 where
  pub tokens : List Token
  pub read_up : ReadUp text h tokens
  pub reads : Reads tokens s

-- A PROJECT THAT IS TAKEN: its header is read, its program is one tree, within the limits, and no more variables are kept than there are
pub record Taken (text : List ℕ) (h : Plan) (s : Stmt) : Type 0 where
  pub parsed : Parsed text h s
  pub fits : Fits (stmt_need s)
  pub low : h.kept ≤ 64

-- the first limit that a program passes: 0 cost, 1 height, 2 depth
abbrev pub Passes : Stmt → ℕ → Type 0
Passes s k = passes_limit (stmt_need s).cost (stmt_need s).height (stmt_need s).depth ≡ Some (3, k)

-- why a header is refused: a word of it does not fit; or all is well but for more kept variables than there are
abbrev pub HeaderRefused : (text : List ℕ) → Refusal → Type 0
HeaderRefused text (BadToken p) = read_project text ≡ Err p
HeaderRefused text (Length i) = (i ≡ 0) × ((h : Plan) × (s : Stmt) × Parsed text h s × Fits (stmt_need s) × (64 < h.kept))
HeaderRefused text (NoProgram p) = ⊥
HeaderRefused text (Limit p) = ⊥
HeaderRefused text (Room p) = ⊥
HeaderRefused text Off = ⊥
HeaderRefused text Time = ⊥
HeaderRefused text Stamp = ⊥
HeaderRefused text (Point p) = ⊥

-- why a program is refused: its text can't be cut, its tokens are no program from a place on, or it passes a limit
abbrev pub ProgramRefused : (text : List ℕ) → Refusal → Type 0
ProgramRefused text (BadToken p) = (h : Plan) × (read_project text ≡ Ok h) × Broken h.program p
ProgramRefused text (NoProgram i) = (h : Plan) × (ts : List Token) × ReadUp text h ts × Placed ts i
ProgramRefused text (Limit k) = (h : Plan) × (s : Stmt) × Parsed text h s × Passes s k
ProgramRefused text (Room p) = ⊥
ProgramRefused text (Length p) = ⊥
ProgramRefused text Off = ⊥
ProgramRefused text Time = ⊥
ProgramRefused text Stamp = ⊥
ProgramRefused text (Point p) = ⊥

-- why a project is not taken
abbrev pub Declined : (text : List ℕ) → Failure → Type 0
Declined text Memory = Unit {0}
Declined text (Header e) = HeaderRefused text e
Declined text (Program e) = ProgramRefused text e
Declined text (Script e) = ⊥

-- a project is ready to run: it is taken, and the code is right for its program
pub record Ready (text : List ℕ) (l : Loaded) : Type 0 where
  pub plan : Plan
  pub program : Stmt
  pub taken : Taken text plan program
  pub same_kept : l.kept ≡ plan.kept
  pub same_inputs : l.inputs ≡ plan.inputs
  pub same_firsts : l.firsts ≡ plan.firsts
  pub compiled : Compiled 64 (meaning program) (vec_items l.code)

-- and its code stays within what that program needs
pub record ReadyWithinNeeds (text : List ℕ) (l : Loaded) : Type 0 where
  pub ready : Ready text l
  pub within : Right (meaning ready.program) (stmt_need ready.program) (code_in (vec_items l.code))

-- a project is loaded, or it is not taken
abbrev pub Loads : (text : List ℕ) → Result Loaded Failure → Type 0
Loads text (Ok l) = Ready text l
Loads text (Err f) = Declined text f

abbrev pub LoadsWithinNeeds : (text : List ℕ) → Result Loaded Failure → Type 0
LoadsWithinNeeds text (Ok l) = ReadyWithinNeeds text l
LoadsWithinNeeds text (Err f) = Declined text f

-- what cutting a program's text answers
abbrev pub CutInto : (text : List ℕ) → Result (Vec ℕ Global) Failure → Type 0
CutInto text (Ok v) = (ts : List Token) × (vec_items v ≡ pairs ts) × CutUp text ts
CutInto text (Err Memory) = Unit {0}
CutInto text (Err (Header e)) = ⊥
CutInto text (Err (Program e)) = (p : ℕ) × (e ≡ BadToken p) × Broken text p
CutInto text (Err (Script e)) = ⊥

-- why tokens are not made into code: where they are no program, and where it passes a limit
abbrev pub Uncoded : List Token → Refusal → Type 0
Uncoded ts (NoProgram i) = Placed ts i
Uncoded ts (Limit k) = (s : Stmt) × Reads ts s × Passes s k
Uncoded ts (BadToken p) = ⊥
Uncoded ts (Room p) = ⊥
Uncoded ts (Length p) = ⊥
Uncoded ts Off = ⊥
Uncoded ts Time = ⊥
Uncoded ts Stamp = ⊥
Uncoded ts (Point p) = ⊥

-- what compiling the tokens of a text answers
abbrev pub CodedFor : (tokens : List ℕ) → Result (Vec ℕ Global) Failure → Type 0
CodedFor xs (Ok v) = (ts : List Token) → xs ≡ pairs ts → (s : Stmt) × Reads ts s × Fits (stmt_need s) × Compiled 64 (meaning s) (vec_items v)
CodedFor xs (Err Memory) = Unit {0}
CodedFor xs (Err (Header e)) = ⊥
CodedFor xs (Err (Program e)) = (text : List ℕ) (ts : List Token) → CutUp text ts → xs ≡ pairs ts → Uncoded ts e
CodedFor xs (Err (Script e)) = ⊥

-- and, where they are, that the code stays within what the program needs
abbrev pub CodedWithinNeeds : (tokens : List ℕ) → Result (Vec ℕ Global) Failure → Type 0
CodedWithinNeeds xs (Ok v) =
    (ts : List Token) → xs ≡ pairs ts → (s : Stmt) × Reads ts s × Fits (stmt_need s) × Compiled 64 (meaning s) (vec_items v) × Right (meaning s) (stmt_need s) (code_in (vec_items v))
CodedWithinNeeds xs (Err f) = Unit {0}
