-- What comes of a program: its code in a lent room, or why there is none. Assumes nothing: these are definitions.
use Rattle.std.specs.Prelude.{◌≡◌, ℕ, ◌+◌, ◌*◌, ◌/◌, ◌<◌, ◌≤◌, List, length, take, IfOk, Some, Ok, Err, Result}
use Rattle.base.specs.declared.Refusal.{Refusal}
use Rattle.base.specs.declared.Refusal.TheVariants.{Token, Program, Limit, Room, Length, Off, Time, Stamp, Point}
use Rattle.base.specs.Rooms.{write}
use Rattle.lexer.specs.Pairs.{tokens_in}
use Rattle.syntax.specs.Ast.{Stmt}
use Rattle.syntax.specs.Grammar.{Reads}
use Rattle.syntax.specs.Theorems.{Placed}
use Rattle.syntax.specs.Shape.{WellShaped, Misshapen}
use Rattle.syntax.specs.Tree.{HoldsStmt}
use Rattle.semantics.specs.Eval.{meaning}
use Rattle.semantics.specs.Limits.{passes_limit}
use Rattle.semantics.specs.Needs.{stmt_need, Fits}
use Rattle.compiler.specs.Code.{words}
use Rattle.compiler.specs.Compile.{compile}
use Rattle.compiler.specs.Right.{Compiled}

-- a program is not made into code: it passes a limit, or, where it passes none, the room is too short
abbrev pub Unfit : Stmt → (room : List ℕ) → Refusal → Type 0
Unfit s room (Limit k) = passes_limit (stmt_need s).cost (stmt_need s).height (stmt_need s).depth ≡ Some (3, k)
Unfit s room (Room k) = Fits (stmt_need s) × (length room < 4 * length (compile s)) × (k ≡ length room)
Unfit s room (Token i) = ⊥
Unfit s room (Program i) = ⊥
Unfit s room (Length i) = ⊥
Unfit s room Off = ⊥
Unfit s room Time = ⊥
Unfit s room Stamp = ⊥
Unfit s room (Point i) = ⊥

-- a program's code is written at the front of the room, all else is as it was, and it is told how many instructions there are
pub record Coded (s : Stmt) (room : List ℕ) (n : ℕ) (room' : List ℕ) : Type 0 where
  pub fits : Fits (stmt_need s)
  pub size : n ≡ length (compile s)
  pub enough : 4 * n ≤ length room
  pub wrote : room' ≡ write room 0 (words (compile s))

-- a program is made into code, or refused, and then the room is as it was
abbrev pub Codes : Stmt → (room : List ℕ) → Result ℕ Refusal → (room' : List ℕ) → Type 0
Codes s room (Ok n) room' = Coded s room n room'
Codes s room (Err e) room' = Unfit s room e × (room' ≡ room)

-- the same of whatever statement a node holds, if it is not too long
abbrev pub CodesNode : (nodes : List ℕ) (i : ℕ) (room : List ℕ) → Result ℕ Refusal → (room' : List ℕ) → Type 0
CodesNode nodes i room r room' = (s : Stmt) → HoldsStmt nodes i s → length (compile s) ≤ 4096 → Codes s room r room'

-- tokens are a program, and its code is written so
pub record Made (signs room : List ℕ) (n : ℕ) (room' : List ℕ) : Type 0 where
  pub shape : WellShaped signs
  pub program : Stmt
  pub reads : Reads (tokens_in signs) program
  pub coded : Coded program room n room'

-- tokens are a program that is not made into code
pub record Unmade (signs room : List ℕ) (e : Refusal) : Type 0 where
  pub shape : WellShaped signs
  pub program : Stmt
  pub reads : Reads (tokens_in signs) program
  pub unfit : Unfit program room e

-- why tokens are not made into code: a pair is no token, they are no program, or the program is not made into code
abbrev pub Refused : (signs room : List ℕ) → Refusal → Type 0
Refused signs room (Token i) = Misshapen signs i
Refused signs room (Program i) = WellShaped signs × Placed (tokens_in signs) i
Refused signs room (Limit k) = Unmade signs room (Limit k)
Refused signs room (Room k) = Unmade signs room (Room k)
Refused signs room (Length i) = ⊥
Refused signs room Off = ⊥
Refused signs room Time = ⊥
Refused signs room Stamp = ⊥
Refused signs room (Point i) = ⊥

-- tokens are made into the code of the program that they are, or refused, and then the room is as it was
abbrev pub Makes : (signs room : List ℕ) → Result ℕ Refusal → (room' : List ℕ) → Type 0
Makes signs room (Ok n) room' = Made signs room n room'
Makes signs room (Err e) room' = Refused signs room e × (room' ≡ room)

-- what was made is right for the program that the tokens are, on a controller of 64 variables
abbrev pub MakesRight : (signs : List ℕ) → Result ℕ Refusal → (room' : List ℕ) → Type 0
MakesRight signs r room' = IfOk r (λ n. (s : Stmt) → Reads (tokens_in signs) s → Compiled 64 (meaning s) (take (4 * n) room'))

-- a room of four numbers for each token, and of four more, is never too short
abbrev pub NeverShort : (signs : List ℕ) → Result ℕ Refusal → Type 0
NeverShort signs r = (k : ℕ) → r ≡ Err (Room k) → k < 4 * (length signs / 2) + 4
