-- What `reprint` answers. Assumes nothing: these are definitions.
use Rattle.std.specs.Prelude.{◌≡◌, ℕ, ◌*◌, ◌<◌, ◌≤◌, List, length, Ok, Err, Result}
use Rattle.base.specs.Rooms.{write}
use Rattle.lexer.specs.declared.Token as tokens
use Rattle.base.specs.declared.Refusal.{Refusal}
use Rattle.base.specs.declared.Refusal.TheVariants.{Token, Program, Limit, Room, Length, Off, Time, Stamp, Point}
use Rattle.lexer.specs.Pairs.{tokens_in, pairs}
use Rattle.syntax.specs.Ast.{Stmt}
use Rattle.syntax.specs.Grammar.{Reads}
use Rattle.syntax.specs.Theorems.{Placed}
use Rattle.syntax.specs.Shape.{WellShaped, Misshapen}

-- the one shortest text of a program
pub record ShortestText (ts : List tokens.Token) (s : Stmt) : Type 0 where
  pub reads : Reads ts s
  pub shortest : (us : List tokens.Token) → Reads us s → length ts ≤ length us
  pub only : (us : List tokens.Token) → Reads us s → length us ≤ length ts → us ≡ ts

-- the pairs xs are a program, and its shortest text stands at the room's start, with n tokens
pub record Reprinted (xs room : List ℕ) (n : ℕ) (room' : List ℕ) : Type 0 where
  pub shape : WellShaped xs
  pub program : Stmt
  pub text : List tokens.Token
  pub reads : Reads (tokens_in xs) program
  pub shortest : ShortestText text program
  pub count : n ≡ length text
  pub fits : 2 * n ≤ length room
  pub after : room' ≡ write room 0 (pairs text)

-- the room is too short for that
pub record TooShort (xs room : List ℕ) : Type 0 where
  pub shape : WellShaped xs
  pub program : Stmt
  pub text : List tokens.Token
  pub reads : Reads (tokens_in xs) program
  pub shortest : ShortestText text program
  pub short : length room < 2 * length text

-- the program is written again; or why it is not, and then the room is as it was
abbrev pub Reprints : (xs room : List ℕ) → Result ℕ Refusal → (room' : List ℕ) → Type 0
Reprints xs room (Ok n) room' = Reprinted xs room n room'
Reprints xs room (Err (Token i)) room' = Misshapen xs i × (room' ≡ room)
Reprints xs room (Err (Program i)) room' = (WellShaped xs × Placed (tokens_in xs) i) × (room' ≡ room)
Reprints xs room (Err (Limit i)) room' = ⊥
Reprints xs room (Err (Room i)) room' = ⊥
Reprints xs room (Err (Length i)) room' = (i ≡ 1) × TooShort xs room × (room' ≡ room)
Reprints xs room (Err Off) room' = ⊥
Reprints xs room (Err Time) room' = ⊥
Reprints xs room (Err Stamp) room' = ⊥
Reprints xs room (Err (Point i)) room' = ⊥
