-- What is written of a tree that is held in nodes. Assumes nothing: these are definitions.
use Rattle.std.specs.Prelude.{◌≡◌, ℕ, ◌+◌, ◌*◌, ◌<◌, ◌≤◌, min, List, [], ◌∷◌, ◌++◌, length, None, Result, nat_le}
use Rattle.base.specs.declared.Refusal.{Refusal}
use Rattle.base.specs.Refusals.{unless, Answered}
use Rattle.base.specs.Rooms.{write}
use Rattle.lexer.specs.declared.Mark.TheVariants.{Semicolon as semicolon, Comma as comma}
use Rattle.lexer.specs.declared.Token.{Token}
use Rattle.lexer.specs.declared.Token.TheVariants.{Number as number, Mark as mark}
use Rattle.lexer.specs.Pairs.{pairs}
use Rattle.syntax.specs.Ast.{Expr, Stmt}
use Rattle.syntax.specs.Printer.{print_expr, print}
use Rattle.syntax.specs.Tree.{Holds, HoldsSetting, HoldsStmt}
use Rattle.printer.specs.declared.writer.Writer.{Writer}

-- a writer goes on in the same room
abbrev pub SameRoom : (w w' : Writer) → Type 0
SameRoom w w' = w'.room.ghost_name ≡ w.room.ghost_name

-- tokens are counted, up to 65,536; where there is room for them, they are written after those that were counted before, and all else is as it was
pub record Puts (ts : List Token) (w w' : Writer) : Type 0 where
  pub counts : min w'.count 65536 ≡ min (w.count + length ts) 65536
  pub wrote : w.count + length ts < 65536 → 2 * (w.count + length ts) ≤ length w.room.now → w'.room.now ≡ write w.room.now (2 * w.count) (pairs ts)

-- the tokens of whatever expression, or statement, a node holds
abbrev pub PutsExpr : (m : List ℕ) (i l : ℕ) (w w' : Writer) → Type 0
PutsExpr m i l w w' = (e : Expr) → Holds m i e → Puts (print_expr l e) w w'

abbrev pub PutsStmt : (m : List ℕ) (i : ℕ) (w w' : Writer) → Type 0
PutsStmt m i w w' = (s : Stmt) → HoldsStmt m i s → Puts (print s) w w'

-- a delay's condition and length, and what ends it
abbrev pub PutsSetting : (m : List ℕ) (i : ℕ) (w w' : Writer) → Type 0
PutsSetting m i w w' = (e : Expr) (n : ℕ) → HoldsSetting m i e n → Puts (print_expr 5 e ++ (mark comma ∷ (number n ∷ (mark semicolon ∷ [])))) w w'

-- a number says how many tokens the program that the node holds is printed as
abbrev pub SizedStmt : (m : List ℕ) (i r : ℕ) → Type 0
SizedStmt m i r = (s : Stmt) → HoldsStmt m i s → r ≡ length (print s)

-- the program that the node holds is printed at the room's start, and counted; or the room is too short for it, and is as it was
abbrev pub Prints : (m : List ℕ) (i : ℕ) (room : List ℕ) → Result ℕ Refusal → (room' : List ℕ) → Type 0
Prints m i room r room' = (s : Stmt) → HoldsStmt m i s →
    Answered r (unless (nat_le (2 * length (print s)) (length room)) 5 1 None) (λ n. (n ≡ length (print s)) × (room' ≡ write room 0 (pairs (print s)))) (room' ≡ room)
