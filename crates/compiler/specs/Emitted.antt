-- Code that is made one part after another. Assumes nothing: these are definitions.
use Rattle.std.specs.Prelude.{◌≡◌, ℕ, ◌+◌, ◌*◌, ◌<◌, ◌≤◌, List, [], ◌∷◌, ◌++◌, length, Ok, Err, Result}
use Rattle.base.specs.declared.Refusal.{Refusal}
use Rattle.base.specs.declared.Refusal.TheVariants.{Room}
use Rattle.base.specs.Rooms.{write}
use Rattle.syntax.specs.Ast.{Expr, Stmt}
use Rattle.syntax.specs.Tree.{Holds, HoldsSetting, HoldsStmt}
use Rattle.compiler.specs.Instr.{Instr, tick}
use Rattle.compiler.specs.Code.{words}
use Rattle.compiler.specs.Compile.{compile_expr, compile}

-- code is added, where there is room for it among 4,096 instructions
pub record Appends (c before after : List Instr) : Type 0 where
  pub added : length before + length c ≤ 4096 → after ≡ before ++ c

-- code is written at the front of a room, and all else is as it was; where the room is too short, so is all of it
abbrev pub Copies : (c : List Instr) (room : List ℕ) → Result ℕ Refusal → (room' : List ℕ) → Type 0
Copies c room (Ok n) room' = (4 * length c ≤ length room) × (n ≡ length c) × (room' ≡ write room 0 (words c))
Copies c room (Err e) room' = (length room < 4 * length c) × (e ≡ Room (length room)) × (room' ≡ room)

-- the code of whatever expression a node holds is added
abbrev pub EmitsExpr : (t : List ℕ) (n : ℕ) (before after : List Instr) → Type 0
EmitsExpr t n before after = (e : Expr) → Holds t n e → Appends (compile_expr e) before after

-- the code of whatever delay a node holds the condition and length of is added
abbrev pub EmitsDelay : (t : List ℕ) (n out counter : ℕ) (before after : List Instr) → Type 0
EmitsDelay t n out counter before after = (e : Expr) (preset : ℕ) → HoldsSetting t n e preset → Appends (compile_expr e ++ tick out counter preset ∷ []) before after

-- the code of whatever statement a node holds is added
abbrev pub Emits : (t : List ℕ) (n : ℕ) (before after : List Instr) → Type 0
Emits t n before after = (s : Stmt) → HoldsStmt t n s → Appends (compile s) before after
