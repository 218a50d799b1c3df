-- Code that was made elsewhere and copied is written as it should be. Assumes nothing.
use Rattle.std.proofs.Common.{refl, ◌≡◌, ℕ, ◌*◌, ◌<◌, ◌≤◌, List, length, take, Ok, Err, Result, sym, ap, ◌∙◌, subst, arith}
use Rattle.base.specs.declared.Refusal.{Refusal}
use Rattle.base.specs.Rooms.{write}
use Rattle.syntax.specs.Ast.{Stmt}
use Rattle.semantics.specs.Eval.{meaning}
use Rattle.semantics.specs.Needs.{stmt_need, Fits}
use Rattle.compiler.specs.Instr.{Instr}
use Rattle.compiler.specs.Code.{words}
use Rattle.compiler.specs.Right.{Compiled}
use Rattle.compiler.specs.Compile.{compile}
use Rattle.compiler.specs.Emitted.{Copies}
use Rattle.compiler.specs.Made.{Unfit, Coded, Codes}
use Rattle.compiler.proofs.Within.{coded_within}

-- the code of a program, copied to a room
pub codes_copied : (s : Stmt) (c : List Instr) (room room' : List ℕ) (r : Result ℕ Refusal) → Fits (stmt_need s) → c ≡ compile s → Copies c room r room' → Codes s room r room'
codes_copied s c room room' (Ok k) f e q = record { fits = f; size = q.1 ∙ ap length e; enough = omega (arith, q.0, q.1); wrote = q.2 ∙ ap (λ l. write room 0 (words l)) e }
codes_copied s c room room' (Err x) f e q =
    let low : length room < 4 * length (compile s) = omega (arith, q.0, ap length e) in
    (subst (Unfit s room) (sym q.1) (f, low, refl), q.2)

-- a controller of so many variables may run what was written
pub coded_right : (size : ℕ) (s : Stmt) (room room' : List ℕ) (n : ℕ) → (stmt_need s).reach ≤ size → Coded s room n room' → Compiled size (meaning s) (take (4 * n) room')
coded_right size s room room' n near c = record { needs = stmt_need s; right = coded_within s room room' n c; fits = c.fits; near = near }
