-- What is written for a program is its code, which is right for it within its needs. Assumes nothing.
use Rattle.std.proofs.Common.{◌≡◌, ℕ, ◌*◌, ◌≤◌, List, length, take, sym, ◌∙◌, subst, arith}
use Rattle.syntax.specs.Ast.{Stmt}
use Rattle.semantics.specs.Eval.{meaning}
use Rattle.semantics.specs.Needs.{stmt_need}
use Rattle.compiler.specs.Code.{code_in}
use Rattle.compiler.specs.Compile.{compile}
use Rattle.compiler.specs.Made.{Coded}
use Rattle.compiler.specs.Right.{Right}
use Rattle.compiler.proofs.Decodes.{read_back}
use Rattle.compiler.proofs.Program.{right}

pub coded_within : (s : Stmt) (room room' : List ℕ) (n : ℕ) → Coded s room n room' → Right (meaning s) (stmt_need s) (code_in (take (4 * n) room'))
coded_within s room room' n c =
    let enough : 4 * length (compile s) ≤ length room = omega (arith, c.size, c.enough) in
    let back : code_in (take (4 * n) room') ≡ compile s = (λ j. code_in (take (4 * c.size j) (c.wrote j))) ∙ read_back (compile s) room enough in
    subst (Right (meaning s) (stmt_need s)) (sym back) (right s)
