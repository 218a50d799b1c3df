-- The code of a program is right for it. Assumes nothing.
use Rattle.std.proofs.Common.{ℕ, [], length, refl, ap, arith}
use Rattle.std.proofs.lemmas.List.{get_or_past}
use Rattle.syntax.specs.Ast.{Stmt}
use Rattle.semantics.specs.Eval.{Values, exec}
use Rattle.semantics.specs.Needs.{stmt_need}
use Rattle.compiler.specs.Instr.{stop}
use Rattle.compiler.specs.Machine.{boot}
use Rattle.compiler.specs.Compile.{compile, CompileRight}
use Rattle.compiler.proofs.Runs.{placed_whole, Runs, arrives, always, land}
use Rattle.compiler.proofs.Correct.{on, stmt_does}

-- from the start of the code to its end
whole : (s : Stmt) (elapsed : ℕ) (r : Values) → Runs elapsed (compile s) (stmt_need s) (stmt_need s).cost (boot r) (on elapsed 0 (compile s) (length (compile s)) [] [] (exec elapsed 0 s r))
whole s elapsed r = land (stmt_does elapsed 0 (compile s) s (stmt_need s) 0 [] [] r (placed_whole (compile s)) (search arith)) (omega arith) refl

-- the code of a program is right for it
pub right : CompileRight
right s =
    record {
      runs = λ elapsed r.
          let (k, le, e) = arrives (whole s elapsed r) in (
            k,
            le,
            record {
              at_end = ap (λ m. m.pc) e;
              no_stack = ap (λ m. m.stack) e;
              no_control = ap (λ m. m.control) e;
              same_store = λ i. ap (λ m. m.vars i) e;
              same_fault = ap (λ m. m.fault) e;
            },
          );
      low = λ elapsed r k. always (whole s elapsed r) (get_or_past (compile s) _ stop (omega arith)) k;
    }
