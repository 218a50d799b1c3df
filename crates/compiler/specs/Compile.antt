-- The code of a program. Assumes nothing: these are definitions.
use Rattle.std.specs.Prelude.{suc, List, [], ◌∷◌, ◌++◌, length}
use Rattle.syntax.specs.Ast.{Expr, lit, var, Stmt, skip, assign, seq, branch, repeat, delay}
use Rattle.semantics.specs.Eval.{meaning}
use Rattle.semantics.specs.Needs.{stmt_need}
use Rattle.compiler.specs.Instr.{Instr, push, load, jump, jump_if_zero, enter, back, tick}
use Rattle.compiler.specs.Right.{Right}

-- an expression's code leaves its value on the stack
unfoldable pub compile_expr : Expr → List Instr
compile_expr (lit n) = push n ∷ []
compile_expr (var i) = load i ∷ []
compile_expr (Expr.invert e) = compile_expr e ++ Instr.invert ∷ []
compile_expr (Expr.binary o a b) = compile_expr a ++ (compile_expr b ++ Instr.binary o ∷ [])

-- a statement's code
unfoldable pub compile : Stmt → List Instr
compile skip = []
compile (assign i e) = compile_expr e ++ Instr.store i ∷ []
compile (seq s t) = compile s ++ compile t
compile (branch e s t) =
    compile_expr e ++ (jump_if_zero (suc (length (compile s))) ∷ (compile s ++ (jump (length (compile t)) ∷ compile t)))
compile (repeat n s) = enter n (suc (length (compile s))) ∷ (compile s ++ back (suc (length (compile s))) ∷ [])
compile (delay out counter e preset) = compile_expr e ++ tick out counter preset ∷ []

-- every program has code that is right for it
abbrev pub CompileRight : Type 0
CompileRight = (s : Stmt) → Right (meaning s) (stmt_need s) (compile s)
