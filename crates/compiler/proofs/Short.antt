-- A program has no more instructions than tokens. Assumes nothing.
use Rattle.std.proofs.Common.{ℕ, ◌≤◌, List, length, arith, length-append}
use Rattle.lexer.specs.declared.Token.{Token}
use Rattle.syntax.specs.Ast.{Expr, Stmt}
use Rattle.syntax.specs.Grammar.{ReadsExpr, a_number, a_name, a_not, in_brackets, looser, an_operation, Reads, no_more, an_assign, a_branch, a_repeat, a_delay}
use Rattle.compiler.specs.Compile.{compile_expr, compile}
use Rattle.compiler.specs.Size.{ShortCode}

short_expr : {l : ℕ} {ts : List Token} {e : Expr} → ReadsExpr l ts e → length (compile_expr e) ≤ length ts
unfolding compile_expr
short_expr (a_number n) = omega arith
short_expr (a_name i) = omega arith
short_expr (a_not ts e r) = simp length-append (omega (arith, short_expr r))
short_expr (in_brackets ts e r) = simp length-append (omega (arith, short_expr r))
short_expr (looser l ts e r) = short_expr r
short_expr (an_operation o ts us a b r q) = simp length-append (omega (arith, short_expr r, short_expr q))

short : {ts : List Token} {s : Stmt} → Reads ts s → length (compile s) ≤ length ts
unfolding compile
short no_more = omega arith
short (an_assign i ts us e s r q) = simp length-append (omega (arith, short_expr r, short q))
short (a_branch ts xs ys us e s t u r x y q) = simp length-append (omega (arith, short_expr r, short x, short y, short q))
short (a_repeat n xs us s u x q) = simp length-append (omega (arith, short x, short q))
short (a_delay out counter preset ts us e u r q) = simp length-append (omega (arith, short_expr r, short q))

pub short_code : ShortCode
short_code ts s r = short r
