-- What is printed of a tree reads as the tree.
use Rattle.std.proofs.Common.{◌≡◌, ℕ, suc, ◌<◌, Bool, true, false, ltb, List, refl, append_assoc, arith, ltb-true}
use Rattle.base.specs.declared.Op.{Op}
use Rattle.syntax.specs.Ast.{Expr, lit, var, invert, binary, Stmt}
use Rattle.lexer.specs.declared.Token.{Token}
use Rattle.syntax.specs.Grammar.{strength, ReadsExpr, a_number, a_name, a_not, in_brackets, an_operation, Reads, no_more}
use Rattle.syntax.specs.Grammar as grammar
use Rattle.syntax.specs.Printer.{bracketed, print_expr, print, Program, nothing, PrintsBack}
use Rattle.syntax.specs.Printer as printer
use Rattle.syntax.proofs.Complete.{complete}
use Rattle.syntax.proofs.Levels.{strength_4, raised}

strength_below : (o : Op) → strength o < 5
strength_below o = omega (arith, strength_4 o)

expr_reads : (l : ℕ) (e : Expr) → ReadsExpr l (print_expr l e) e
unfolding print_expr
expr_reads l (lit n) = raised l (a_number n) (omega arith)
expr_reads l (var i) = raised l (a_name i) (omega arith)
expr_reads l (invert e) = raised l (a_not _ e (expr_reads 0 e)) (omega arith)
expr_reads l (binary o a b) = go (ltb (strength o) l) refl (an_operation o _ _ a b (expr_reads (suc (strength o)) a) (expr_reads (strength o) b))
  where
    go : (c : Bool) → ltb (strength o) l ≡ c → {ts : List Token} → ReadsExpr (suc (strength o)) ts (binary o a b) → ReadsExpr l (bracketed c ts) (binary o a b)
    go true q r = raised l r (ltb-true (strength o) l q)
    go false q {ts} r = raised l (in_brackets ts _ (raised 5 r (strength_below o))) (omega arith)

program_reads : {s : Stmt} → Program s → Reads (print s) s
unfolding print
program_reads nothing = no_more
program_reads (printer.an_assign i e s p) = simp append_assoc (grammar.an_assign i _ _ e s (expr_reads 5 e) (program_reads p))
program_reads (printer.a_branch e s t u p q r) = simp append_assoc (grammar.a_branch _ _ _ _ e s t u (expr_reads 5 e) (program_reads p) (program_reads q) (program_reads r))
program_reads (printer.a_repeat n s u p r) = simp append_assoc (grammar.a_repeat n _ _ s u (program_reads p) (program_reads r))
program_reads (printer.a_delay o p n e u r) = simp append_assoc (grammar.a_delay o p n _ _ e u (expr_reads 5 e) (program_reads r))

program : {ts : List Token} {s : Stmt} → Reads ts s → Program s
program no_more = nothing
program (grammar.an_assign i ts us e s re rs) = printer.an_assign i e s (program rs)
program (grammar.a_branch ts xs ys us e s t u re rs rt ru) = printer.a_branch e s t u (program rs) (program rt) (program ru)
program (grammar.a_repeat n xs us s u rs ru) = printer.a_repeat n s u (program rs) (program ru)
program (grammar.a_delay o p n ts us e u re ru) = printer.a_delay o p n e u (program ru)

pub prints_back : PrintsBack
prints_back = record { programs = λ ts s r. program r; exprs = expr_reads; reads = λ s p. program_reads p; parses = λ s p. complete _ s (program_reads p) }
