-- Binding strengths, and expressions of several levels.
use Rattle.std.proofs.Common.{ℕ, zero, suc, ◌≤◌, List, subst, inl, inr, arith}
use Rattle.std.proofs.str.Laws.{order}
use Rattle.base.specs.declared.Op.{Op}
use Rattle.lexer.specs.declared.Token.{Token}
use Rattle.syntax.specs.Ast.{Expr}
use Rattle.syntax.specs.Grammar.{strength, ReadsExpr, looser}

pub strength_4 : (o : Op) → strength o ≤ 4
unfolding strength
strength_4 o = grind arith

-- an expression of a level is one of each level above it
pub raised : {l : ℕ} {ts : List Token} {e : Expr} (m : ℕ) → ReadsExpr l ts e → l ≤ m → ReadsExpr m ts e
raised {l} {ts} {e} zero r h = subst (λ (k : ℕ). ReadsExpr k ts e) (omega arith) r
raised {l} {ts} {e} (suc m) r h = elim (order m l) [ inl k ↦ subst (λ (k : ℕ). ReadsExpr k ts e) (omega arith) r | inr k ↦ looser m ts e (raised m r k) ]
