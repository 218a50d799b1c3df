use Rattle.compiler.proofs.draft.Draft.+put_expr.Given as goal

abbrev pub decreases-put_expr : goal.decreases-put_expr
decreases-put_expr l = l.i
