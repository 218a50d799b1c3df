use Rattle.compiler.proofs.draft.Draft.+put_stmt.Given as goal

abbrev pub decreases-put_stmt : goal.decreases-put_stmt
decreases-put_stmt l = l.i
