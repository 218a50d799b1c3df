-- What is promised of the language. Assumes nothing: these are statements.
use Rattle.std.specs.Prelude.{◌≡◌, ℕ, ◌<◌}
use Rattle.syntax.specs.Ast.{Stmt}
use Rattle.semantics.specs.Eval.{Values, exec}

-- the first fault stays
abbrev pub FirstStays : Type 0
FirstStays = (elapsed o : ℕ) (s : Stmt) (r : Values) → 0 < r.fault → (exec elapsed o s r).fault ≡ r.fault

-- a fault changes nothing in what is done
abbrev pub GoesOn : Type 0
GoesOn =
    (elapsed o : ℕ) (s : Stmt) (q r : Values) → ((i : ℕ) → q.store i ≡ r.store i) →
    (i : ℕ) → (exec elapsed o s q).store i ≡ (exec elapsed o s r).store i
