-- Laws of the language: words stay words, what is not read makes no difference, what is not assigned stays. Assumes nothing: these are statements.
use Rattle.std.specs.Prelude.{◌≡◌, ℕ, ◌+◌, ◌≢◌}
use Rattle.base.specs.Stores.{Store}
use Rattle.syntax.specs.Ast.{Expr, lit, var, invert, binary, Stmt, skip, assign, seq, branch, repeat, delay}
use Rattle.syntax.specs.Names.{Words}
use Rattle.semantics.specs.Eval.{Values, exec, meaning}
use Rattle.controller.specs.Promises.{KeepsWords}

-- a program whose literals are words makes words of words, however much time went by
abbrev pub WordsOfWords : Type 0
WordsOfWords = (s : Stmt) → Words s → KeepsWords (meaning s)

-- an expression does not name the variable i
abbrev pub Unnamed : (i : ℕ) → Expr → Type 0
Unnamed i (lit n) = Unit {0}
Unnamed i (var j) = i ≡ j → ⊥
Unnamed i (invert e) = Unnamed i e
Unnamed i (binary o a b) = Unnamed i a × Unnamed i b

-- no expression of a statement names the variable i, and no delay counts in it; it may be assigned, and be the output of a delay
abbrev pub Unread : (i : ℕ) → Stmt → Type 0
Unread i skip = Unit {0}
Unread i (assign j e) = Unnamed i e
Unread i (seq s t) = Unread i s × Unread i t
Unread i (branch e s t) = Unnamed i e × Unread i s × Unread i t
Unread i (repeat n s) = Unread i s
Unread i (delay out counter e preset) = (i ≢ counter) × Unnamed i e

-- no assignment and no delay sets the variable i
abbrev pub Unassigned : (i : ℕ) → Stmt → Type 0
Unassigned i skip = Unit {0}
Unassigned i (assign j e) = i ≡ j → ⊥
Unassigned i (seq s t) = Unassigned i s × Unassigned i t
Unassigned i (branch e s t) = Unassigned i s × Unassigned i t
Unassigned i (repeat n s) = Unassigned i s
Unassigned i (delay out counter e preset) = (i ≢ out) × (i ≢ counter)

-- two stores agree at every variable but perhaps i
abbrev pub AgreeBut : (i : ℕ) → Store → Store → Type 0
AgreeBut i s t = (j : ℕ) → (j ≢ i) → s j ≡ t j

-- two states agree at every variable but perhaps i, and in the fault
pub record AlikeBut (i : ℕ) (q r : Values) : Type 0 where
  pub stores : AgreeBut i q.store r.store
  pub faults : q.fault ≡ r.fault

-- what no expression names and no delay counts in makes no difference to what the other variables become, and none to the fault
abbrev pub UnreadIsNothing : Type 0
UnreadIsNothing =
    (elapsed base i : ℕ) (s : Stmt) (q r : Values) → Unread i s → AlikeBut (base + i) q r → AlikeBut (base + i) (exec elapsed base s q) (exec elapsed base s r)

-- what is never assigned stays as it was
abbrev pub UnassignedStays : Type 0
UnassignedStays = (elapsed base i : ℕ) (s : Stmt) (r : Values) → Unassigned i s → (exec elapsed base s r).store (base + i) ≡ r.store (base + i)
