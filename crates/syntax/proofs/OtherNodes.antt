-- What is known of a node by what it is not.
use Rattle.std.proofs.Common.{◌≡◌, ℕ, List, refl}
use Rattle.syntax.specs.Ast.{Stmt, skip}
use Rattle.syntax.specs.Node.{IsStmt}
use Rattle.syntax.specs.declared.node.Node.{Node}
use Rattle.syntax.specs.declared.node.Node.TheVariants.{Literal, Variable, Not, Binary, Skip, Assign, Seq, Branch, Repeat, Delay, Setting, Broken}

-- a node that is none of the statements with parts holds a skip, if it holds a statement
pub only_skip : (m : List ℕ) (r : Node) → ((v x : ℕ) → r ≡ Assign v x → ⊥) → ((x y : ℕ) → r ≡ Seq x y → ⊥) → ((x y z : ℕ) → r ≡ Branch x y z → ⊥) → ((n x : ℕ) → r ≡ Repeat n x → ⊥) → ((a b x : ℕ) → r ≡ Delay a b x → ⊥) →
    (s : Stmt) → IsStmt m r s → s ≡ skip
only_skip m (Literal n) a b c d e s h = absurd h
only_skip m (Variable n) a b c d e s h = absurd h
only_skip m (Not x) a b c d e s h = absurd h
only_skip m (Binary o x y) a b c d e s h = absurd h
only_skip m Skip a b c d e s h = h
only_skip m (Assign v x) a b c d e s h = absurd (a v x refl)
only_skip m (Seq x y) a b c d e s h = absurd (b x y refl)
only_skip m (Branch x y z) a b c d e s h = absurd (c x y z refl)
only_skip m (Repeat n x) a b c d e s h = absurd (d n x refl)
only_skip m (Delay o p x) a b c d e s h = absurd (e o p x refl)
only_skip m (Setting x n) a b c d e s h = absurd h
only_skip m Broken a b c d e s h = absurd h
