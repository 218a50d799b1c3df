-- Every derivation is found.
use Rattle.std.proofs.Common.{◌≡◌, ℕ, zero, suc, Bool, cond, List, [], ◌∷◌, ◌++◌, sym, refl, ap, ◌∙◌, subst, arith, le-leb}
use mathlib.Core.Option.{Option, some}
use Rattle.syntax.specs.Ast.{Expr, lit, var, binary, Stmt, skip, assign, seq, branch, repeat, delay}
use Rattle.lexer.specs.declared.Mark.{Mark}
use Rattle.lexer.specs.declared.Token.{Token}
use Rattle.lexer.specs.declared.Token.TheVariants.{Operator as operator}
use Rattle.lexer.specs.Pairs.{code}
use Rattle.lexer.specs.declared.Mark.TheVariants.{Close as close_mark, Semicolon as semicolon, Then as then_word, Comma as comma}
use Rattle.syntax.specs.Grammar.{strength, ReadsExpr, a_number, a_name, a_not, in_brackets, looser, an_operation, Reads, no_more, an_assign, a_branch, a_repeat, a_delay}
use Rattle.syntax.specs.Parser.{Above, Outer, top, then_in, else_in, repeat_in, assign_to, condition_in, delay_in, Pending, whole, right_of, bracket, State, statement, operand, operated, closed, inverts, climb, only, finish, on_else, on_end, begin, prefix, step, at_top, whole_program, start, parse}
use Rattle.syntax.specs.Theorems.{Complete, OneTree}
use Rattle.syntax.proofs.Steps.{Steps, here, more, onward, run_steps, above_less, climb_above, climb_climb, finish_climb}

-- all of level l is joined
abbrev up : ℕ → Pending → Expr → Pending × Expr
up zero p e = (p, e)
up (suc l) p e = climb l p e

climb_up : (l : ℕ) (p : Pending) (e : Expr) → climb l p e ≡ climb l (up l p e).0 (up l p e).1
climb_up zero p e = refl
climb_up (suc l) p e = climb_climb (suc l) l p e (omega arith)

-- only a primary has nots before it
abbrev Okay : ℕ → ℕ → Type 0
Okay zero k = Unit {0}
Okay (suc l) k = k ≡ 0

okay : (l k : ℕ) → k ≡ 0 → Okay l k
okay zero k h = tt
okay (suc l) k h = h

-- the tokens take the automaton from an operand's place to the expression, but for what is to be joined yet
record Goes (l k : ℕ) (p : Pending) (ts : List Token) (e : Expr) : Type 0 where
  rest : Pending
  last : Expr
  steps : Steps (operand k p) ts (operated rest last)
  joins : up l rest last ≡ (p, inverts k e)

finished : {k : ℕ} {p : Pending} {ts : List Token} {e : Expr} → (g : Goes 5 k p ts e) (m : Mark) → finish g.rest g.last m ≡ finish p (inverts k e) m
finished g m = finish_climb 4 g.rest g.last m ∙ ap (λ (c : Pending × Expr). finish c.0 c.1 m) g.joins

expr : {l : ℕ} {ts : List Token} {e : Expr} → ReadsExpr l ts e → (k : ℕ) (p : Pending) → Okay l k → Above p l → Goes l k p ts e
unfolding step prefix inverts only code finish climb
expr (a_number n) k p o h = record { rest = p; last = inverts k (lit n); steps = more refl here; joins = refl }
expr (a_name i) k p o h = record { rest = p; last = inverts k (var i); steps = more refl here; joins = refl }
expr (a_not ts e r) k p o h = let g = expr r (suc k) p tt h in record { rest = g.rest; last = g.last; steps = more refl g.steps; joins = g.joins }
expr (in_brackets ts e r) k p o h =
    let g = expr r 0 (bracket k p) refl tt in
    record { rest = p; last = inverts k e; steps = more refl (onward g.steps (more (finished g close_mark) here)); joins = refl }
expr (looser l ts e r) k p o h =
    let g = expr r k p (okay l k o) (above_less p l h) in
    record {
      rest = g.rest;
      last = g.last;
      steps = g.steps;
      joins = climb_up l g.rest g.last ∙ ap (λ (c : Pending × Expr). climb l c.0 c.1) g.joins ∙ climb_above l p (inverts k e) h;
    }
expr (an_operation o ts us a b ra rb) k p z h =
    let s = strength o in
    let f = expr ra 0 p refl h in
    let g = expr rb 0 (right_of o a p) (okay s 0 refl) (omega arith) in
    subst (λ (j : ℕ). Goes (suc s) j p (ts ++ (operator o ∷ us)) (binary o a b)) (sym z) (record {
      rest = g.rest;
      last = g.last;
      steps = onward f.steps (more (ap {B = Option State} (λ (c : Pending × Expr). some (operand 0 (right_of o c.1 c.0))) f.joins) g.steps);
      joins = climb_up s g.rest g.last ∙ ap (λ (c : Pending × Expr). climb s c.0 c.1) g.joins
          ∙ ap (λ (t : Bool). cond t (climb s p (binary o a b)) (right_of o a p, b)) (le-leb s s (omega arith)) ∙ climb_above s p (binary o a b) h;
    })

-- the statements of a tree, put before those that are there
abbrev items : Stmt → List Stmt → List Stmt
items skip acc = acc
items (seq s t) acc = items t (s ∷ acc)
items (assign i e) acc = acc
items (branch e s t) acc = acc
items (repeat n s) acc = acc
items (delay o p e n) acc = acc

closed_items : {ts : List Token} {s : Stmt} → Reads ts s → (acc : List Stmt) → closed (items s acc) skip ≡ closed acc s
unfolding closed
closed_items no_more acc = refl
closed_items (an_assign i ts us e s re rs) acc = closed_items rs (assign i e ∷ acc)
closed_items (a_branch ts xs ys us e s t u re rs rt ru) acc = closed_items ru (branch e s t ∷ acc)
closed_items (a_repeat n xs us s u rs ru) acc = closed_items ru (repeat n s ∷ acc)
closed_items (a_delay o p n ts us e u re ru) acc = closed_items ru (delay o p e n ∷ acc)

stmts : {ts : List Token} {s : Stmt} → Reads ts s → (acc : List Stmt) (k : Outer) → Steps (statement (acc, k)) ts (statement (items s acc, k))
unfolding step begin only code finish on_else on_end inverts closed
stmts no_more acc k = here
stmts (an_assign i ts us e s re rs) acc k =
    let g = expr re 0 (whole (assign_to i (acc, k))) refl tt in
    more refl (more refl (onward g.steps (more (finished g semicolon) (stmts rs (assign i e ∷ acc) k))))
stmts (a_branch ts xs ys us e s t u re rs rt ru) acc k =
    let g = expr re 0 (whole (condition_in (acc, k))) refl tt in
    more refl (onward g.steps (more (finished g then_word) (onward (stmts rs [] (then_in e acc k))
    (more (ap {B = Option State} (λ (x : Stmt). some (statement ([], else_in e x acc k))) (closed_items rs [])) (onward (stmts rt [] (else_in e s acc k))
    (more (ap {B = Option State} (λ (x : Stmt). some (State.ended (branch e s x) (acc, k))) (closed_items rt [])) (more refl (stmts ru (branch e s t ∷ acc) k))))))))
stmts (a_repeat n xs us s u rs ru) acc k =
    more refl (more refl (more refl (onward (stmts rs [] (repeat_in n acc k))
    (more (ap {B = Option State} (λ (x : Stmt). some (State.ended (repeat n x) (acc, k))) (closed_items rs [])) (more refl (stmts ru (repeat n s ∷ acc) k))))))
stmts (a_delay o p n ts us e u re ru) acc k =
    let g = expr re 0 (whole (delay_in o p (acc, k))) refl tt in
    more refl (more refl (more refl (more refl (more refl (onward g.steps (more (finished g comma) (more refl (more refl (stmts ru (delay o p e n ∷ acc) k)))))))))

pub complete : Complete
unfolding parse start whole_program at_top closed
complete ts s r = run_steps 0 s (stmts r [] top) (ap {B = Option Stmt} some (closed_items r []))

pub one_tree : OneTree
one_tree ts s t r q = let a = complete ts s r in let b = complete ts t q in cc
