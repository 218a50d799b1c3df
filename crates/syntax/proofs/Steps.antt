-- Several steps of the automaton, and how its stack is climbed.
use Rattle.std.proofs.Common.{◌≡◌, ℕ, suc, ◌≤◌, Bool, true, false, cond, leb, List, [], ◌∷◌, ◌++◌, refl, arith, le-leb, leb-false, leb-true}
use mathlib.Core.Option.{some}
use borrow.Author.Tests.{lt-leb}
use Rattle.syntax.specs.Ast.{Expr, binary, Stmt}
use Rattle.lexer.specs.declared.Mark.{Mark}
use Rattle.lexer.specs.declared.Token.{Token}
use Rattle.syntax.specs.Grammar.{strength}
use Rattle.syntax.specs.Parser.{Above, Pending, whole, right_of, bracket, State, climb, finish, step, whole_program, accepted, run}

pub data Steps : State → List Token → State → Type 0 where
  here : {s : State} → Steps s [] s
  more : {s s' s'' : State} {t : Token} {ts : List Token} → step s t ≡ some s' → Steps s' ts s'' → Steps s (t ∷ ts) s''

pub onward : {s s' s'' : State} {ts us : List Token} → Steps s ts s' → Steps s' us s'' → Steps s (ts ++ us) s''
onward here y = y
onward (more e x) y = more e (onward x y)

pub run_steps : {s s' : State} {ts : List Token} (i : ℕ) (p : Stmt) → Steps s ts s' → whole_program s' ≡ some p → run i s ts ≡ accepted p
unfolding run
run_steps i p here w = rw (w, run)
run_steps i p (more e x) w = rw (e, run) (run_steps (suc i) p x w)

pub above_less : (p : Pending) (l : ℕ) → Above p (suc l) → Above p l
above_less (whole g) l h = tt
above_less (bracket k p) l h = tt
above_less (right_of o a p) l h = omega arith

pub climb_above : (l : ℕ) (p : Pending) (e : Expr) → Above p (suc l) → climb l p e ≡ (p, e)
unfolding climb
climb_above l (whole g) e h = refl
climb_above l (bracket k p) e h = refl
climb_above l (right_of o a p) e h = rw (lt-leb (strength o) l h)

pub climb_climb : (l m : ℕ) (p : Pending) (e : Expr) → m ≤ l → climb l p e ≡ climb l (climb m p e).0 (climb m p e).1
unfolding climb
climb_climb l m (whole g) e h = refl
climb_climb l m (bracket k p) e h = refl
climb_climb l m (right_of o a p) e h = go (leb (strength o) m) refl (climb_climb l m p (binary o a e) h)
  where
    go : (b : Bool) → leb (strength o) m ≡ b → climb l p (binary o a e) ≡ climb l (climb m p (binary o a e)).0 (climb m p (binary o a e)).1 →
        climb l (right_of o a p) e ≡ climb l (cond b (climb m p (binary o a e)) (right_of o a p, e)).0 (cond b (climb m p (binary o a e)) (right_of o a p, e)).1
    go true q ih = rw (le-leb (strength o) l (omega (arith, leb-true (strength o) m q))) ih
    go false q ih = refl

pub finish_climb : (l : ℕ) (p : Pending) (e : Expr) (m : Mark) → finish p e m ≡ finish (climb l p e).0 (climb l p e).1 m
unfolding climb finish
finish_climb l (whole g) e m = refl
finish_climb l (bracket k p) e m = refl
finish_climb l (right_of o a p) e m = go (leb (strength o) l) (finish_climb l p (binary o a e) m)
  where
    go : (b : Bool) → finish p (binary o a e) m ≡ finish (climb l p (binary o a e)).0 (climb l p (binary o a e)).1 m →
        finish p (binary o a e) m ≡ finish (cond b (climb l p (binary o a e)) (right_of o a p, e)).0 (cond b (climb l p (binary o a e)) (right_of o a p, e)).1 m
    go true ih = ih
    go false ih = refl

pub climb_stops : (l : ℕ) (p : Pending) (e : Expr) → Above (climb l p e).0 (suc l)
unfolding climb
climb_stops l (whole g) e = tt
climb_stops l (bracket k p) e = tt
climb_stops l (right_of o a p) e = go (leb (strength o) l) refl (climb_stops l p (binary o a e))
  where
    go : (b : Bool) → leb (strength o) l ≡ b → Above (climb l p (binary o a e)).0 (suc l) → Above (cond b (climb l p (binary o a e)) (right_of o a p, e)).0 (suc l)
    go true q ih = ih
    go false q ih = leb-false (strength o) l q
