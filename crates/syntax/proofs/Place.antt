-- A refusal's place is right: what was read before it goes on to a program.
use Rattle.std.proofs.Common.{◌≡◌, ℕ, suc, ◌+◌, ◌<◌, ◌≤◌, List, [], ◌∷◌, ◌++◌, length, take, drop, sym, refl, ap, ◌∙◌, subst, inl, inr, append_assoc, arith, take-append-drop}
use mathlib.Core.Option.{Option, none, some}
use Rattle.std.proofs.lemmas.List.{take-take}
use Rattle.std.proofs.str.Laws.{order}
use Rattle.syntax.specs.Ast.{Expr, lit, binary, Stmt, skip, assign, delay}
use Rattle.lexer.specs.declared.Mark.{Mark}
use Rattle.lexer.specs.declared.Token.{Token}
use Rattle.lexer.specs.declared.Token.TheVariants.{Number as number, Name as name, Mark as mark}
use Rattle.lexer.specs.Pairs.{code}
use Rattle.lexer.specs.declared.Mark.TheVariants.{Close as close_mark, Assign as assign_mark, Semicolon as semicolon, Comma as comma, Then as then_word, Else as else_word, Times as times_word, End as end_word}
use Rattle.syntax.specs.Parser.{Outer, top, then_in, else_in, repeat_in, Block, assign_to, condition_in, delay_in, Pending, whole, right_of, bracket, State, statement, name_read, repeat_read, rounds_read, delay_read, out_read, out_comma, counter_read, length_next, ended, operand, operated, closed, inverts, only, finish, on_else, on_end, begin, step, at_top, whole_program, start, Parsed, accepted, refused, run, parse}
use Rattle.syntax.specs.Grammar.{Reads}
use Rattle.syntax.specs.Theorems.{Viable, Placed, RightPlace, OnePlace}
use Rattle.syntax.proofs.Steps.{Steps, here, more, onward, run_steps}
use Rattle.syntax.proofs.Complete.{complete}
use Rattle.syntax.proofs.Sound.{sound, never}

-- tokens that end the program from a state
record Ends (s : State) : Type 0 where
  tokens : List Token
  acc : List Stmt
  steps : Steps s tokens (statement (acc, top))

via : {s s' : State} (t : Token) → step s t ≡ some s' → Ends s' → Ends s
via t q e = record { tokens = t ∷ e.tokens; acc = e.acc; steps = more q e.steps }

ends_block : (k : Outer) (acc : List Stmt) → Ends (statement (acc, k))
unfolding step begin on_else on_end only code
ends_block top acc = record { tokens = []; acc = acc; steps = here }
ends_block (then_in e ss k) acc = via (mark else_word) refl (via (mark end_word) refl (via (mark semicolon) refl (ends_block k _)))
ends_block (else_in e s ss k) acc = via (mark end_word) refl (via (mark semicolon) refl (ends_block k _))
ends_block (repeat_in n ss k) acc = via (mark end_word) refl (via (mark semicolon) refl (ends_block k _))

ends_statement : (s : Stmt) (b : Block) → Ends (ended s b)
unfolding step only code
ends_statement s b = via (mark semicolon) refl (ends_block b.1 (s ∷ b.0))

-- a mark ends the operand
record Marked (p : Pending) (e : Expr) : Type 0 where
  first : Mark
  then' : State
  steps : finish p e first ≡ some then'
  ends : Ends then'

ends_operated : (p : Pending) (e : Expr) → Marked p e
unfolding finish only code step
ends_operated (whole (assign_to i b)) e = record { first = semicolon; then' = _; steps = refl; ends = ends_block b.1 (assign i e ∷ b.0) }
ends_operated (whole (condition_in b)) e = record { first = then_word; then' = _; steps = refl; ends = ends_block (then_in e b.0 b.1) [] }
ends_operated (whole (delay_in o p b)) e = record { first = comma; then' = length_next o p e b; steps = refl; ends = via (number 0) refl (ends_statement (delay o p e 0) b) }
ends_operated (bracket k p) e = let m = ends_operated p (inverts k e) in record { first = close_mark; then' = operated p (inverts k e); steps = refl; ends = via (mark m.first) m.steps m.ends }
ends_operated (right_of o a p) e = let m = ends_operated p (binary o a e) in record { first = m.first; then' = m.then'; steps = m.steps; ends = m.ends }

ends_operand : (k : ℕ) (p : Pending) → Ends (operand k p)
unfolding step
ends_operand k p = let m = ends_operated p (inverts k (lit 0)) in via (number 0) refl (via (mark m.first) m.steps m.ends)

ends : (s : State) → Ends s
unfolding step only code
ends (statement b) = ends_block b.1 b.0
ends (name_read i b) = via (mark assign_mark) refl (ends_operand 0 _)
ends (repeat_read b) = via (number 0) refl (via (mark times_word) refl (ends_block _ _))
ends (rounds_read n b) = via (mark times_word) refl (ends_block _ _)
ends (delay_read b) = via (name 0) refl (via (mark comma) refl (via (name 0) refl (via (mark comma) refl (ends_operand 0 _))))
ends (out_read i b) = via (mark comma) refl (via (name 0) refl (via (mark comma) refl (ends_operand 0 _)))
ends (out_comma i b) = via (name 0) refl (via (mark comma) refl (ends_operand 0 _))
ends (counter_read i j b) = via (mark comma) refl (ends_operand 0 _)
ends (length_next i j e b) = via (number 0) refl (ends_statement _ b)
ends (ended s b) = ends_statement s b
ends (operand k p) = ends_operand k p
ends (operated p e) = let m = ends_operated p e in via (mark m.first) m.steps m.ends

viable : (ts : List Token) (s : State) → Steps start ts s → Viable ts
unfolding parse whole_program at_top
viable ts s x = let e = ends s in (e.tokens, closed e.acc skip, sound _ _ (run_steps 0 _ (onward x e.steps) refl))

-- where a run stops
record Fails (j : ℕ) (s : State) (ts : List Token) (i : ℕ) : Type 0 where
  count : ℕ
  place : i ≡ j + count
  within : count ≤ length ts
  last : State
  steps : Steps s (take count ts) last
  stuck : count < length ts → (us : List Token) → run j s (take (suc count) ts ++ us) ≡ refused i

fails : (j : ℕ) (s : State) (ts : List Token) (i : ℕ) → run j s ts ≡ refused i → Fails j s ts i
unfolding run
fails j s [] i q = go (whole_program s) q
  where
    go : (o : Option Stmt) → elim o as (λ _. Parsed) [ some p ↦ accepted p | none ↦ refused j ] ≡ refused i → Fails j s [] i
    go (some r) f = never (sym f)
    go none f = let same : i ≡ j = cc in record { count = 0; place = omega arith; within = omega arith; last = s; steps = here; stuck = λ h us. absurd (omega arith) }
fails j s (t ∷ ts) i q = go (step s t) refl q (λ s' q'. fails (suc j) s' ts i q')
  where
    go : (o : Option State) → step s t ≡ o → elim o as (λ _. Parsed) [ some s' ↦ run (suc j) s' ts | none ↦ refused j ] ≡ refused i →
        ((s' : State) → run (suc j) s' ts ≡ refused i → Fails (suc j) s' ts i) → Fails j s (t ∷ ts) i
    go (some s') e f ih =
        let r = ih s' f in
        record { count = suc r.count; place = omega (arith, r.place); within = omega (arith, r.within); last = r.last; steps = more e r.steps; stuck = λ h us. rw (e, run) (r.stuck (omega arith) us) }
    go none e f ih =
        let same : i ≡ j = cc in
        record { count = 0; place = omega arith; within = omega arith; last = s; steps = here; stuck = λ h us. rw (e, run) f }

pub right_place : RightPlace
unfolding parse
right_place ts i q =
    let f = fails 0 start ts i q in
    let at : f.count ≡ i = omega (arith, f.place) in
    subst (Placed ts) at (record {
      within = f.within;
      before = viable _ _ f.steps;
      after = λ h v. never (sym (f.stuck h v.0) ∙ complete _ _ v.2);
      none = λ s r. never (sym q ∙ complete ts s r);
    })

-- what goes on to a program does so from each front of it
front_viable : (ts : List Token) (i j : ℕ) → suc i ≤ j → Viable (take j ts) → Viable (take (suc i) ts)
front_viable ts i j h v =
    let parts : take (suc i) ts ++ drop (suc i) (take j ts) ≡ take j ts = ap (λ (x : List Token). x ++ drop (suc i) (take j ts)) (sym (take-take (suc i) j ts h)) ∙ take-append-drop (suc i) (take j ts) in
    (drop (suc i) (take j ts) ++ v.0, v.1, subst (λ (x : List Token). Reads x v.1) (sym (ap (λ (x : List Token). x ++ v.0) parts) ∙ append_assoc (take (suc i) ts) (drop (suc i) (take j ts)) v.0) v.2)

pub one_place : OnePlace
one_place ts i j p q =
    elim (order i j) [
      | inl h ↦ absurd (p.after (omega (arith, q.within)) (front_viable ts i j h q.before))
      | inr h ↦ elim (order j i) [ inl k ↦ absurd (q.after (omega (arith, p.within)) (front_viable ts j i k p.before)) | inr k ↦ omega arith ]
    ]
