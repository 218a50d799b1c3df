-- What the parser accepts has a derivation: each state of the automaton says what has been read.
use Rattle.std.proofs.Common.{◌≡◌, ℕ, suc, ◌≤◌, Bool, true, false, cond, eqb, leb, List, [], ◌∷◌, ◌++◌, sym, refl, ap, ◌∙◌, subst, append_assoc, append-nil, zero-le, arith, eqb-true, leb-false, leb-true}
use mathlib.Core.Option.{Option, none, some, none-ne-some, some-injective}
use Rattle.base.specs.declared.Op.{Op}
use Rattle.syntax.specs.Ast.{Expr, lit, var, binary, Stmt, skip, assign, delay}
use Rattle.lexer.specs.declared.Mark.{Mark}
use Rattle.lexer.specs.declared.Token.{Token}
use Rattle.lexer.specs.declared.Token.TheVariants.{Number as number, Name as name, Operator as operator, Mark as mark}
use Rattle.lexer.specs.Pairs.{code, mark_of}
use Rattle.lexer.specs.declared.Mark.TheVariants.{Not as not_word, Open as open_mark, Close as close_mark, Assign as assign_mark, Semicolon as semicolon, Comma as comma, If as if_word, Then as then_word, Else as else_word, Repeat as repeat_word, Times as times_word, Delay as delay_word, End as end_word}
use Rattle.syntax.specs.Grammar.{strength, ReadsExpr, a_number, a_name, in_brackets, an_operation, Reads, no_more, an_assign, a_branch, a_repeat, a_delay}
use Rattle.syntax.specs.Parser.{Above, Outer, top, then_in, else_in, repeat_in, Block, assign_to, condition_in, delay_in, Pending, whole, right_of, bracket, State, statement, name_read, repeat_read, rounds_read, delay_read, out_read, out_comma, counter_read, length_next, ended, operand, operated, closed, inverts, climb, only, finish, on_else, on_end, begin, prefix, step, at_top, whole_program, start, Parsed, accepted, refused, run, parse}
use Rattle.syntax.specs.Theorems.{Sound}
use Rattle.lexer.proofs.PairLaws.{mark_of_code}
use Rattle.syntax.proofs.Texts.{One, ThenOpen, InBlock, After, after, begins, pushed, opened_then, opened_repeat, nots, nots_more, inverted, Operated, Text}
use Rattle.syntax.proofs.Levels.{strength_4, raised}

-- what a step that was taken tells
got : {s s' : State} (P : State → Type 0) → P s → some s ≡ some s' → P s'
got {s} {s'} P x e = subst P (some-injective s s' e) x

lost : {s : State} {X : Type 0} → ◌≡◌ {A = Option State} none (some s) → X
lost {s} e = absurd (none-ne-some s e)

got_only : {s s' : State} (m m' : Mark) (P : Mark → State → Type 0) → P m s → only m m' s ≡ some s' → P m' s'
unfolding only
got_only {s} {s'} m m' P x e = go (eqb (code m) (code m')) refl e
  where
    go : (b : Bool) → eqb (code m) (code m') ≡ b → cond b (some s) none ≡ some s' → P m' s'
    go true q f = subst (λ (n : Mark). P n s') (sym (mark_of_code m) ∙ ap mark_of (eqb-true (code m) (code m') q) ∙ mark_of_code m') (got (P m) x f)
    go false q f = lost f

above_0 : (p : Pending) → Above p 0
above_0 (whole g) = tt
above_0 (bracket k p) = tt
above_0 (right_of o a p) = zero-le

operand_read : (k : ℕ) (p : Pending) {ts : List Token} (xs : List Token) (e : Expr) → Text (operand k p) ts → ReadsExpr 0 xs e → Operated 0 p (inverts k e) (ts ++ xs)
operand_read k p xs e w r = record { front = w.0; back = nots k ++ xs; parts = ap (λ x. x ++ xs) w.1 ∙ append_assoc w.0 (nots k) xs; waits = w.2; reads = inverted k xs e r; above = above_0 p }

-- a left operand, its operator and a right operand
joined : {l : ℕ} {o : Op} {a e : Expr} {p : Pending} {ts : List Token} → Operated l (right_of o a p) e ts → Operated (suc (strength o)) p (binary o a e) ts
joined {l} {o} {a} {e} {p} {ts} w =
    let v = w.waits in
    record {
      front = v.0;
      back = v.1 ++ (operator o ∷ w.back);
      parts = w.parts ∙ ap (λ x. x ++ w.back) v.2 ∙ simp append_assoc;
      waits = v.3;
      reads = an_operation o v.1 w.back a e v.4 (raised (strength o) w.reads w.above);
      above = v.5;
    }

climbed : (m : ℕ) (p : Pending) {l : ℕ} {e : Expr} {ts : List Token} → Operated l p e ts → l ≤ suc m → Operated (suc m) (climb m p e).0 (climb m p e).1 ts
unfolding climb
climbed m (whole g) w h = record { front = w.front; back = w.back; parts = w.parts; waits = w.waits; reads = raised (suc m) w.reads h; above = tt }
climbed m (bracket k p) w h = record { front = w.front; back = w.back; parts = w.parts; waits = w.waits; reads = raised (suc m) w.reads h; above = tt }
climbed m (right_of o a p) {l} {e} {ts} w h = go (leb (strength o) m) refl (λ q. climbed m p (joined w) q)
  where
    go : (b : Bool) → leb (strength o) m ≡ b → (suc (strength o) ≤ suc m → Operated (suc m) (climb m p (binary o a e)).0 (climb m p (binary o a e)).1 ts) →
        Operated (suc m) (cond b (climb m p (binary o a e)) (right_of o a p, e)).0 (cond b (climb m p (binary o a e)) (right_of o a p, e)).1 ts
    go true q ih = ih (omega (arith, leb-true (strength o) m q))
    go false q ih = record { front = w.front; back = w.back; parts = w.parts; waits = w.waits; reads = raised (suc m) w.reads h; above = leb-false (strength o) m q }

-- the one statement that an expression ends
assigned : (i : ℕ) (e : Expr) (ts : List Token) → ReadsExpr 5 ts e → One (assign i e) (name i ∷ (mark assign_mark ∷ (ts ++ (mark semicolon ∷ []))))
assigned i e ts r us t q = rw append_assoc (an_assign i ts us e t r q)

if_opened : (e : Expr) (ts : List Token) → ReadsExpr 5 ts e → ThenOpen e (mark if_word ∷ (ts ++ (mark then_word ∷ [])))
if_opened e ts r ys s q zs t q' us u q'' = simp append_assoc (a_branch ts ys zs us e s t u r q q' q'')

delayed : (o p : ℕ) (e : Expr) (ts : List Token) → ReadsExpr 5 ts e → (n : ℕ) → One (delay o p e n) ((mark delay_word ∷ (name o ∷ (mark comma ∷ (name p ∷ (mark comma ∷ (ts ++ (mark comma ∷ []))))))) ++ (number n ∷ (mark semicolon ∷ [])))
delayed o p e ts r n us t q = simp append_assoc (a_delay o p n ts us e t r q)

-- an expression after what it is for, and a mark
goal_read : {F G : List Token → Type 0} {b : Block} {ts : List Token} (zs back : List Token) → ((xs : List Token) → F xs → G (xs ++ (back ++ zs))) → (front : List Token) → ts ≡ front ++ back → After b F front → After b G (ts ++ zs)
goal_read {F} {G} {b} {ts} zs back f front parts a =
    subst (After b G) (sym (ap (λ x. x ++ zs) parts ∙ append_assoc front back zs)) (after (back ++ zs) f a)

finished : (p : Pending) {l : ℕ} {e : Expr} {ts : List Token} (m : Mark) {s : State} → Operated l p e ts → l ≤ 5 → finish p e m ≡ some s → Text s (ts ++ (mark m ∷ []))
unfolding finish
finished (whole (assign_to i b)) {l} {e} {ts} m w h q =
    got_only semicolon m (λ n s. Text s (ts ++ (mark n ∷ [])))
    (pushed (assign i e) (goal_read (mark semicolon ∷ []) w.back (λ xs f. rw f (assigned i e w.back (raised 5 w.reads h))) w.front w.parts w.waits)) q
finished (whole (condition_in b)) {l} {e} {ts} m w h q =
    got_only then_word m (λ n s. Text s (ts ++ (mark n ∷ [])))
    (opened_then (goal_read (mark then_word ∷ []) w.back (λ xs f. rw f (if_opened e w.back (raised 5 w.reads h))) w.front w.parts w.waits)) q
finished (whole (delay_in o p b)) {l} {e} {ts} m w h q =
    got_only comma m (λ n s. Text s (ts ++ (mark n ∷ [])))
    (goal_read (mark comma ∷ []) w.back (λ xs f. rw f (delayed o p e w.back (raised 5 w.reads h))) w.front w.parts w.waits) q
finished (bracket k p) {l} {e} {ts} m w h q =
    got_only close_mark m (λ n s. Text s (ts ++ (mark n ∷ [])))
    (let v = w.waits in
    record {
      front = v.0;
      back = nots k ++ (mark open_mark ∷ (w.back ++ (mark close_mark ∷ [])));
      parts = ap (λ x. x ++ (mark close_mark ∷ [])) (w.parts ∙ ap (λ x. x ++ w.back) v.1) ∙ simp append_assoc;
      waits = v.2;
      reads = inverted k _ e (in_brackets w.back e (raised 5 w.reads h));
      above = above_0 p;
    }) q
finished (right_of o a p) {l} {e} {ts} m w h q = finished p m (joined w) (omega (arith, strength_4 o)) q

-- else and end
else_read : (ss : List Stmt) (k : Outer) (ts : List Token) (s : State) → InBlock (ss, k) ts → on_else ss k ≡ some s → Text s (ts ++ (mark else_word ∷ []))
unfolding on_else closed
else_read ss top ts s b q = lost q
else_read ss (then_in e acc k) ts s b q =
    got (λ s. Text s (ts ++ (mark else_word ∷ [])))
    (let a = b.around in
    record {
      outer = ts ++ (mark else_word ∷ []);
      inner = [];
      parts = sym (append-nil _);
      around = (
        a.0,
        a.1,
        a.2 ++ (b.inner ++ (mark else_word ∷ [])),
        ap (λ x. x ++ (mark else_word ∷ [])) (b.parts ∙ ap (λ x. x ++ b.inner) a.3) ∙ simp append_assoc,
        a.4,
        a.5,
        λ zs t r us u r'.
            let whole = a.6 b.inner (closed ss skip) (rw append-nil at (b.row [] skip no_more)) zs t r us u r' in
            simp append_assoc (simp append_assoc at whole),
      );
      row = λ us t r. r;
    }) q
else_read ss (else_in e t acc k) ts s b q = lost q
else_read ss (repeat_in n acc k) ts s b q = lost q

end_read : (ss : List Stmt) (k : Outer) (ts : List Token) (s : State) → InBlock (ss, k) ts → on_end ss k ≡ some s → Text s (ts ++ (mark end_word ∷ []))
unfolding on_end closed
end_read ss top ts s b q = lost q
end_read ss (then_in e acc k) ts s b q = lost q
end_read ss (else_in e t acc k) ts s b q =
    got (λ s. Text s (ts ++ (mark end_word ∷ [])))
    (let a = b.around in
    record {
      front = a.0 ++ a.1;
      back = a.2 ++ (b.inner ++ (mark end_word ∷ []));
      parts = ap (λ x. x ++ (mark end_word ∷ [])) (b.parts ∙ ap (λ x. x ++ b.inner) a.3) ∙ simp append_assoc;
      block = record { outer = a.0; inner = a.1; parts = refl; around = a.4; row = a.5 };
      found = λ us u r.
          let whole = a.6 b.inner (closed ss skip) (rw append-nil at (b.row [] skip no_more)) us u r in
          simp append_assoc (simp append_assoc at whole);
    }) q
end_read ss (repeat_in n acc k) ts s b q =
    got (λ s. Text s (ts ++ (mark end_word ∷ [])))
    (let a = b.around in
    record {
      front = a.0 ++ a.1;
      back = a.2 ++ (b.inner ++ (mark end_word ∷ []));
      parts = ap (λ x. x ++ (mark end_word ∷ [])) (b.parts ∙ ap (λ x. x ++ b.inner) a.3) ∙ simp append_assoc;
      block = record { outer = a.0; inner = a.1; parts = refl; around = a.4; row = a.5 };
      found = λ us u r.
          let whole = a.6 b.inner (closed ss skip) (rw append-nil at (b.row [] skip no_more)) us u r in
          simp append_assoc (simp append_assoc at whole);
    }) q

begun : (m : Mark) (b : Block) (ts : List Token) (s : State) → InBlock b ts → begin m b ≡ some s → Text s (ts ++ (mark m ∷ []))
unfolding begin
begun if_word b ts s w q = got (λ s. Text s (ts ++ (mark if_word ∷ []))) (ts ++ (mark if_word ∷ []), sym (append-nil _), begins (mark if_word ∷ []) refl w) q
begun repeat_word b ts s w q = got (λ s. Text s (ts ++ (mark repeat_word ∷ []))) (begins (mark repeat_word ∷ []) refl w) q
begun delay_word b ts s w q = got (λ s. Text s (ts ++ (mark delay_word ∷ []))) (begins (mark delay_word ∷ []) refl w) q
begun else_word b ts s w q = else_read b.0 b.1 ts s w q
begun end_word b ts s w q = end_read b.0 b.1 ts s w q
begun not_word b ts s w q = lost q
begun open_mark b ts s w q = lost q
begun close_mark b ts s w q = lost q
begun assign_mark b ts s w q = lost q
begun semicolon b ts s w q = lost q
begun comma b ts s w q = lost q
begun then_word b ts s w q = lost q
begun times_word b ts s w q = lost q

prefixed : (m : Mark) (k : ℕ) (p : Pending) (ts : List Token) (s : State) → Text (operand k p) ts → prefix m k p ≡ some s → Text s (ts ++ (mark m ∷ []))
unfolding prefix
prefixed not_word k p ts s w q =
    got (λ s. Text s (ts ++ (mark not_word ∷ [])))
    (w.0, ap (λ x. x ++ (mark not_word ∷ [])) w.1 ∙ append_assoc w.0 (nots k) (mark not_word ∷ []) ∙ ap (λ x. w.0 ++ x) (nots_more k [] ∙ ap (λ x. mark not_word ∷ x) (append-nil (nots k))), w.2) q
prefixed open_mark k p ts s w q =
    got (λ s. Text s (ts ++ (mark open_mark ∷ [])))
    (ts ++ (mark open_mark ∷ []), sym (append-nil _), (w.0, ap (λ x. x ++ (mark open_mark ∷ [])) w.1 ∙ append_assoc w.0 (nots k) (mark open_mark ∷ []), w.2)) q
prefixed close_mark k p ts s w q = lost q
prefixed assign_mark k p ts s w q = lost q
prefixed semicolon k p ts s w q = lost q
prefixed comma k p ts s w q = lost q
prefixed if_word k p ts s w q = lost q
prefixed then_word k p ts s w q = lost q
prefixed else_word k p ts s w q = lost q
prefixed repeat_word k p ts s w q = lost q
prefixed times_word k p ts s w q = lost q
prefixed delay_word k p ts s w q = lost q
prefixed end_word k p ts s w q = lost q

-- a token more
next : {b : Block} {ts : List Token} {xs : List Token} (t : Token) → After b (λ ys. ys ≡ xs) ts → After b (λ ys. ys ≡ xs ++ (t ∷ [])) (ts ++ (t ∷ []))
next t a = after (t ∷ []) (λ ys f. ap (λ x. x ++ (t ∷ [])) f) a

stepped : (s : State) (t : Token) (ts : List Token) (s' : State) → Text s ts → step s t ≡ some s' → Text s' (ts ++ (t ∷ []))
unfolding step
stepped (statement b) (number n) ts s w q = lost q
stepped (statement b) (name i) ts s w q = got (λ s. Text s (ts ++ (name i ∷ []))) (begins (name i ∷ []) refl w) q
stepped (statement b) (operator o) ts s w q = lost q
stepped (statement b) (mark m) ts s w q = begun m b ts s w q
stepped (name_read i b) (number n) ts s w q = lost q
stepped (name_read i b) (name j) ts s w q = lost q
stepped (name_read i b) (operator o) ts s w q = lost q
stepped (name_read i b) (mark m) ts s w q = got_only assign_mark m (λ n s. Text s (ts ++ (mark n ∷ []))) (ts ++ (mark assign_mark ∷ []), sym (append-nil _), next (mark assign_mark) w) q
stepped (repeat_read b) (number n) ts s w q = got (λ s. Text s (ts ++ (number n ∷ []))) (next (number n) w) q
stepped (repeat_read b) (name i) ts s w q = lost q
stepped (repeat_read b) (operator o) ts s w q = lost q
stepped (repeat_read b) (mark m) ts s w q = lost q
stepped (rounds_read n b) (number m) ts s w q = lost q
stepped (rounds_read n b) (name i) ts s w q = lost q
stepped (rounds_read n b) (operator o) ts s w q = lost q
stepped (rounds_read n b) (mark m) ts s w q =
    got_only times_word m (λ n s. Text s (ts ++ (mark n ∷ [])))
    (opened_repeat (after (mark times_word ∷ []) (λ xs f ys s r us t r'. rw f (simp append_assoc (a_repeat n ys us s t r r'))) w)) q
stepped (delay_read b) (number n) ts s w q = lost q
stepped (delay_read b) (name i) ts s w q = got (λ s. Text s (ts ++ (name i ∷ []))) (next (name i) w) q
stepped (delay_read b) (operator o) ts s w q = lost q
stepped (delay_read b) (mark m) ts s w q = lost q
stepped (out_read i b) (number n) ts s w q = lost q
stepped (out_read i b) (name j) ts s w q = lost q
stepped (out_read i b) (operator o) ts s w q = lost q
stepped (out_read i b) (mark m) ts s w q = got_only comma m (λ n s. Text s (ts ++ (mark n ∷ []))) (next (mark comma) w) q
stepped (out_comma i b) (number n) ts s w q = lost q
stepped (out_comma i b) (name j) ts s w q = got (λ s. Text s (ts ++ (name j ∷ []))) (next (name j) w) q
stepped (out_comma i b) (operator o) ts s w q = lost q
stepped (out_comma i b) (mark m) ts s w q = lost q
stepped (counter_read i j b) (number n) ts s w q = lost q
stepped (counter_read i j b) (name k) ts s w q = lost q
stepped (counter_read i j b) (operator o) ts s w q = lost q
stepped (counter_read i j b) (mark m) ts s w q = got_only comma m (λ n s. Text s (ts ++ (mark n ∷ []))) (ts ++ (mark comma ∷ []), sym (append-nil _), next (mark comma) w) q
stepped (length_next i j e b) (number n) ts s w q =
    got (λ s. Text s (ts ++ (number n ∷ []))) (after (number n ∷ []) (λ xs f us t r. simp append_assoc (simp append_assoc at (f n us t r))) w) q
stepped (length_next i j e b) (name k) ts s w q = lost q
stepped (length_next i j e b) (operator o) ts s w q = lost q
stepped (length_next i j e b) (mark m) ts s w q = lost q
stepped (ended st b) (number n) ts s w q = lost q
stepped (ended st b) (name i) ts s w q = lost q
stepped (ended st b) (operator o) ts s w q = lost q
stepped (ended st b) (mark m) ts s w q = got_only semicolon m (λ n s. Text s (ts ++ (mark n ∷ []))) (pushed st (after (mark semicolon ∷ []) (λ xs f. f) w)) q
stepped (operand k p) (number n) ts s w q = got (λ s. Text s (ts ++ (number n ∷ []))) (operand_read k p (number n ∷ []) (lit n) w (a_number n)) q
stepped (operand k p) (name i) ts s w q = got (λ s. Text s (ts ++ (name i ∷ []))) (operand_read k p (name i ∷ []) (var i) w (a_name i)) q
stepped (operand k p) (operator o) ts s w q = lost q
stepped (operand k p) (mark m) ts s w q = prefixed m k p ts s w q
stepped (operated p e) (number n) ts s w q = lost q
stepped (operated p e) (name i) ts s w q = lost q
stepped (operated p e) (operator o) ts s w q =
    got (λ s. Text s (ts ++ (operator o ∷ [])))
    (let c = climbed (strength o) p w zero-le in
    (ts ++ (operator o ∷ []), sym (append-nil _), (c.front, c.back, ap (λ x. x ++ (operator o ∷ [])) c.parts ∙ append_assoc c.front c.back (operator o ∷ []), c.waits, c.reads, c.above))) q
stepped (operated p e) (mark m) ts s w q = finished p m w zero-le q

at_end : (ss : List Stmt) (k : Outer) (ts : List Token) (p : Stmt) → InBlock (ss, k) ts → at_top ss k ≡ some p → Reads ts p
unfolding at_top closed
at_end ss top ts p b q =
    subst (λ (s : Stmt). Reads ts s) (some-injective (closed ss skip) p q)
    (rw b.parts (rw b.around (rw append-nil at (b.row [] skip no_more))))
at_end ss (then_in e acc k) ts p b q = absurd (none-ne-some p q)
at_end ss (else_in e t acc k) ts p b q = absurd (none-ne-some p q)
at_end ss (repeat_in n acc k) ts p b q = absurd (none-ne-some p q)

at_whole : (s : State) (ts : List Token) (p : Stmt) → Text s ts → whole_program s ≡ some p → Reads ts p
unfolding whole_program
at_whole (statement b) ts p w q = at_end b.0 b.1 ts p w q
at_whole (name_read i b) ts p w q = absurd (none-ne-some p q)
at_whole (repeat_read b) ts p w q = absurd (none-ne-some p q)
at_whole (rounds_read n b) ts p w q = absurd (none-ne-some p q)
at_whole (delay_read b) ts p w q = absurd (none-ne-some p q)
at_whole (out_read i b) ts p w q = absurd (none-ne-some p q)
at_whole (out_comma i b) ts p w q = absurd (none-ne-some p q)
at_whole (counter_read i j b) ts p w q = absurd (none-ne-some p q)
at_whole (length_next i j e b) ts p w q = absurd (none-ne-some p q)
at_whole (ended s b) ts p w q = absurd (none-ne-some p q)
at_whole (operand k r) ts p w q = absurd (none-ne-some p q)
at_whole (operated r e) ts p w q = absurd (none-ne-some p q)

-- no refusal is a tree
pub never : {X : Type 0} {i : ℕ} {p : Stmt} → refused i ≡ accepted p → X
never q = let z : ◌≡◌ {A = ℕ} 0 1 = cc in absurd (omega arith)

run_sound : (i : ℕ) (s : State) (us ts : List Token) (p : Stmt) → Text s us → run i s ts ≡ accepted p → Reads (us ++ ts) p
unfolding run
run_sound i s us [] p w q = go (whole_program s) refl q
  where
    go : (o : Option Stmt) → whole_program s ≡ o → elim o as (λ _. Parsed) [ some p ↦ accepted p | none ↦ refused i ] ≡ accepted p → Reads (us ++ []) p
    go (some r) e f = let same : r ≡ p = cc in rw append-nil (at_whole s us p w (e ∙ ap {B = Option Stmt} some same))
    go none e f = never f
run_sound i s us (t ∷ ts) p w q = go (step s t) refl q (λ s' w' q'. run_sound (suc i) s' (us ++ (t ∷ [])) ts p w' q')
  where
    go : (o : Option State) → step s t ≡ o → elim o as (λ _. Parsed) [ some s' ↦ run (suc i) s' ts | none ↦ refused i ] ≡ accepted p →
        ((s' : State) → Text s' (us ++ (t ∷ [])) → run (suc i) s' ts ≡ accepted p → Reads ((us ++ (t ∷ [])) ++ ts) p) → Reads (us ++ (t ∷ ts)) p
    go (some s') e f ih = rw append_assoc at (ih s' (stepped s t us s' w e) f)
    go none e f ih = never f

pub sound : Sound
unfolding parse start closed
sound ts p q = run_sound 0 (statement ([], top)) [] ts p (record { outer = []; inner = []; parts = refl; around = refl; row = λ us t r. r }) q
