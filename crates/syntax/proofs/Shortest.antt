-- What is printed of a tree is its one shortest text.
use Rattle.std.proofs.Common.{◌≡◌, ℕ, suc, ◌+◌, ◌<◌, ◌≤◌, Bool, true, false, ltb, List, [], ◌∷◌, ◌++◌, length, sym, refl, ap, ◌∙◌, append_assoc, arith, length-append, lt-ltb}
use Rattle.base.specs.declared.Op.{Op}
use Rattle.syntax.specs.Ast.{Expr, lit, var, invert, binary, Stmt, assign, seq, branch, repeat, delay}
use Rattle.lexer.specs.declared.Token.{Token}
use Rattle.lexer.specs.declared.Token.TheVariants.{Number as number, Name as name, Operator as operator, Mark as mark}
use Rattle.lexer.specs.declared.Mark.TheVariants.{Not as not_word, Open as open_mark, Close as close_mark, Assign as assign_mark, Semicolon as semicolon, Comma as comma, If as if_word, Then as then_word, Else as else_word, Repeat as repeat_word, Times as times_word, Delay as delay_word, End as end_word}
use Rattle.syntax.specs.Grammar.{strength, ReadsExpr, a_number, a_name, a_not, in_brackets, looser, an_operation, Reads, no_more}
use Rattle.syntax.specs.Grammar as grammar
use Rattle.syntax.specs.Printer.{bracketed, print_expr, print, Shortest}
use Rattle.syntax.proofs.Levels.{strength_4}

strength_below : (o : Op) → strength o < 5
strength_below o = omega (arith, strength_4 o)

-- the tokens of an expression, in brackets or not
in_brackets_length : (ts : List Token) → length (bracketed false ts) ≡ length ts + 2
in_brackets_length ts = simp length-append (omega arith)

outermost : (o : Op) (a b : Expr) (l : ℕ) → strength o < l → print_expr l (binary o a b) ≡ print_expr (suc (strength o)) a ++ (operator o ∷ print_expr (strength o) b)
unfolding print_expr
outermost o a b l h = rw (lt-ltb (strength o) l h)

two_more : (l : ℕ) (e : Expr) → length (print_expr l e) ≤ length (print_expr 5 e) + 2
unfolding print_expr
two_more l (lit n) = omega arith
two_more l (var i) = omega arith
two_more l (invert e) = omega arith
two_more l (binary o a b) = go (ltb (strength o) l) (print_expr (suc (strength o)) a ++ (operator o ∷ print_expr (strength o) b)) (ap length (outermost o a b 5 (strength_below o)))
  where
    go : (c : Bool) (ts : List Token) → length (print_expr 5 (binary o a b)) ≡ length ts → length (bracketed c ts) ≤ length (print_expr 5 (binary o a b)) + 2
    go true ts q = omega arith
    go false ts q = omega (arith, in_brackets_length ts)

middle : (o : Op) (ts us : List Token) → length (ts ++ (operator o ∷ us)) ≡ length ts + length us + 1
middle o ts us = simp length-append (omega arith)

shortest_expr : {l : ℕ} {ts : List Token} {e : Expr} → ReadsExpr l ts e → (m : ℕ) → l ≤ m → length (print_expr m e) ≤ length ts
unfolding print_expr
shortest_expr (a_number n) m h = omega arith
shortest_expr (a_name i) m h = omega arith
shortest_expr (a_not ts e r) m h = omega (arith, shortest_expr r 0 (omega arith))
shortest_expr (in_brackets ts e r) m h = omega (arith, shortest_expr r 5 (omega arith), two_more m e, in_brackets_length ts)
shortest_expr (looser l ts e r) m h = shortest_expr r m (omega arith)
shortest_expr (an_operation o ts us a b ra rb) m h =
    let x = shortest_expr ra (suc (strength o)) (omega arith) in
    let y = shortest_expr rb (strength o) (omega arith) in
    rw (outermost o a b m h, middle, middle) (omega (arith, x, y))

-- the lengths of statements
assign_length : (i : ℕ) (ts us : List Token) → length (name i ∷ (mark assign_mark ∷ (ts ++ (mark semicolon ∷ us)))) ≡ length ts + length us + 3
assign_length i ts us = simp length-append (omega arith)

branch_length : (ts xs ys us : List Token) → length (mark if_word ∷ (ts ++ (mark then_word ∷ (xs ++ (mark else_word ∷ (ys ++ (mark end_word ∷ (mark semicolon ∷ us)))))))) ≡ length ts + length xs + length ys + length us + 5
branch_length ts xs ys us = simp length-append (omega arith)

repeat_length : (n : ℕ) (xs us : List Token) → length (mark repeat_word ∷ (number n ∷ (mark times_word ∷ (xs ++ (mark end_word ∷ (mark semicolon ∷ us)))))) ≡ length xs + length us + 5
repeat_length n xs us = simp length-append (omega arith)

delay_length : (o p n : ℕ) (ts us : List Token) → length (mark delay_word ∷ (name o ∷ (mark comma ∷ (name p ∷ (mark comma ∷ (ts ++ (mark comma ∷ (number n ∷ (mark semicolon ∷ us))))))))) ≡ length ts + length us + 8
delay_length o p n ts us = simp length-append (omega arith)

-- the printed statements before others
print_assign : (i : ℕ) (e : Expr) (s : Stmt) → print (seq (assign i e) s) ≡ name i ∷ (mark assign_mark ∷ (print_expr 5 e ++ (mark semicolon ∷ print s)))
unfolding print
print_assign i e s = simp append_assoc

print_branch : (e : Expr) (s t u : Stmt) → print (seq (branch e s t) u) ≡ mark if_word ∷ (print_expr 5 e ++ (mark then_word ∷ (print s ++ (mark else_word ∷ (print t ++ (mark end_word ∷ (mark semicolon ∷ print u)))))))
unfolding print
print_branch e s t u = simp append_assoc

print_repeat : (n : ℕ) (s u : Stmt) → print (seq (repeat n s) u) ≡ mark repeat_word ∷ (number n ∷ (mark times_word ∷ (print s ++ (mark end_word ∷ (mark semicolon ∷ print u)))))
unfolding print
print_repeat n s u = simp append_assoc

print_delay : (o p n : ℕ) (e : Expr) (u : Stmt) → print (seq (delay o p e n) u) ≡ mark delay_word ∷ (name o ∷ (mark comma ∷ (name p ∷ (mark comma ∷ (print_expr 5 e ++ (mark comma ∷ (number n ∷ (mark semicolon ∷ print u))))))))
unfolding print
print_delay o p n e u = simp append_assoc

shortest : {ts : List Token} {s : Stmt} → Reads ts s → length (print s) ≤ length ts
unfolding print
shortest no_more = omega arith
shortest (grammar.an_assign i ts us e s re rs) =
    omega (arith, ap length (print_assign i e s), assign_length i ts us, assign_length i (print_expr 5 e) (print s), shortest_expr re 5 (omega arith), shortest rs)
shortest (grammar.a_branch ts xs ys us e s t u re rs rt ru) =
    omega (arith, ap length (print_branch e s t u), branch_length ts xs ys us, branch_length (print_expr 5 e) (print s) (print t) (print u), shortest_expr re 5 (omega arith), shortest rs, shortest rt, shortest ru)
shortest (grammar.a_repeat n xs us s u rs ru) =
    omega (arith, ap length (print_repeat n s u), repeat_length n xs us, repeat_length n (print s) (print u), shortest rs, shortest ru)
shortest (grammar.a_delay o p n ts us e u re ru) =
    omega (arith, ap length (print_delay o p n e u), delay_length o p n ts us, delay_length o p n (print_expr 5 e) (print u), shortest_expr re 5 (omega arith), shortest ru)

-- an expression whose text is in brackets at a level
brackets_needed : (m : ℕ) (e : Expr) → length (print_expr 5 e) + 2 ≤ length (print_expr m e) → print_expr m e ≡ mark open_mark ∷ (print_expr 5 e ++ (mark close_mark ∷ []))
unfolding print_expr
brackets_needed m (lit n) h = absurd (omega arith)
brackets_needed m (var i) h = absurd (omega arith)
brackets_needed m (invert e) h = absurd (omega arith)
brackets_needed m (binary o a b) h = go (ltb (strength o) m) (print_expr (suc (strength o)) a ++ (operator o ∷ print_expr (strength o) b)) (outermost o a b 5 (strength_below o)) h
  where
    go : (c : Bool) (ts : List Token) → print_expr 5 (binary o a b) ≡ ts → length (print_expr 5 (binary o a b)) + 2 ≤ length (bracketed c ts) → bracketed c ts ≡ mark open_mark ∷ (print_expr 5 (binary o a b) ++ (mark close_mark ∷ []))
    go true ts q k = absurd (omega (arith, ap length q))
    go false ts q k = ap (λ (x : List Token). mark open_mark ∷ (x ++ (mark close_mark ∷ []))) (sym q)

only_expr : {l : ℕ} {ts : List Token} {e : Expr} → ReadsExpr l ts e → (m : ℕ) → l ≤ m → length ts ≤ length (print_expr m e) → ts ≡ print_expr m e
unfolding print_expr
only_expr (a_number n) m h k = refl
only_expr (a_name i) m h k = refl
only_expr (a_not ts e r) m h k = ap (λ (x : List Token). mark not_word ∷ x) (only_expr r 0 (omega arith) (omega arith))
only_expr (in_brackets ts e r) m h k =
    let b = in_brackets_length ts in
    let s = shortest_expr r 5 (omega arith) in
    let q = only_expr r 5 (omega arith) (omega (arith, two_more m e, b)) in
    ap (λ (x : List Token). mark open_mark ∷ (x ++ (mark close_mark ∷ []))) q ∙ sym (brackets_needed m e (omega (arith, b, s)))
only_expr (looser l ts e r) m h k = only_expr r m (omega arith) k
only_expr (an_operation o ts us a b ra rb) m h k =
    let x = shortest_expr ra (suc (strength o)) (omega arith) in
    let y = shortest_expr rb (strength o) (omega arith) in
    let z = outermost o a b m h in
    let long = middle o ts us in
    let short = middle o (print_expr (suc (strength o)) a) (print_expr (strength o) b) in
    let p = only_expr ra (suc (strength o)) (omega arith) (omega (arith, ap length z, x, y, long, short)) in
    let q = only_expr rb (strength o) (omega arith) (omega (arith, ap length z, x, y, long, short)) in
    (λ i. p i ++ (operator o ∷ q i)) ∙ sym z

only : {ts : List Token} {s : Stmt} → Reads ts s → length ts ≤ length (print s) → ts ≡ print s
unfolding print
only no_more h = refl
only (grammar.an_assign i ts us e s re rs) h =
    let z = print_assign i e s in
    let f0 = ap length z in
    let f1 = assign_length i ts us in
    let f2 = assign_length i (print_expr 5 e) (print s) in
    let f3 = shortest_expr re 5 (omega arith) in
    let f4 = shortest rs in
    let p = only_expr re 5 (omega arith) (omega (arith, f0, f1, f2, f3, f4)) in
    let q = only rs (omega (arith, f0, f1, f2, f3, f4)) in
    (λ j. name i ∷ (mark assign_mark ∷ (p j ++ (mark semicolon ∷ q j)))) ∙ sym z
only (grammar.a_branch ts xs ys us e s t u re rs rt ru) h =
    let z = print_branch e s t u in
    let f0 = ap length z in
    let f1 = branch_length ts xs ys us in
    let f2 = branch_length (print_expr 5 e) (print s) (print t) (print u) in
    let f3 = shortest_expr re 5 (omega arith) in
    let f4 = shortest rs in
    let f5 = shortest rt in
    let f6 = shortest ru in
    let p = only_expr re 5 (omega arith) (omega (arith, f0, f1, f2, f3, f4, f5, f6)) in
    let q = only rs (omega (arith, f0, f1, f2, f3, f4, f5, f6)) in
    let q' = only rt (omega (arith, f0, f1, f2, f3, f4, f5, f6)) in
    let q'' = only ru (omega (arith, f0, f1, f2, f3, f4, f5, f6)) in
    (λ j. mark if_word ∷ (p j ++ (mark then_word ∷ (q j ++ (mark else_word ∷ (q' j ++ (mark end_word ∷ (mark semicolon ∷ q'' j)))))))) ∙ sym z
only (grammar.a_repeat n xs us s u rs ru) h =
    let z = print_repeat n s u in
    let f0 = ap length z in
    let f1 = repeat_length n xs us in
    let f2 = repeat_length n (print s) (print u) in
    let f3 = shortest rs in
    let f4 = shortest ru in
    let q = only rs (omega (arith, f0, f1, f2, f3, f4)) in
    let q' = only ru (omega (arith, f0, f1, f2, f3, f4)) in
    (λ j. mark repeat_word ∷ (number n ∷ (mark times_word ∷ (q j ++ (mark end_word ∷ (mark semicolon ∷ q' j)))))) ∙ sym z
only (grammar.a_delay o p n ts us e u re ru) h =
    let z = print_delay o p n e u in
    let f0 = ap length z in
    let f1 = delay_length o p n ts us in
    let f2 = delay_length o p n (print_expr 5 e) (print u) in
    let f3 = shortest_expr re 5 (omega arith) in
    let f4 = shortest ru in
    let q = only_expr re 5 (omega arith) (omega (arith, f0, f1, f2, f3, f4)) in
    let q' = only ru (omega (arith, f0, f1, f2, f3, f4)) in
    (λ j. mark delay_word ∷ (name o ∷ (mark comma ∷ (name p ∷ (mark comma ∷ (q j ++ (mark comma ∷ (number n ∷ (mark semicolon ∷ q' j))))))))) ∙ sym z

pub shortest_texts : Shortest
shortest_texts = record {
  exprs = λ l ts e r. shortest_expr r l (omega arith);
  programs = λ ts s r. shortest r;
  only_expr = λ l ts e r h. only_expr r l (omega arith) h;
  only_program = λ ts s r h. only r h;
}
