-- A program whose literals are words makes words of words.
use Rattle.std.proofs.Common.{ℕ, zero, suc, ◌+◌, ◌/◌, ◌<◌, min, Bool, true, false, cond, ◌&&◌, eqb, leb, div-le_self, arith}
use Rattle.base.specs.declared.Op.{Op}
use Rattle.base.specs.declared.Op.TheVariants.{Add, Sub, Mul, Div, Less, Equal, And, Or}
use Rattle.base.specs.Stores.{Store}
use Rattle.base.specs.Words.{bit, truthy, apply_op}
use Rattle.syntax.specs.Ast.{Expr, lit, var, invert, binary, Stmt, skip, assign, seq, branch, repeat, delay}
use Rattle.syntax.specs.Names.{ExprWords}
use Rattle.syntax.specs.Names as names
use Rattle.semantics.specs.Eval.{Values, eval, faults, noted, iterate, exec}
use Rattle.base.specs.Delays.{counted}
use Rattle.controller.specs.Promises.{Words}
use Rattle.laws.specs.Language.{WordsOfWords}

pub either : (b : Bool) (x y : ℕ) → x < 65536 → y < 65536 → cond b x y < 65536
either true x y h g = h
either false x y h g = g

bit_word : (b : Bool) → bit b < 65536
bit_word b = either b 1 0 (omega arith) (omega arith)

op_word : (o : Op) (a b : ℕ) → a < 65536 → apply_op o a b < 65536
op_word Add a b h = omega arith
op_word Sub a b h = omega arith
op_word Mul a b h = omega arith
op_word Div a b h = either (eqb b 0) 0 (a / b) (omega arith) (omega (arith, div-le_self a b))
op_word Less a b h = bit_word _
op_word Equal a b h = bit_word _
op_word And a b h = bit_word _
op_word Or a b h = bit_word _

eval_word : (o : ℕ) (s : Store) (e : Expr) → ExprWords e → Words s → eval o s e < 65536
unfolding eval
eval_word o s (lit n) h w = h
eval_word o s (var i) h w = w (o + i)
eval_word o s (invert e) h w = bit_word _
eval_word o s (binary op a b) h w = op_word op _ _ (eval_word o s a h.0 w)

iterate_words : (n : ℕ) (f : Values → Values) → ((r : Values) → Words r.store → Words (f r).store) → (r : Values) → Words r.store → Words (iterate n f r).store
unfolding iterate
iterate_words zero f h r w = w
iterate_words (suc n) f h r w = iterate_words n f h (f r) (h r w)

either_words : (b : Bool) (q r : Values) → Words q.store → Words r.store → Words (cond b q r).store
either_words true q r h g = h
either_words false q r h g = g

exec_words : (elapsed o : ℕ) (s : Stmt) (r : Values) → names.Words s → Words r.store → Words (exec elapsed o s r).store
unfolding exec
exec_words elapsed o skip r h w = w
exec_words elapsed o (assign i e) r h w = λ k. either (eqb k (o + i)) _ _ (eval_word o r.store e h w) (w k)
exec_words elapsed o (seq s t) r h w = exec_words elapsed o t _ h.1 (exec_words elapsed o s r h.0 w)
exec_words elapsed o (branch e s t) r h w =
    let r' = noted r (faults o r.store e) in
    either_words (eqb (eval o r.store e) 0) (exec elapsed o t r') (exec elapsed o s r') (exec_words elapsed o t r' h.2 w) (exec_words elapsed o s r' h.1 w)
exec_words elapsed o (repeat n s) r h w = iterate_words n (exec elapsed o s) (λ q. exec_words elapsed o s q h.1) r w
exec_words elapsed o (delay out counter e preset) r h w = λ k.
    let c : Bool = truthy (eval o r.store e) in
    let n : ℕ = counted elapsed (r.store (o + counter)) preset c in
    let counts : n < 65536 = either c (min (r.store (o + counter) + elapsed) preset) 0 (omega arith) (omega arith) in
    either (eqb k (o + out)) (bit (c && leb preset n)) _ (bit_word (c && leb preset n)) (either (eqb k (o + counter)) n (r.store k) counts (w k))

pub words_of_words_lem : WordsOfWords
words_of_words_lem s h elapsed r w = exec_words elapsed 0 s r h w
