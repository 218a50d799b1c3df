-- Tokens written one after another.
use Rattle.std.proofs.Common.{◌≡◌, ℕ, suc, ◌+◌, ◌*◌, ◌/◌, ◌<◌, ◌≤◌, min, true, false, lt-ltb, le-ltb, ltb, List, [], ◌∷◌, ◌++◌, length, set, sym, refl, ap, ◌∙◌, arith, length-append}
use Rattle.base.specs.declared.Op.{Op}
use Rattle.syntax.specs.Ast.{Expr, lit, var, invert, binary}
use Rattle.lexer.specs.declared.Token.{Token}
use Rattle.lexer.specs.declared.Token.TheVariants.{Number as number, Name as name, Operator as operator, Mark as mark}
use Rattle.lexer.specs.Pairs.{kind, value, pairs}
use Rattle.lexer.specs.declared.Mark.TheVariants.{Not as not_word, Open as open_mark, Close as close_mark}
use Rattle.syntax.specs.Grammar.{strength}
use Rattle.syntax.specs.Printer.{print_expr}
use Rattle.base.specs.Rooms.{write}
use Rattle.syntax.specs.Tree.{Holds}
use Rattle.printer.specs.Printed.{Puts, PutsExpr}
use Rattle.printer.specs.declared.writer.Writer.{Writer}
use Rattle.base.proofs.RoomLaws.{write_append, length_write, write_two}
use Rattle.lexer.proofs.PairLaws.{pairs_length}

pairs_append : (ts us : List Token) → pairs (ts ++ us) ≡ pairs ts ++ pairs us
unfolding pairs
pairs_append [] us = refl
pairs_append (t ∷ ts) us = ap (λ (x : List ℕ). kind t ∷ (value t ∷ x)) (pairs_append ts us)

-- nothing
pub puts_none : (w : Writer) → Puts [] w w
unfolding pairs write
puts_none w = record { counts = omega arith; wrote = λ k h. refl }

-- one token, where there is room for it and where there is none
pub puts_one : (w w' : Writer) (t : Token) (k v : ℕ) → ◌≡◌ {A = ℕ × ℕ} (k, v) (kind t, value t) → min w'.count 65536 ≡ min (w.count + 1) 65536 → w'.room.now ≡ set (set w.room.now (2 * w.count) k) (2 * w.count + 1) v → Puts (t ∷ []) w w'
unfolding pairs
puts_one w w' t k v p counted is =
    record { counts = counted; wrote = λ few h. is ∙ ap (λ (x : ℕ × ℕ). set (set w.room.now (2 * w.count) x.0) (2 * w.count + 1) x.1) p ∙ write_two w.room.now (2 * w.count) (kind t) (value t) }

pub puts_past : (w w' : Writer) (t : Token) → length w.room.now / 2 ≤ w.count → min w'.count 65536 ≡ min (w.count + 1) 65536 → Puts (t ∷ []) w w'
puts_past w w' t past counted = record { counts = counted; wrote = λ few h. absurd (omega arith) }

infixr 30 ◌then◌
-- one after the other
pub ◌then◌ : {ts us : List Token} {w w' w'' : Writer} → Puts ts w w' → Puts us w' w'' → Puts (ts ++ us) w w''
◌then◌ {ts} {us} {w} {w'} {w''} p q =
    let all : length (ts ++ us) ≡ length ts + length us = length-append ts us in
    record {
      counts = omega (arith, all, p.counts, q.counts);
      wrote = λ few h.
          let first : w'.room.now ≡ write w.room.now (2 * w.count) (pairs ts) = p.wrote (omega arith) (omega arith) in
          let next : w'.count ≡ w.count + length ts = omega (arith, p.counts) in
          let kept : length w'.room.now ≡ length w.room.now = ap length first ∙ length_write w.room.now (2 * w.count) (pairs ts) in
          let long : 2 * w.count + length (pairs ts) ≡ 2 * w'.count = omega (arith, pairs_length ts) in
          q.wrote (omega arith) (omega arith) ∙ ap (λ (x : List ℕ). write x (2 * w'.count) (pairs us)) first
          ∙ ap (λ (x : ℕ). write (write w.room.now (2 * w.count) (pairs ts)) x (pairs us)) (sym long)
          ∙ sym (write_append w.room.now (2 * w.count) (pairs ts) (pairs us)) ∙ ap (write w.room.now (2 * w.count)) (sym (pairs_append ts us));
    }

-- the tokens of an expression by those of its parts
module _ {w w' : Writer} where
  pub put_literal : (l n : ℕ) → Puts (number n ∷ []) w w' → (e : Expr) → e ≡ lit n → Puts (print_expr l e) w w'
  unfolding print_expr
  put_literal l n p e z = rw z p

  pub put_variable : (l n : ℕ) → Puts (name n ∷ []) w w' → (e : Expr) → e ≡ var n → Puts (print_expr l e) w w'
  unfolding print_expr
  put_variable l n p e z = rw z p

pub put_not : (m : List ℕ) {w w₁ w' : Writer} (l a : ℕ) → Puts (mark not_word ∷ []) w w₁ → PutsExpr m a 0 w₁ w' → (e : Expr) → (x : Expr) × (e ≡ invert x) × Holds m a x → Puts (print_expr l e) w w'
unfolding print_expr
put_not m l a p q e i = rw i.1 (p then q i.0 i.2)

-- an operation that is strong enough stands bare; else it stands in brackets, as where any is expected
pub put_bare : (m : List ℕ) {w w₁ w₂ w' : Writer} (l : ℕ) (o : Op) (s a b : ℕ) → s ≡ strength o → s < l → PutsExpr m a (s + 1) w w₁ → Puts (operator o ∷ []) w₁ w₂ → PutsExpr m b s w₂ w' →
    (e : Expr) → (x : Expr) × (y : Expr) × (e ≡ binary o x y) × Holds m a x × Holds m b y → Puts (print_expr l e) w w'
unfolding print_expr
put_bare m l o s a b z strong p q r e i =
    let bare : ltb (strength o) l ≡ true = lt-ltb _ _ (omega arith) in
    let above : suc (strength o) ≡ s + 1 = omega arith in
    rw (i.2, bare, above, ← z) (p i.0 i.3 then q then r i.1 i.4)

pub put_bracketed : (m : List ℕ) {w w₁ w₂ w' : Writer} (i l : ℕ) (o : Op) (s : ℕ) → s ≡ strength o → s ≤ 4 → l ≤ s → Puts (mark open_mark ∷ []) w w₁ → PutsExpr m i 5 w₁ w₂ → Puts (mark close_mark ∷ []) w₂ w' →
    (e : Expr) → Holds m i e → (x : Expr) × (y : Expr) × (e ≡ binary o x y) → Puts (print_expr l e) w w'
unfolding print_expr
put_bracketed m {w} {w₁} {w₂} {w'} i l o s z small weak p q r e h k =
    let bare : ltb (strength o) 5 ≡ true = lt-ltb _ _ (omega arith) in
    let not_bare : ltb (strength o) l ≡ false = le-ltb _ _ (omega arith) in
    rw (k.2, not_bare) (rw (k.2, bare) at (p then q e h then r))
