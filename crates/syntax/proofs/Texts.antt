-- The tokens that have been read when the parser is in a state.
use Rattle.std.proofs.Common.{◌≡◌, ℕ, zero, suc, List, [], ◌∷◌, ◌++◌, sym, refl, ap, ◌∙◌, subst, append_assoc, append-nil}
use Rattle.syntax.specs.Ast.{Expr, invert, Stmt, seq, branch, repeat, delay}
use Rattle.lexer.specs.declared.Token.{Token}
use Rattle.lexer.specs.declared.Token.TheVariants.{Number as number, Name as name, Operator as operator, Mark as mark}
use Rattle.lexer.specs.declared.Mark.TheVariants.{Not as not_word, Open as open_mark, Assign as assign_mark, Semicolon as semicolon, Comma as comma, If as if_word, Else as else_word, Repeat as repeat_word, Delay as delay_word, End as end_word}
use Rattle.syntax.specs.Grammar.{strength, ReadsExpr, a_not, Reads}
use Rattle.syntax.specs.Parser.{Above, Outer, top, then_in, else_in, repeat_in, Block, push, Goal, assign_to, condition_in, delay_in, Pending, whole, right_of, bracket, State, statement, name_read, repeat_read, rounds_read, delay_read, out_read, out_comma, counter_read, length_next, ended, operand, operated, closed, inverts}

-- the tokens are those of some statements, before any others
abbrev pub Row : List Stmt → List Token → Type 0
Row acc ts = (us : List Token) (t : Stmt) → Reads us t → Reads (ts ++ us) (closed acc t)

-- the tokens are those of one statement
abbrev pub One : Stmt → List Token → Type 0
One s ts = (us : List Token) (t : Stmt) → Reads us t → Reads (ts ++ us) (seq s t)

-- the tokens open a block of a statement
abbrev pub ThenOpen : Expr → List Token → Type 0
ThenOpen e xs = (ys : List Token) (s : Stmt) → Reads ys s → (zs : List Token) (t : Stmt) → Reads zs t → One (branch e s t) (xs ++ (ys ++ (mark else_word ∷ (zs ++ (mark end_word ∷ (mark semicolon ∷ []))))))

abbrev pub BodyOpen : (Stmt → Stmt) → List Token → Type 0
BodyOpen f xs = (ys : List Token) (s : Stmt) → Reads ys s → One (f s) (xs ++ (ys ++ (mark end_word ∷ (mark semicolon ∷ []))))

-- the tokens up to the innermost block
abbrev pub InOuter : Outer → List Token → Type 0
InOuter top ts = ts ≡ []
InOuter (then_in e acc k) ts = (us vs xs : List Token) × (ts ≡ (us ++ vs) ++ xs) × InOuter k us × Row acc vs × ThenOpen e xs
InOuter (else_in e s acc k) ts = (us vs xs : List Token) × (ts ≡ (us ++ vs) ++ xs) × InOuter k us × Row acc vs × BodyOpen (branch e s) xs
InOuter (repeat_in n acc k) ts = (us vs xs : List Token) × (ts ≡ (us ++ vs) ++ xs) × InOuter k us × Row acc vs × BodyOpen (repeat n) xs

-- the tokens up to a statement
pub record InBlock (b : Block) (ts : List Token) : Type 0 where
  pub outer : List Token
  pub inner : List Token
  pub parts : ts ≡ outer ++ inner
  pub around : InOuter b.1 outer
  pub row : Row b.0 inner

-- the tokens up to a statement, and some more
pub record After (b : Block) (F : List Token → Type 0) (ts : List Token) : Type 0 where
  pub front : List Token
  pub back : List Token
  pub parts : ts ≡ front ++ back
  pub block : InBlock b front
  pub found : F back

pub after : {F G : List Token → Type 0} {b : Block} {ts : List Token} (zs : List Token) → ((xs : List Token) → F xs → G (xs ++ zs)) → After b F ts → After b G (ts ++ zs)
after zs f a = record { front = a.front; back = a.back ++ zs; parts = ap (λ x. x ++ zs) a.parts ∙ append_assoc a.front a.back zs; block = a.block; found = f a.back a.found }

pub begins : {F : List Token → Type 0} {b : Block} {ts : List Token} (zs : List Token) → F zs → InBlock b ts → After b F (ts ++ zs)
begins {ts = ts} zs f a = record { front = ts; back = zs; parts = refl; block = a; found = f }

-- one statement more
pub pushed : {b : Block} {ts : List Token} (s : Stmt) → After b (One s) ts → InBlock (push s b) ts
unfolding closed
pushed s a =
    let k = a.block in
    record {
      outer = k.outer;
      inner = k.inner ++ a.back;
      parts = a.parts ∙ ap (λ x. x ++ a.back) k.parts ∙ append_assoc k.outer k.inner a.back;
      around = k.around;
      row = λ us t r. rw append_assoc (k.row (a.back ++ us) (seq s t) (a.found us t r));
    }

-- a block that is opened
pub opened_then : {b : Block} {ts : List Token} {e : Expr} → After b (ThenOpen e) ts → InBlock ([], then_in e b.0 b.1) ts
unfolding closed
opened_then {ts = ts} a = record { outer = ts; inner = []; parts = sym (append-nil ts); around = (a.block.outer, a.block.inner, a.back, a.parts ∙ ap (λ x. x ++ a.back) a.block.parts, a.block.around, a.block.row, a.found); row = λ us t r. r }

pub opened_repeat : {b : Block} {ts : List Token} {n : ℕ} → After b (BodyOpen (repeat n)) ts → InBlock ([], repeat_in n b.0 b.1) ts
unfolding closed
opened_repeat {ts = ts} a = record { outer = ts; inner = []; parts = sym (append-nil ts); around = (a.block.outer, a.block.inner, a.back, a.parts ∙ ap (λ x. x ++ a.back) a.block.parts, a.block.around, a.block.row, a.found); row = λ us t r. r }

-- the nots before an operand
abbrev pub nots : ℕ → List Token
nots zero = []
nots (suc k) = mark not_word ∷ nots k

pub nots_more : (k : ℕ) (ts : List Token) → nots k ++ (mark not_word ∷ ts) ≡ mark not_word ∷ (nots k ++ ts)
nots_more zero ts = refl
nots_more (suc k) ts = ap (λ x. mark not_word ∷ x) (nots_more k ts)

pub inverted : (k : ℕ) (ts : List Token) (e : Expr) → ReadsExpr 0 ts e → ReadsExpr 0 (nots k ++ ts) (inverts k e)
unfolding inverts
inverted zero ts e r = r
inverted (suc k) ts e r = subst (λ (x : List Token). ReadsExpr 0 x (inverts k (invert e))) (nots_more k ts) (inverted k (mark not_word ∷ ts) (invert e) (a_not ts e r))

-- what the expression is for
abbrev pub For : Goal → List Token → Type 0
For (assign_to i b) ts = After b (λ xs. xs ≡ name i ∷ (mark assign_mark ∷ [])) ts
For (condition_in b) ts = After b (λ xs. xs ≡ mark if_word ∷ []) ts
For (delay_in o p b) ts = After b (λ xs. xs ≡ mark delay_word ∷ (name o ∷ (mark comma ∷ (name p ∷ (mark comma ∷ []))))) ts

-- the tokens before the operand that comes next, without its nots
abbrev pub Waits : Pending → List Token → Type 0
Waits (whole g) ts = For g ts
Waits (bracket k p) ts = (us : List Token) × (ts ≡ us ++ (nots k ++ (mark open_mark ∷ []))) × Waits p us
Waits (right_of o a p) ts = (us vs : List Token) × (ts ≡ us ++ (vs ++ (operator o ∷ []))) × Waits p us × ReadsExpr (suc (strength o)) vs a × Above p (suc (strength o))

-- the tokens up to the end of an operand of a level
pub record Operated (l : ℕ) (p : Pending) (e : Expr) (ts : List Token) : Type 0 where
  pub front : List Token
  pub back : List Token
  pub parts : ts ≡ front ++ back
  pub waits : Waits p front
  pub reads : ReadsExpr l back e
  pub above : Above p l

-- the tokens that have been read in a state
abbrev pub Text : State → List Token → Type 0
Text (statement b) ts = InBlock b ts
Text (name_read i b) ts = After b (λ xs. xs ≡ name i ∷ []) ts
Text (repeat_read b) ts = After b (λ xs. xs ≡ mark repeat_word ∷ []) ts
Text (rounds_read n b) ts = After b (λ xs. xs ≡ mark repeat_word ∷ (number n ∷ [])) ts
Text (delay_read b) ts = After b (λ xs. xs ≡ mark delay_word ∷ []) ts
Text (out_read o b) ts = After b (λ xs. xs ≡ mark delay_word ∷ (name o ∷ [])) ts
Text (out_comma o b) ts = After b (λ xs. xs ≡ mark delay_word ∷ (name o ∷ (mark comma ∷ []))) ts
Text (counter_read o p b) ts = After b (λ xs. xs ≡ mark delay_word ∷ (name o ∷ (mark comma ∷ (name p ∷ [])))) ts
Text (length_next o p e b) ts = After b (λ xs. (n : ℕ) → One (delay o p e n) (xs ++ (number n ∷ (mark semicolon ∷ [])))) ts
Text (ended s b) ts = After b (λ xs. One s (xs ++ (mark semicolon ∷ []))) ts
Text (operand k p) ts = (us : List Token) × (ts ≡ us ++ nots k) × Waits p us
Text (operated p e) ts = Operated 0 p e ts
