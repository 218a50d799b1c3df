-- A program's names and numbers are those of its tokens.
use Rattle.std.proofs.Common.{◌≡◌, ℕ, suc, ◌+◌, ◌*◌, ◌<◌, ◌≤◌, true, List, [], ◌∷◌, ◌++◌, length, get_or, subst, arith}
use Rattle.std.proofs.lemmas.Bool.Decides.{nat_tests}
use Rattle.lexer.specs.declared.Token.{Token}
use Rattle.lexer.specs.Pairs.{token_of, tokens_in, shaped}
use Rattle.syntax.specs.Ast.{Expr, Stmt}
use Rattle.syntax.specs.Grammar.{ReadsExpr, a_number, a_name, a_not, in_brackets, looser, an_operation, Reads, no_more, an_assign, a_branch, a_repeat, a_delay}
use Rattle.syntax.specs.Names.{ExprBelow, Below, ExprWords, Words, TokenFits, TokensFit, ProgramFits}
use Rattle.syntax.specs.Shape.{WellShaped}
use Rattle.lexer.proofs.PairLaws.{token_cases}

fit_parts : (n : ℕ) (ts us : List Token) → TokensFit n (ts ++ us) → TokensFit n ts × TokensFit n us
unfolding TokensFit
fit_parts n [] us h = (tt, h)
fit_parts n (t ∷ ts) us h = let p = fit_parts n ts us h.1 in ((h.0, p.0), p.1)

expr_fits : {l : ℕ} {ts : List Token} {e : Expr} (n : ℕ) → ReadsExpr l ts e → TokensFit n ts → ExprBelow n e × ExprWords e
unfolding TokensFit
expr_fits n (a_number k) h = (tt, h.0)
expr_fits n (a_name i) h = (h.0, tt)
expr_fits n (a_not ts e r) h = expr_fits n r h.1
expr_fits n (in_brackets ts e r) h = expr_fits n r (fit_parts n ts _ h.1).0
expr_fits n (looser l ts e r) h = expr_fits n r h
expr_fits n (an_operation o ts us a b ra rb) h =
    let p = fit_parts n ts _ h in
    let x = expr_fits n ra p.0 in
    let y = expr_fits n rb p.1.1 in
    ((x.0, y.0), (x.1, y.1))

program_fits_at : {ts : List Token} {s : Stmt} (n : ℕ) → Reads ts s → TokensFit n ts → Below n s × Words s
unfolding TokensFit
program_fits_at n no_more h = (tt, tt)
program_fits_at n (an_assign i ts us e s re rs) h =
    let p = fit_parts n ts _ h.1.1 in
    let x = expr_fits n re p.0 in
    let y = program_fits_at n rs p.1.1 in
    (((h.0, x.0), y.0), (x.1, y.1))
program_fits_at n (a_branch ts xs ys us e s t u re rs rt ru) h =
    let p = fit_parts n ts _ h.1 in
    let q = fit_parts n xs _ p.1.1 in
    let r = fit_parts n ys _ q.1.1 in
    let x = expr_fits n re p.0 in
    let a = program_fits_at n rs q.0 in
    let b = program_fits_at n rt r.0 in
    let y = program_fits_at n ru r.1.1.1 in
    (((x.0, a.0, b.0), y.0), ((x.1, a.1, b.1), y.1))
program_fits_at n (a_repeat k xs us s u rs ru) h =
    let p = fit_parts n xs _ h.1.1.1 in
    let a = program_fits_at n rs p.0 in
    let y = program_fits_at n ru p.1.1.1 in
    ((a.0, y.0), ((h.1.0, a.1), y.1))
program_fits_at n (a_delay out counter preset ts us e u re ru) h =
    let p = fit_parts n ts _ h.1.1.1.1.1 in
    let x = expr_fits n re p.0 in
    let y = program_fits_at n ru p.1.1.1.1 in
    (((h.1.0, h.1.1.1.0, x.0), y.0), ((x.1, p.1.1.0), y.1))

pub program_fits : ProgramFits
program_fits n ts s r h = program_fits_at n r h

-- pairs that are shaped as tokens
one_fits : (k v : ℕ) → shaped k v ≡ true → v < 65536 → TokenFits 64 (token_of k v)
one_fits k v h w = token_cases (TokenFits 64) k v (λ z. w) (λ z. grind (arith, nat_tests)) (λ z. tt) (λ z. tt)

pairs_fit : (xs : List ℕ) → ((j : ℕ) → 2 * j + 2 ≤ length xs → TokenFits 64 (token_of (get_or xs (2 * j) 0) (get_or xs (2 * j + 1) 0))) → TokensFit 64 (tokens_in xs)
unfolding tokens_in TokensFit
pairs_fit [] h = tt
pairs_fit (k ∷ []) h = tt
pairs_fit (k ∷ v ∷ xs) h = (
  h 0 (omega arith),
  pairs_fit xs (λ j l.
      let two : 2 * suc j ≡ suc (suc (2 * j)) = omega arith in
      let three : 2 * suc j + 1 ≡ suc (suc (2 * j + 1)) = omega arith in
      subst (TokenFits 64) (λ i. token_of (get_or (k ∷ v ∷ xs) (two i) 0) (get_or (k ∷ v ∷ xs) (three i) 0)) (h (suc j) (omega arith))),
)

pub well_shaped_fit : (xs : List ℕ) → WellShaped xs → TokensFit 64 (tokens_in xs)
well_shaped_fit xs w = pairs_fit xs (λ j h. let f = w j (omega arith) in one_fits _ _ f.is f.word)
