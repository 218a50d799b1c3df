-- Tokens that are read as a tree and made into its code. Assumes nothing.
use Rattle.std.proofs.Common.{ℕ, ◌*◌, ◌<◌, ◌≤◌, List, length, take, Ok, Err, Result, subst, ⊎_elim, arith}
use Rattle.std.proofs.lemmas.Bool.{cases_lt}
use Rattle.base.specs.declared.Refusal.{Refusal}
use Rattle.base.specs.declared.Refusal.TheVariants.{Token, Program, Limit, Room, Length, Off, Time, Stamp, Point}
use Rattle.lexer.specs.Pairs.{tokens_in}
use Rattle.syntax.specs.Ast.{Stmt}
use Rattle.syntax.specs.Grammar.{Reads}
use Rattle.syntax.specs.Names.{Below}
use Rattle.syntax.specs.Theorems.{OneTree}
use Rattle.syntax.specs.Shape.{WellShaped}
use Rattle.syntax.proofs.Wholes.{length_tokens}
use Rattle.semantics.specs.Eval.{meaning}
use Rattle.semantics.proofs.Reach.{stmt_reach}
use Rattle.compiler.specs.Right.{Compiled}
use Rattle.compiler.specs.Made.{Codes, Makes, MakesRight, NeverShort}
use Rattle.compiler.proofs.Coding.{coded_right}
use Rattle.compiler.proofs.Short.{short_code}

-- at most 4,096 of them
pub few_tokens : (xs : List ℕ) → WellShaped xs → length (tokens_in xs) ≤ 4096
few_tokens xs w =
    ⊎_elim (λ (h : length xs < 8194). omega (arith, length_tokens xs)) (λ (h : 8194 ≤ length xs). absurd (omega (arith, (w 4096 (omega arith)).few))) (cases_lt (length xs) 8194)

-- a program is made into code or refused, as the tokens that are read as it are
pub makes_codes : (signs room room' : List ℕ) (r : Result ℕ Refusal) (s : Stmt) → WellShaped signs → Reads (tokens_in signs) s → Codes s room r room' → Makes signs room r room'
makes_codes signs room room' (Ok n) s w q c = record { shape = w; program = s; reads = q; coded = c }
makes_codes signs room room' (Err (Token i)) s w q c = absurd c.0
makes_codes signs room room' (Err (Program i)) s w q c = absurd c.0
makes_codes signs room room' (Err (Limit k)) s w q c = (record { shape = w; program = s; reads = q; unfit = c.0 }, c.1)
makes_codes signs room room' (Err (Room k)) s w q c = (record { shape = w; program = s; reads = q; unfit = c.0 }, c.1)
makes_codes signs room room' (Err (Length i)) s w q c = absurd c.0
makes_codes signs room room' (Err Off) s w q c = absurd c.0
makes_codes signs room room' (Err Time) s w q c = absurd c.0
makes_codes signs room room' (Err Stamp) s w q c = absurd c.0
makes_codes signs room room' (Err (Point i)) s w q c = absurd c.0

-- and right for that program
pub makes_right : (signs room room' : List ℕ) (r : Result ℕ Refusal) (s : Stmt) → OneTree → Below 64 s → Reads (tokens_in signs) s → Codes s room r room' → MakesRight signs r room'
makes_right signs room room' (Ok n) s one below q c =
    λ t u. subst (λ (x : Stmt). Compiled 64 (meaning x) (take (4 * n) room')) (one (tokens_in signs) s t q u) (coded_right 64 s room room' n (stmt_reach 64 s below) c)
makes_right signs room room' (Err e) s one below q c = tt

-- a room that is too short has fewer numbers than four for each token
pub never_short : (signs room room' : List ℕ) (r : Result ℕ Refusal) (s : Stmt) → Reads (tokens_in signs) s → Codes s room r room' → NeverShort signs r
never_short signs room room' r s q c k is =
    let d : Codes s room (Err (Room k)) room' = subst (λ (x : Result ℕ Refusal). Codes s room x room') is c in
    omega (arith, d.0.1, d.0.2, short_code (tokens_in signs) s q, length_tokens signs)
