-- What is known of a text once it was cut and compiled.
use Rattle.std.proofs.Common.{◌≡◌, ℕ, ◌+◌, ◌*◌, ◌/◌, ◌<◌, ◌≤◌, List, length, get_or, take, Ok, Err, vec_items, Result, Vec, sym, refl, ap, ◌∙◌, subst, arith}
use Rattle.std.specs.declared.alloc.Global.{Global}
use Rattle.base.specs.declared.Refusal.{Refusal}
use Rattle.base.specs.declared.Refusal.TheVariants.{Token as BadToken, Program as NoProgram, Limit, Room, Length, Off, Time, Stamp, Point}
use Rattle.lexer.specs.declared.Token.{Token}
use Rattle.lexer.specs.Pairs.{pairs, tokens_in}
use Rattle.lexer.specs.Outcome.{Broken, Refused, Tokenized}
use Rattle.lexer.proofs.PairLaws.{pairs_back, pairs_length, cuts_shaped, written_front}
use Rattle.syntax.specs.Ast.{Stmt}
use Rattle.syntax.specs.Grammar.{Reads}
use Rattle.syntax.specs.Theorems.{Placed}
use Rattle.syntax.specs.Shape.{Fine, Misshapen}
use Rattle.semantics.specs.Eval.{meaning}
use Rattle.semantics.specs.Needs.{stmt_need, Fits}
use Rattle.compiler.specs.Made.{Made, Makes, MakesRight, Refused as UnmadeSo, NeverShort}
use Rattle.compiler.specs.Code.{code_in}
use Rattle.compiler.specs.Right.{Right, Compiled}
use Rattle.compiler.proofs.Within.{coded_within}
use Rattle.headers.specs.Header.{Plan, read_project}
use Rattle.loading.specs.declared.load.Loaded.{Loaded}
use Rattle.loading.specs.declared.load.Failure.{Failure}
use Rattle.loading.specs.declared.load.Failure.TheVariants.{Program}
use Rattle.loading.specs.Loading.{CutUp, Uncoded, CodedFor, CodedWithinNeeds, ReadyWithinNeeds}

-- a text that is refused, with a room of the right length, can't be cut
pub uncut : (text room : List ℕ) (e : Refusal) → length room ≡ 8192 → Refused text room e → (p : ℕ) × (e ≡ BadToken p) × Broken text p
uncut text room (BadToken p) l h = (p, refl, h)
uncut text room (NoProgram p) l h = absurd h
uncut text room (Limit p) l h = absurd h
uncut text room (Room p) l h = absurd h
uncut text room (Length i) l h = absurd (h.2 l)
uncut text room Off l h = absurd h
uncut text room Time l h = absurd h
uncut text room Stamp l h = absurd h
uncut text room (Point p) l h = absurd h

-- the tokens that were written are those of the text
pub cut_so : (text room room₁ : List ℕ) (r : Result ℕ Refusal) (n : ℕ) (xs : List ℕ) → Tokenized text room r room₁ → r ≡ Ok n → xs ≡ take (2 * n) room₁ →
    (ts : List Token) × (xs ≡ pairs ts) × CutUp text ts
cut_so text room room₁ r n xs h is e =
    let told = subst (λ (v : Result ℕ Refusal). Tokenized text room v room₁) is h in
    (told.0.tokens, e ∙ written_front text room room₁ n told.0, record { cuts = told.0.cuts; few = omega (arith, told.1, told.0.count) })

-- every pair of a text's tokens is one
whole : (text : List ℕ) (ts : List Token) (i : ℕ) → CutUp text ts → ((j : ℕ) → get_or (pairs ts) j 0 < 65536) → 2 * i < length (pairs ts) → Fine (pairs ts) i
whole text ts i c small lt =
    let low : i < length ts = omega (arith, pairs_length ts) in
    record { there = omega (arith, pairs_length ts); few = omega (arith, c.few); word = small (2 * i + 1); is = cuts_shaped c.cuts i low }

-- why the tokens of a text are not made into code
pub uncoded : (xs room : List ℕ) (e : Refusal) → ((j : ℕ) → get_or xs j 0 < 65536) → length room ≡ 16388 → UnmadeSo xs room e → NeverShort xs (Err e) →
    (text : List ℕ) (ts : List Token) → CutUp text ts → xs ≡ pairs ts → Uncoded ts e
uncoded xs room (BadToken i) small l h short text ts c q =
    let g : Misshapen (pairs ts) i = subst (λ (v : List ℕ). Misshapen v i) q h in
    let words : (j : ℕ) → get_or (pairs ts) j 0 < 65536 = λ j. subst (λ (v : List ℕ). get_or v j 0 < 65536) q (small j) in
    absurd (g.here (whole text ts i c words g.there))
uncoded xs room (NoProgram i) small l h short text ts c q = subst (λ (v : List Token). Placed v i) (ap tokens_in q ∙ pairs_back ts) h.1
uncoded xs room (Limit k) small l h short text ts c q =
    (h.program, subst (λ (v : List Token). Reads v h.program) (ap tokens_in q ∙ pairs_back ts) h.reads, h.unfit)
uncoded xs room (Room k) small l h short text ts c q =
    let size : length xs ≡ 2 * length ts = ap length q ∙ pairs_length ts in
    let half : length xs / 2 ≡ length ts = omega (arith, size) in
    omega (arith, short k refl, h.unfit.2, l, half, c.few)
uncoded xs room (Length p) small l h short text ts c q = absurd h
uncoded xs room Off small l h short text ts c q = absurd h
uncoded xs room Time small l h short text ts c q = absurd h
uncoded xs room Stamp small l h short text ts c q = absurd h
uncoded xs room (Point p) small l h short text ts c q = absurd h

-- so it is answered
pub uncoded_so : (xs room room' : List ℕ) (made : Result ℕ Refusal) (e : Refusal) (answer : Result (Vec ℕ Global) Failure) → ((j : ℕ) → get_or xs j 0 < 65536) → length room ≡ 16388 →
    Makes xs room made room' → NeverShort xs made → made ≡ Err e → answer ≡ Err (Program e) → record { coded : CodedFor xs answer; within : CodedWithinNeeds xs answer }
uncoded_so xs room room' made e answer small l h short is told =
    let why = subst (λ (v : Result ℕ Refusal). Makes xs room v room') is h in
    rw told (record { coded = uncoded xs room e small l why.0 (subst (NeverShort xs) is short); within = tt })

-- what was made of a text's tokens
coded : (xs room room' : List ℕ) (n : ℕ) (code : List ℕ) → Made xs room n room' → ((s : Stmt) → Reads (tokens_in xs) s → Compiled 64 (meaning s) (take (4 * n) room')) → code ≡ take (4 * n) room' →
    (ts : List Token) → xs ≡ pairs ts → (s : Stmt) × Reads ts s × Fits (stmt_need s) × Compiled 64 (meaning s) code × Right (meaning s) (stmt_need s) (code_in code)
coded xs room room' n code m right front ts q = (
  m.program,
  subst (λ (v : List Token). Reads v m.program) (ap tokens_in q ∙ pairs_back ts) m.reads,
  m.coded.fits,
  subst (λ (v : List ℕ). Compiled 64 (meaning m.program) v) (sym front) (right m.program m.reads),
  subst (λ (v : List ℕ). Right (meaning m.program) (stmt_need m.program) (code_in v)) (sym front) (coded_within m.program room room' n m.coded),
)

-- and so it is answered
pub coded_so : (xs room room' : List ℕ) (made : Result ℕ Refusal) (n : ℕ) (v : Vec ℕ Global) → Makes xs room made room' → MakesRight xs made room' → made ≡ Ok n → vec_items v ≡ take (4 * n) room' →
    record { coded : CodedFor xs (Ok v); within : CodedWithinNeeds xs (Ok v) }
coded_so xs room room' made n v h right is front =
    let m = subst (λ (r : Result ℕ Refusal). Makes xs room r room') is h in
    let within = coded xs room room' n (vec_items v) m (subst (λ (r : Result ℕ Refusal). MakesRight xs r room') is right) front in
    record { coded = λ ts q. let w = within ts q in (w.0, w.1, w.2, w.3); within = within }

-- what is loaded is ready, within the needs of the program that its tokens are
pub ready_within : (text : List ℕ) (l : Loaded) (h : Plan) (ts : List Token) → read_project text ≡ Ok h → CutUp h.program ts →
    (s : Stmt) × Reads ts s × Fits (stmt_need s) × Compiled 64 (meaning s) (vec_items l.code) × Right (meaning s) (stmt_need s) (code_in (vec_items l.code)) →
    h.kept ≤ 64 → l.kept ≡ h.kept → l.inputs ≡ h.inputs → l.firsts ≡ h.firsts → ReadyWithinNeeds text l
ready_within text l h ts header cut w low kept inputs firsts = record {
  ready = record {
    plan = h;
    program = w.0;
    taken = record { parsed = record { tokens = ts; read_up = record { header = header; cut_up = cut }; reads = w.1 }; fits = w.2; low = low };
    same_kept = kept;
    same_inputs = inputs;
    same_firsts = firsts;
    compiled = w.3;
  };
  within = w.4;
}
