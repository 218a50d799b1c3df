-- The parser's run on pairs of numbers, and what it comes to.
use Rattle.std.proofs.Common.{◌≡◌, ℕ, suc, ◌+◌, ◌*◌, ◌/◌, ◌<◌, ◌≤◌, ◌≢◌, List, [], ◌∷◌, ◌++◌, length, get_or, Some, None, Option, Ok, sym, refl, ap, ◌∙◌, subst, inl, inr, arith, length-append}
use mathlib.Core.Option as option
use Rattle.std.proofs.str.Laws.{order}
use Rattle.std.specs.Option.{ok_or}
use Rattle.base.specs.declared.Refusal.TheVariants.{Program}
use Rattle.syntax.specs.Ast.{Stmt}
use Rattle.lexer.specs.declared.Token.{Token}
use Rattle.lexer.specs.Pairs.{token_of, tokens_in}
use Rattle.syntax.specs.Parser.{top, then_in, else_in, repeat_in, statement, step, at_top, whole_program, start, run, parse, refused}
use Rattle.syntax.specs.Parser as parser
use Rattle.syntax.specs.Expects.{last_state}
use Rattle.syntax.specs.Frames.{Outers, Rows, Closes}
use Rattle.syntax.specs.Reading.{Next, Read, total, Laid}
use Rattle.syntax.specs.declared.state.Parser.{Parser}
use Rattle.syntax.specs.declared.state.State.{State}
use Rattle.syntax.specs.declared.state.State.TheVariants.{Statement, LengthNext, Ended, Operand, Operated}
use Rattle.syntax.specs.Program.{Held, ProgramOf}
use Rattle.syntax.proofs.Naming.{program_fits, well_shaped_fit}
use Rattle.syntax.proofs.Shortest.{shortest_texts}
use Rattle.syntax.proofs.Sound.{sound}
use Rattle.syntax.specs.Shape.{WellShaped}
use Rattle.syntax.specs.Whole.{EndsAs, Ends, ReadsAll, Halts}

-- where the program may end
module _ (p p' : Parser) where
  pub ends_whole : Closes p p' → p'.used + p'.depth ≡ p.used + p.depth + 1 → p'.depth ≡ 0 → Ends p Statement p' (Some p'.last)
  unfolding whole_program Outers at_top
  ends_whole f w z q ((ss, top), e, h) =
      let a = f (ss, top) h in
      subst (λ (x : parser.State). EndsAs (whole_program x) (p.used + p.depth) p'.nodes (Some p'.last)) (sym e) (p'.last, refl, omega (arith, a.1.0), a.1.1)
  ends_whole f w z q ((ss, then_in y acc k), e, h) = absurd (omega (arith, (f (ss, then_in y acc k) h).0.3))
  ends_whole f w z q ((ss, else_in y u acc k), e, h) = absurd (omega (arith, (f (ss, else_in y u acc k) h).0.4))
  ends_whole f w z q ((ss, repeat_in y acc k), e, h) = absurd (omega (arith, (f (ss, repeat_in y acc k) h).0.2))

  nowhere : (q r : parser.State) (n : ℕ) → q ≡ r → whole_program r ≡ option.none → EndsAs (whole_program q) n p'.nodes None
  nowhere q r n e z = subst (λ (x : option.Option Stmt). EndsAs x n p'.nodes None) (sym (ap whole_program e ∙ z)) refl

  pub ends_inside : Closes p p' → p'.depth ≢ 0 → Ends p Statement p' None
  unfolding whole_program Outers at_top
  ends_inside f z q ((ss, top), e, h) = absurd (z (f (ss, top) h).0)
  ends_inside f z q ((ss, then_in y acc k), e, h) = nowhere q _ _ e refl
  ends_inside f z q ((ss, else_in y u acc k), e, h) = nowhere q _ _ e refl
  ends_inside f z q ((ss, repeat_in y acc k), e, h) = nowhere q _ _ e refl

  pub ends_elsewhere : (state : State) → (state ≡ Statement → ⊥) → Ends p state p' None
  unfolding whole_program
  ends_elsewhere Statement h q l = absurd (h refl)
  ends_elsewhere (LengthNext x y) h q l = nowhere q _ _ l.2 refl
  ends_elsewhere Ended h q l = nowhere q _ _ l.2 refl
  ends_elsewhere Operand h q l = nowhere q _ _ l.2 refl
  ends_elsewhere Operated h q l = nowhere q _ _ l.2 refl
  ends_elsewhere s h q l = nowhere q _ _ l.1 refl

-- the parser has come so far: i pairs are read, and the rest is left
pub record Sofar (xs rest : List ℕ) (i : ℕ) (p : Parser) (state : State) : Type 0 where
  pub here : parser.State
  pub laid : Laid p state here
  pub parsed : parse (tokens_in xs) ≡ run i here (tokens_in rest)
  pub last : last_state start (tokens_in xs) ≡ last_state here (tokens_in rest)

-- the beginning
pub begun : (xs : List ℕ) (p : Parser) → p.depth ≡ 0 → Sofar xs xs 0 p Statement
unfolding parse start Rows Outers
begun xs p z = record { here = statement ([], top); laid = (([], top), refl, record { base = 0; rows = z; outer = refl }); parsed = refl; last = refl }

-- the tokens of a pair and more
one_token : (pair rest : List ℕ) → length pair ≡ 2 → tokens_in (pair ++ rest) ≡ token_of (get_or pair 0 0) (get_or pair 1 0) ∷ tokens_in rest
unfolding tokens_in
one_token [] rest h = absurd (omega arith)
one_token (a ∷ []) rest h = absurd (omega arith)
one_token (a ∷ b ∷ []) rest h = refl
one_token (a ∷ b ∷ c ∷ pair) rest h = absurd (omega arith)

no_token : (xs : List ℕ) → length xs < 2 → tokens_in xs ≡ []
unfolding tokens_in
no_token [] h = refl
no_token (k ∷ []) h = refl
no_token (k ∷ n ∷ xs) h = absurd (omega arith)

-- one token more
module _ (xs pair rest left : List ℕ) (i : ℕ) (p p' : Parser) (state : State) (e : left ≡ pair ++ rest) (h : length pair ≡ 2) (f : Sofar xs left i p state) where
  abbrev pub next : Token
  next = token_of (get_or pair 0 0) (get_or pair 1 0)

  split : tokens_in left ≡ next ∷ tokens_in rest
  split = ap tokens_in e ∙ one_token pair rest h

  pub turned : (u : Token) (r : State) → u ≡ next → Read u p state p' (Some r) → Sofar xs rest (i + 1) p' r
  unfolding run last_state
  turned u r v d = go (step f.here next) refl (subst (λ (x : Token). Next (step f.here x) p' (Some r)) v (d f.here f.laid))
    where
      go : (o : option.Option parser.State) → step f.here next ≡ o → Next o p' (Some r) → Sofar xs rest (i + 1) p' r
      go (option.some q) z l =
          let one : i + 1 ≡ suc i = omega arith in
          record { here = q; laid = l; parsed = f.parsed ∙ (rw (one, split, z, run)); last = f.last ∙ (rw (split, z, last_state)) }
      go option.none z l = cc

  pub stopped : (u : Token) → u ≡ next → 2 * i + length left ≡ length xs → Read u p state p' None → Halts xs p' state i
  unfolding run last_state
  stopped u v n d = go (step f.here next) refl (subst (λ (x : Token). Next (step f.here x) p' None) v (d f.here f.laid))
    where
      more : i < length xs / 2
      more = omega (arith, ap length e, length-append pair rest)

      go : (o : option.Option parser.State) → step f.here next ≡ o → Next o p' None → Halts xs p' state i
      go (option.some q) z l = absurd l
      go option.none z l = record { here = f.here; before = p; laid = f.laid; last = f.last ∙ (rw (split, z, last_state)); refused = λ k. f.parsed ∙ (rw (split, z, run)); all = λ k. absurd (omega (arith, more)) }

-- the end
pub ended : (xs left : List ℕ) (i : ℕ) (p : Parser) (state : State) → length left < 2 → 2 * i + length left ≡ length xs → total p state ≤ i → Sofar xs left i p state → Halts xs p state (length xs / 2)
unfolding last_state
ended xs left i p state h n small f =
    let z = no_token left h in
    let at : i ≡ length xs / 2 = omega arith in
    record { here = f.here; before = p; laid = f.laid; last = f.last ∙ (rw z); refused = λ k. absurd (omega (arith, k)); all = λ k. (refl, omega arith, f.laid, rw (← at) (f.parsed ∙ (rw z))) }

-- what comes of all tokens
pub ended_all : (xs : List ℕ) (p p' : Parser) (state : State) (i : ℕ) (o : Option ℕ) → Halts xs p state i → length xs / 2 ≤ i → Ends p state p' o → ReadsAll xs p'.nodes (ok_or o (Program i))
unfolding run
ended_all xs p p' state i o h n f =
    let a = h.all n in
    go (whole_program h.here) refl o (f h.here a.2)
  where
    go : (w : option.Option Stmt) → whole_program h.here ≡ w → (o : Option ℕ) → EndsAs w (total p state) p'.nodes o → ReadsAll xs p'.nodes (ok_or o (Program i))
    go (option.some t) e (Some x) l =
        let at : x ≡ l.0 = cc in
        (t, (h.all n).3 ∙ (rw (e, run)), omega (arith, l.2, (h.all n).0, (h.all n).1), rw at l.3)
    go (option.some t) e None l = let w = l.1 in cc
    go option.none e (Some x) l = cc
    go option.none e None l = (i, refl, (h.all n).3 ∙ (rw (e, run)))

pub few : (xs : List ℕ) → WellShaped xs → length xs / 2 ≤ 4096
few xs w = elim (order 4096 (length xs / 2)) [ inl h ↦ absurd (omega (arith, (w 4096 (omega arith)).few)) | inr h ↦ h ]

-- as many tokens as pairs
pub length_tokens : (xs : List ℕ) → length (tokens_in xs) ≡ length xs / 2
unfolding tokens_in
length_tokens [] = refl
length_tokens (k ∷ []) = refl
length_tokens (k ∷ n ∷ xs) = omega (arith, length_tokens xs)

-- what has been read is the program
pub program_of : (xs m : List ℕ) (x : ℕ) → WellShaped xs → ReadsAll xs m (Ok x) → ProgramOf xs m x
program_of xs m x w a =
    let r = sound _ _ a.1 in
    let f = program_fits 64 _ _ r (well_shaped_fit xs w) in
    record { program = a.0; reads = r; holds = a.3; names = f.0; words = f.1; few = a.2; short = omega (arith, shortest_texts.programs _ _ r, length_tokens xs) }

pub held : (xs m : List ℕ) (x : ℕ) → WellShaped xs → ProgramOf xs m x → Held m x
held xs m x w p =
    record { program = p.program; holds = p.holds; names = p.names; words = p.words; short = omega (arith, p.short, few xs w) }
