-- Messages that point at a place. Assumes nothing.
use Rattle.std.proofs.Common.{◌≡◌, ℕ, ◌+◌, min, false, eqb, List, length, IfOk, Ok, Err, string_bytes, codes, Result, String, sym, refl, ap, ◌∙◌, subst, ap₂, subst₂}
use Rattle.std.specs.declared.alloc.AllocError.{AllocError}
use Rattle.std.specs.declared.alloc.Global.{Global}
use Rattle.std.proofs.lemmas.Bool.{ne_eqb}
use Rattle.base.specs.declared.Refusal.{Refusal}
use Rattle.base.specs.declared.Refusal.TheVariants.{Token as BadToken, Program as NoProgram, Limit, Room, Length, Off, Time, Stamp, Point}
use Rattle.lexer.specs.declared.Token.{Token}
use Rattle.lexer.specs.Outcome.{Written, Refused, Tokenized}
use Rattle.lexer.proofs.Cutting.{one_way, refused_rightly_lem}
use Rattle.loading.specs.Loading.{CutUp}
use Rattle.loading.proofs.Loads.{uncut}
use Rattle.loading.specs.declared.load.Failure.{Failure}
use Rattle.loading.specs.declared.load.Failure.TheVariants.{Memory, Header, Program, Script}
use Rattle.messages.specs.MessageText.{message}
use Rattle.messages.specs.Messages.{program_start, program_text, limit_text, by_token, TokenStands, Points, Mismatched, LimitSays, ProgramSays, Says, SaysWhere}

-- of a refusal that is not 1 the other thing
pub no_token : {A : Type 0} (e : Refusal) (of-token : ℕ → A) (other : A) → ((p : ℕ) → e ≡ BadToken p → ⊥) → by_token e of-token other ≡ other
no_token (BadToken p) f other h = absurd (h p refl)
no_token (NoProgram p) f other h = refl
no_token (Limit p) f other h = refl
no_token (Room p) f other h = refl
no_token (Length p) f other h = refl
no_token Off f other h = refl
no_token Time f other h = refl
no_token Stamp f other h = refl
no_token (Point p) f other h = refl

-- a limit that is neither cost nor height
pub deep_text : (k : ℕ) → (k ≡ 0 → ⊥) → (k ≡ 1 → ⊥) → limit_text k ≡ codes "the program has more than 8 repetitions one in another"
deep_text k a b =
    let x : eqb k 0 ≡ false = ne_eqb k 0 a in
    let y : eqb k 1 ≡ false = ne_eqb k 1 b in
    rw (x, y)

-- a message at a place that is known, with a sentence that is
pub at_place : (r : Result (String Global) AllocError) (file text : List ℕ) (e : Refusal) (at at₁ : ℕ) (sentence sentence₁ : List ℕ) → at ≡ at₁ → sentence ≡ sentence₁ →
    IfOk r (λ s. string_bytes s ≡ message file text at e sentence) → IfOk r (λ s. string_bytes s ≡ message file text at₁ e sentence₁)
at_place (Ok s) file text e at at₁ sentence sentence₁ place same is = is ∙ ap₂ (λ (n : ℕ) (l : List ℕ). message file text n e l) place same
at_place (Err x) file text e at at₁ sentence sentence₁ place same is = tt

module _ (r : Result (String Global) AllocError) (file text : List ℕ) where
  -- what is said of any refusal but 1 and 2
  pub limit_said : (e : Refusal) → ((p : ℕ) → e ≡ BadToken p → ⊥) → ((p : ℕ) → e ≡ NoProgram p → ⊥) → IfOk r (λ s. LimitSays file text e (string_bytes s)) → IfOk r (λ s. ProgramSays file text e (string_bytes s))
  limit_said (BadToken p) a b h = absurd (a p refl)
  limit_said (NoProgram p) a b h = absurd (b p refl)
  limit_said (Limit p) a b h = h
  limit_said (Room p) a b h = h
  limit_said (Length p) a b h = h
  limit_said Off a b h = h
  limit_said Time a b h = h
  limit_said Stamp a b h = h
  limit_said (Point p) a b h = h

pub token_said : (r : Result (String Global) AllocError) (file text : List ℕ) (e : Refusal) (start at p : ℕ) (sentence : List ℕ) → e ≡ BadToken p → start ≡ program_start text → at ≡ min (length text) (start + p) →
    IfOk r (λ s. string_bytes s ≡ message file text at (BadToken p) sentence) → IfOk r (λ s. ProgramSays file text e (string_bytes s))
token_said (Ok s) file text e start at p sentence same starts place is =
    subst (λ (x : Refusal). ProgramSays file text x (string_bytes s)) (sym same)
    (record { sentence = sentence; is = is ∙ ap (λ (n : ℕ). message file text n (BadToken p) sentence) (place ∙ ap (λ (n : ℕ). min (length text) (n + p)) starts) })
token_said (Err x) file text e start at p sentence same starts place is = tt

pub program_said : (r : Result (String Global) AllocError) (file text : List ℕ) (e : Refusal) (i at : ℕ) (program : List ℕ) → e ≡ NoProgram i → at ≡ program_start text → program ≡ program_text text →
    IfOk r (λ s. Mismatched file text at program i (string_bytes s)) → IfOk r (λ s. ProgramSays file text e (string_bytes s))
program_said (Ok s) file text e i at program same starts is h =
    subst (λ (x : Refusal). ProgramSays file text x (string_bytes s)) (sym same)
    (subst₂ (λ (a : ℕ) (t : List ℕ). Mismatched file text a t i (string_bytes s)) starts is h)
program_said (Err x) file text e i at program same starts is h = tt

-- so many tokens a text has
count_is : (text room room₁ : List ℕ) (n : ℕ) → Written text room room₁ n → (ts : List Token) → CutUp text ts → n ≡ length ts
count_is text room room₁ n w ts up = sym w.count ∙ ap length (one_way text w.tokens ts w.cuts up.cuts)

pub token_pointed : (r : Result (String Global) AllocError) (file text : List ℕ) (start : ℕ) (program : List ℕ) (i at : ℕ) (sentence room room₁ : List ℕ) (n : ℕ) → Written program room room₁ n →
    TokenStands text program start n i at → IfOk r (λ s. string_bytes s ≡ message file text at (NoProgram i) sentence) → IfOk r (λ s. Mismatched file text start program i (string_bytes s))
token_pointed (Ok s) file text start program i at sentence room room₁ n w stands is =
    record {
      at = at;
      points = record { sentence = sentence; is = is };
      stands = λ ts up. subst (λ (m : ℕ). TokenStands text program start m i at) (count_is program room room₁ n w ts up) stands;
    }
token_pointed (Err x) file text start program i at sentence room room₁ n w stands is = tt

-- a text that is refused is not cut into any tokens
none : (text room : List ℕ) (e : Refusal) (ts : List Token) → length room ≡ 8192 → Refused text room e → CutUp text ts → ⊥
none text room e ts size why up =
    let broken = uncut text room e size why in
    refused_rightly_lem text broken.0 (length ts) broken.2 (record { tokens = ts; cuts = up.cuts; count = refl; few = up.few })

pub nowhere_pointed : (r : Result (String Global) AllocError) (file text : List ℕ) (start : ℕ) (program : List ℕ) (i at : ℕ) (sentence room room₁ : List ℕ) (cut : Result ℕ Refusal) → length room ≡ 8192 →
    ((n : ℕ) → cut ≡ Ok n → ⊥) → Tokenized program room cut room₁ →
    IfOk r (λ s. string_bytes s ≡ message file text at (NoProgram i) sentence) → IfOk r (λ s. Mismatched file text start program i (string_bytes s))
nowhere_pointed (Ok s) file text start program i at sentence room room₁ (Ok n) size not why is = absurd (not n refl)
nowhere_pointed (Ok s) file text start program i at sentence room room₁ (Err e) size not why is =
    record { at = at; points = record { sentence = sentence; is = is }; stands = λ ts up. absurd (none program room e ts size why.0 up) }
nowhere_pointed (Err x) file text start program i at sentence room room₁ cut size not why is = tt

-- whatever is said of a program, it points somewhere
program_points : (file text : List ℕ) (e : Refusal) (line : List ℕ) → ProgramSays file text e line → Points file text e line
program_points file text (BadToken p) line h = record { at = min (length text) (program_start text + p); sentence = h.sentence; is = h.is }
program_points file text (NoProgram i) line h = record { at = h.at; sentence = h.points.sentence; is = h.points.is }
program_points file text (Limit k) line h = record { at = _; sentence = _; is = h }
program_points file text (Room k) line h = record { at = _; sentence = _; is = h }
program_points file text (Length k) line h = record { at = _; sentence = _; is = h }
program_points file text Off line h = record { at = _; sentence = _; is = h }
program_points file text Time line h = record { at = _; sentence = _; is = h }
program_points file text Stamp line h = record { at = _; sentence = _; is = h }
program_points file text (Point k) line h = record { at = _; sentence = _; is = h }

-- what says where it points says what it should
says : (file project script : List ℕ) (f : Failure) (line : List ℕ) → SaysWhere file project script f line → Says file project script f line
says file project script Memory line h = h
says file project script (Header e) line h = record { at = _; sentence = _; is = h }
says file project script (Program e) line h = program_points file project e line h
says file project script (Script e) line h = h

pub says_of : (r : Result (String Global) AllocError) (file project script : List ℕ) (f : Failure) → IfOk r (λ s. SaysWhere file project script f (string_bytes s)) → IfOk r (λ s. Says file project script f (string_bytes s))
says_of (Ok s) file project script f h = says file project script f (string_bytes s) h
says_of (Err x) file project script f h = tt

-- what is said of a failure that is known
pub said_of : (r : Result (String Global) AllocError) (file project script : List ℕ) (f g : Failure) → f ≡ g → IfOk r (λ s. SaysWhere file project script g (string_bytes s)) → IfOk r (λ s. SaysWhere file project script f (string_bytes s))
said_of r file project script f g e = subst (λ (x : Failure). IfOk r (λ s. SaysWhere file project script x (string_bytes s))) (sym e)
