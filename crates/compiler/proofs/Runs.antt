-- Runs of the machine that are composed: at most k instructions, and within limits. Assumes nothing.
use Rattle.std.proofs.Common.{◌≡◌, ℕ, zero, suc, ◌+◌, ◌≤◌, List, [], ◌∷◌, ◌++◌, length, get_or, refl, subst₂, suc-le-suc, zero-le, le_of_suc-le-suc, not-suc-le-zero, add-zero, suc-add, add-one, arith}
use Rattle.base.specs.Stores.{Store}
use Rattle.semantics.specs.Needs.{Need}
use Rattle.compiler.specs.Instr.{Instr, stop}
use Rattle.compiler.specs.Machine.{Machine, step, steps}
use Rattle.compiler.specs.Right.{Within}

infixr 30 ◌then◌
-- a machine by its parts
abbrev pub at : ℕ → List ℕ → List ℕ → ℕ → Store → ℕ → Machine
at p s l o st f = record { pc = p; stack = s; control = l; base = o; vars = st; fault = f }

-- code has c from the place p on
abbrev pub Placed : List Instr → ℕ → List Instr → Type 0
Placed code p [] = Unit {0}
Placed code p (i ∷ c) = (get_or code p stop ≡ i) × Placed code (p + 1) c

pub placed_left : (code : List Instr) (p : ℕ) (a b : List Instr) → Placed code p (a ++ b) → Placed code p a
placed_left code p [] b h = tt
placed_left code p (i ∷ a) b h = (h.0, placed_left code (p + 1) a b h.1)

pub placed_right : (code : List Instr) (p : ℕ) (a b : List Instr) → Placed code p (a ++ b) → Placed code (p + length a) b
placed_right code p [] b h = rw add-zero h
placed_right code p (i ∷ a) b h =
    let e : p + suc (length a) ≡ p + 1 + length a = omega arith in
    rw e (placed_right code (p + 1) a b h.1)

placed_later : (i : Instr) (code : List Instr) (p : ℕ) (c : List Instr) → Placed code p c → Placed (i ∷ code) (p + 1) c
placed_later i code p [] h = tt
placed_later i code p (j ∷ c) h = (rw add-one h.0, placed_later i code (p + 1) c h.1)

pub placed_whole : (c : List Instr) → Placed c 0 c
placed_whole [] = tt
placed_whole (i ∷ c) = (refl, placed_later i c 0 c (placed_whole c))

-- from m to m' in at most k instructions, within the limits on the way and at both ends
pub data Runs (elapsed : ℕ) (code : List Instr) (lim : Need) : ℕ → Machine → Machine → Type 0 where
  done : {k : ℕ} {m : Machine} → Within lim stop m → Runs elapsed code lim k m m
  next : {k : ℕ} {m m' : Machine} → Within lim (get_or code m.pc stop) m → Runs elapsed code lim k (step elapsed (get_or code m.pc stop) m) m' → Runs elapsed code lim (suc k) m m'

stays : (elapsed : ℕ) (code : List Instr) (m : Machine) → get_or code m.pc stop ≡ stop → (n : ℕ) → steps n elapsed code m ≡ m
unfolding steps
stays elapsed code m e zero = refl
stays elapsed code m e (suc n) = rw e (stays elapsed code m e n)

module _ {elapsed : ℕ} {code : List Instr} {lim : Need} where
  pub more : {k : ℕ} {m m' : Machine} (j : ℕ) → Runs elapsed code lim k m m' → k ≤ j → Runs elapsed code lim j m m'
  more j (done w) l = done w
  more zero (next w r) l = absurd (not-suc-le-zero l)
  more (suc j) (next w r) l = next w (more j r (le_of_suc-le-suc l))

  pub ◌then◌ : {k j : ℕ} {m m' m'' : Machine} → Runs elapsed code lim k m m' → Runs elapsed code lim j m' m'' → Runs elapsed code lim (k + j) m m''
  ◌then◌ {k = k} {j = j} (done w) r = more (k + j) r (omega arith)
  ◌then◌ {j = j} (next {k = k} w q) r = rw suc-add (next w (◌then◌ q r))

  -- what a run says of `steps`
  pub arrives : {k : ℕ} {m m' : Machine} → Runs elapsed code lim k m m' → (n : ℕ) × (n ≤ k) × (steps n elapsed code m ≡ m')
  unfolding steps
  arrives (done w) = (0, zero-le, refl)
  arrives (next w r) = let (n, l, e) = arrives r in (suc n, suc-le-suc l, e)

  -- what stays within the limits on the way to the end of the code stays so for ever
  pub always : {k : ℕ} {m m' : Machine} → Runs elapsed code lim k m m' → get_or code m'.pc stop ≡ stop → (n : ℕ) → Within lim (get_or code (steps n elapsed code m).pc stop) (steps n elapsed code m)
  unfolding steps
  always (done {m = m} w) e n = rw (stays elapsed code m e n, e) w
  always (next w r) e zero = w
  always (next w r) e (suc n) = always r e n

  -- one instruction, and then the rest
  pub one : {k : ℕ} {m m' : Machine} (i : Instr) → get_or code m.pc stop ≡ i → Within lim i m → Runs elapsed code lim k (step elapsed i m) m' → Runs elapsed code lim (suc k) m m'
  one i e w r = next (rw e w) (rw e r)

  -- one instruction whose effect is known, and then the rest
  pub by : {k : ℕ} {m m'' m' : Machine} (i : Instr) → get_or code m.pc stop ≡ i → step elapsed i m ≡ m'' → Within lim i m → Runs elapsed code lim k m'' m' → Runs elapsed code lim (suc k) m m'
  by i e t w r = next (rw e w) (rw (e, t) r)

  -- the same run, its place and its fault written in another way
  pub land : {k p p' o : ℕ} {s l : List ℕ} {st : Store} {f f' : ℕ} {m : Machine} → Runs elapsed code lim k m (at p s l o st f) → p ≡ p' → f ≡ f' → Runs elapsed code lim k m (at p' s l o st f')
  land {k} {o = o} {s = s} {l = l} {st = st} {m = m} r e g = subst₂ (λ q b. Runs elapsed code lim k m (at q s l o st b)) e g r
