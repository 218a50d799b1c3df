-- What is promised of every project and every history. Each is a statement; its proof is owed. Assumes nothing.
use Rattle.std.specs.Prelude.{◌≡◌, ℕ, suc, ◌+◌, ◌<◌, ◌≤◌, Bool, true, false, not, ◌⊎◌, List, [], ◌∷◌, ◌++◌, length, ◌==◌}
use Rattle.base.specs.Stores.{Store}
use Rattle.semantics.specs.Eval.{Values, Program}
use Rattle.retain.specs.Device.{stamp, recovered, write_count}
use Rattle.retain.specs.History.{Same}
use Rattle.controller.specs.World.{Project, Live, Event, start, scan, cut, force, free, needs_power, saves, input_image, executed, outputs}
use Rattle.controller.specs.Story.{tale}
use Rattle.controller.specs.History.{State, save, after}
use Rattle.controller.specs.Decided.{decided}

-- a state is as the tale of a history says: what is lost with the power, and what a start would find
pub record AsTold (p : Project) (es : List Event) (s : State) : Type 0 where
  pub lives : s.live ≡ (tale p (decided p es)).live
  pub keeps : (i : ℕ) → i < p.kept → recovered p.kept s.device i ≡ (tale p (decided p es)).kept i

-- THE THEOREM: after every history the controller is as the tale says
abbrev pub Survives : Type 0
Survives = (p : Project) (es : List Event) → AsTold p es (after p es)

-- what a start would find after a history
abbrev pub found : Project → List Event → Store
found p es = recovered p.kept (after p es).device

-- what the program of a scan after a history puts
abbrev pub put : Project → List Event → (inputs : ℕ → ℕ) → (elapsed : ℕ) → Store
put p es inputs elapsed = (executed p (after p es).live inputs elapsed).store

-- how many writes its save takes
abbrev pub writes_of : Project → List Event → (inputs : ℕ → ℕ) → (elapsed : ℕ) → ℕ
writes_of p es inputs elapsed = write_count (after p es).device (save p (after p es) inputs elapsed)

-- THE RULES of kept values, each from what a start would have found just before: a finished scan saves what its program put; a cut before the last
-- write leaves what was there, a cut after it has saved, and a cut in it has done either, for all values alike; nothing else touches the device
pub record Rules (p : Project) : Type 0 where
  pub as_made : Same p.kept (found p []) p.initial
  pub saved : (es : List Event) (inputs : ℕ → ℕ) (elapsed : ℕ) → (after p es).live.on ≡ true →
      Same p.kept (found p (scan inputs elapsed ∷ es)) (put p es inputs elapsed)
  pub cut_before : (es : List Event) (inputs : ℕ → ℕ) (elapsed k junk : ℕ) → (after p es).live.on ≡ true → suc k < writes_of p es inputs elapsed →
      Same p.kept (found p (cut inputs elapsed k junk ∷ es)) (found p es)
  pub cut_past : (es : List Event) (inputs : ℕ → ℕ) (elapsed k junk : ℕ) → (after p es).live.on ≡ true → writes_of p es inputs elapsed ≤ k →
      Same p.kept (found p (cut inputs elapsed k junk ∷ es)) (put p es inputs elapsed)
  pub cut_last : (es : List Event) (inputs : ℕ → ℕ) (elapsed k junk : ℕ) → (after p es).live.on ≡ true → suc k ≡ writes_of p es inputs elapsed →
      Same p.kept (found p (cut inputs elapsed k junk ∷ es)) (found p es) ⊎ Same p.kept (found p (cut inputs elapsed k junk ∷ es)) (put p es inputs elapsed)
  pub left_alone : (e : Event) (es : List Event) → saves e ≡ false → (after p (e ∷ es)).device ≡ (after p es).device
  pub powerless : (e : Event) (es : List Event) → needs_power e ≡ true → (after p es).live.on ≡ false → after p (e ∷ es) ≡ after p es

abbrev pub Ruled : Type 0
Ruled = (p : Project) → Rules p

-- a start finds the kept values, which are the tale's, and everything else as at first: the other variables, nothing forced, the lamp out
pub record FoundAtStart (p : Project) (es : List Event) : Type 0 where
  pub on : (after p (start ∷ es)).live.on ≡ true
  pub kept : (i : ℕ) → i < p.kept → (after p (start ∷ es)).live.store i ≡ found p es i
  pub told : (i : ℕ) → i < p.kept → (after p (start ∷ es)).live.store i ≡ (tale p (decided p es)).kept i
  pub others : (i : ℕ) → p.kept ≤ i → (after p (start ∷ es)).live.store i ≡ p.initial i
  pub free : (i : ℕ) → (after p (start ∷ es)).live.forced i ≡ false
  pub lamp : (after p (start ∷ es)).live.lamp ≡ false

abbrev pub StartFinds : Type 0
StartFinds = (p : Project) (es : List Event) → FoundAtStart p es

-- P holds of each event
abbrev pub Each : (Event → Type 0) → List Event → Type 0
Each P [] = Unit {0}
Each P (e ∷ es) = P e × Each P es

-- an event that leaves point i forced as it is: no start, no cut, and neither force nor free of that point
abbrev pub passes_by : ℕ → Event → Bool
passes_by i start = false
passes_by i (scan inputs elapsed) = true
passes_by i (cut inputs elapsed k junk) = false
passes_by i (force j v) = not (i == j)
passes_by i (free j) = not (i == j)

-- point i shows v, and the program sees v there, whatever comes from outside
pub record Shows (p : Project) (i v : ℕ) (s : Live) : Type 0 where
  pub shown : outputs s i ≡ v
  pub seen : (inputs : ℕ → ℕ) → input_image p.input s inputs i ≡ v

-- a forced point shows its number until it is freed or forced anew or the power goes, whatever else happens between
abbrev pub ForceStays : Type 0
ForceStays =
    (p : Project) (es gs : List Event) (i v : ℕ) → (after p es).live.on ≡ true → Each (λ e. passes_by i e ≡ true) gs →
    Shows p i v (after p (gs ++ (force i v ∷ es))).live

-- all of a store's numbers are words
abbrev pub Words : Store → Type 0
Words s = (i : ℕ) → s i < 65536

-- a program that makes words of words
abbrev pub KeepsWords : Program → Type 0
KeepsWords q = (elapsed : ℕ) (r : Values) → Words r.store → Words (q elapsed r).store

-- an event brings words; what a cut leaves in its cell may be any number
abbrev pub BringsWords : Event → Type 0
BringsWords start = Unit {0}
BringsWords (scan inputs elapsed) = Words inputs
BringsWords (cut inputs elapsed k junk) = Words inputs
BringsWords (force i v) = v < 65536
BringsWords (free i) = Unit {0}

-- values, outputs and kept values are words
pub record AllWords (p : Project) (es : List Event) : Type 0 where
  pub values : Words (after p es).live.store
  pub shown : Words (outputs (after p es).live)
  pub kept : (i : ℕ) → i < p.kept → found p es i < 65536

-- words stay words
abbrev pub WordsStay : Type 0
WordsStay = (p : Project) (es : List Event) → Words p.initial → KeepsWords p.program → Each BringsWords es → AllWords p es

-- a stamp is at most one more than the number of events
abbrev pub StampsLast : Type 0
StampsLast = (p : Project) (es : List Event) → stamp p.kept (after p es).device ≤ length es + 1
