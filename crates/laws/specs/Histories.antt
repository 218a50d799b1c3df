-- Laws of every history of a project: what is never assigned is as at first, what is not read is not seen. Assumes nothing: these are definitions and statements.
use Rattle.std.specs.Prelude.{◌≡◌, ℕ, ◌<◌, ◌≤◌, true, false, List, [], ◌∷◌, ◌++◌}
use Rattle.syntax.specs.Ast.{Stmt}
use Rattle.controller.specs.World.{Project, Event, start, scan, cut, force, free, outputs}
use Rattle.controller.specs.History.{State, after}
use Rattle.controller.specs.Memory.{flags}
use Rattle.controller.specs.Promises.{Each, found}
use Rattle.headers.specs.Header.{Plan}
use Rattle.project.specs.Loading.{project_of}
use Rattle.laws.specs.Language.{Unread, Unassigned, AgreeBut}

-- an event does not force the point i
abbrev pub Unforced : (i : ℕ) → Event → Type 0
Unforced i start = Unit {0}
Unforced i (scan inputs elapsed) = Unit {0}
Unforced i (cut inputs elapsed k junk) = Unit {0}
Unforced i (force j v) = i ≡ j → ⊥
Unforced i (free j) = Unit {0}

-- a variable is as at first: its value and what is shown, while there is power, and what a start would find
pub record AsFirst (p : Project) (es : List Event) (i : ℕ) : Type 0 where
  pub value : (after p es).live.on ≡ true → (after p es).live.store i ≡ p.initial i
  pub shown : (after p es).live.on ≡ true → outputs (after p es).live i ≡ p.initial i
  pub kept : i < p.kept → found p es i ≡ p.initial i

-- a variable that is never assigned, does not come from outside and is never forced is as at first, after every history
abbrev pub Constants : Type 0
Constants =
    (h : Plan) (s : Stmt) (i : ℕ) (es : List Event) → Unassigned i s → flags h.inputs i ≡ false → Each (Unforced i) es → AsFirst (project_of h s) es i

-- two events are the same but for what comes in at the point i, or what it is forced to
pub data SameBut (i : ℕ) : Event → Event → Type 0 where
  same : (e : Event) → SameBut i e e
  scans : (f g : ℕ → ℕ) (elapsed : ℕ) → AgreeBut i f g → SameBut i (scan f elapsed) (scan g elapsed)
  cuts : (f g : ℕ → ℕ) (elapsed k junk : ℕ) → AgreeBut i f g → SameBut i (cut f elapsed k junk) (cut g elapsed k junk)
  forces : (v w : ℕ) → SameBut i (force i v) (force i w)

-- so it is with two histories, event by event
pub data HistoriesBut (i : ℕ) : List Event → List Event → Type 0 where
  none : HistoriesBut i [] []
  more : {e g : Event} {es gs : List Event} → SameBut i e g → HistoriesBut i es gs → HistoriesBut i (e ∷ es) (g ∷ gs)

-- nobody sees a difference but at the point i: power, lamp, what every other point shows, and the device
pub record LooksAlike (i : ℕ) (s t : State) : Type 0 where
  pub power : s.live.on ≡ t.live.on
  pub lamp : s.live.lamp ≡ t.live.lamp
  pub shown : AgreeBut i (outputs s.live) (outputs t.live)
  pub device : s.device ≡ t.device

-- what comes in at a point, or is forced on it, makes no difference to anything else, if the program does not read it and it is not kept
abbrev pub UnreadUnseen : Type 0
UnreadUnseen =
    (h : Plan) (s : Stmt) (i : ℕ) (es gs : List Event) → Unread i s → h.kept ≤ i → HistoriesBut i es gs → LooksAlike i (after (project_of h s) es) (after (project_of h s) gs)

-- an event that leaves the power on, and starts nothing anew
abbrev pub KeepsPower : Event → Type 0
KeepsPower start = ⊥
KeepsPower (scan inputs elapsed) = Unit {0}
KeepsPower (cut inputs elapsed k junk) = ⊥
KeepsPower (force i v) = Unit {0}
KeepsPower (free i) = Unit {0}

-- a lamp that is lit stays lit until a start or a cut
abbrev pub LampStays : Type 0
LampStays =
    (h : Plan) (s : Stmt) (es gs : List Event) → (after (project_of h s) es).live.on ≡ true → (after (project_of h s) es).live.lamp ≡ true → Each KeepsPower gs →
    (after (project_of h s) (gs ++ es)).live.lamp ≡ true
