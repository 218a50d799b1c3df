-- States with equal parts are equal; what an event makes of a memory stands for its history with the event added.
use Rattle.std.proofs.Common.{◌≡◌, ℕ, ◌+◌, ◌≤◌, eqb, List, ◌∷◌, get_or, sym, ap, ◌∙◌, subst, arith}
use mathlib.Core.Path.{fun_ext}
use Rattle.base.specs.Stores.{region}
use Rattle.controller.specs.World.{Project, Live, Event}
use Rattle.controller.specs.History.{State, react, after}
use Rattle.controller.specs.Promises.{AsTold}
use Rattle.controller.specs.Memory.{live_in, state_in, device_in, marks, StandsFor}
use Rattle.controller.specs.Entries.{Follows}
use Rattle.controller.proofs.Survival.{survives}

same_live : (s t : Live) → s.on ≡ t.on → s.store ≡ t.store → s.lamp ≡ t.lamp → s.forced ≡ t.forced → s.force ≡ t.force → s ≡ t
same_live s t a b c e f = λ i. record { on = a i; store = b i; lamp = c i; forced = e i; force = f i }

same_state : (s t : State) → s.live ≡ t.live → s.device ≡ t.device → s ≡ t
same_state s t a b = λ i. record { live = a i; device = b i }

-- what a memory holds, part by part
pub state_is : (m : List ℕ) (t : State) → eqb (get_or m 192 0) 1 ≡ t.live.on → region m 0 64 ≡ t.live.store → eqb (get_or m 193 0) 1 ≡ t.live.lamp → device_in m ≡ t.device → marks (region m 64 64) ≡ t.live.forced → region m 128 64 ≡ t.live.force → state_in m ≡ t
unfolding live_in
state_is m t a b c d e f = same_state (state_in m) t (same_live (live_in m) t.live a b c e f) d

pub device_same : (m m₁ : List ℕ) → ((k : ℕ) → 194 ≤ k → get_or m₁ k 0 ≡ get_or m k 0) → device_in m₁ ≡ device_in m
device_same m m₁ same = fun_ext (λ i. same (194 + i) (omega arith))

history_of : (p : Project) (e : Event) (m m₁ : List ℕ) → state_in m₁ ≡ react p e (state_in m) → (es : List Event) → StandsFor p m es → StandsFor p m₁ (e ∷ es)
unfolding after
history_of p e m m₁ r es h = r ∙ ap (react p e) h

-- a memory that stands for a history is as its tale says
pub told_of : (p : Project) (es : List Event) (m : List ℕ) → StandsFor p m es → AsTold p es (state_in m)
told_of p es m h = subst (AsTold p es) (sym h) (survives p es)

pub follows : (p : Project) (e : Event) (m m₁ : List ℕ) → state_in m₁ ≡ react p e (state_in m) → Follows p e m m₁
follows p e m m₁ r = record {
  reacts = r;
  history = history_of p e m m₁ r;
  told = λ es h. told_of p (e ∷ es) m₁ (history_of p e m m₁ r es h);
}
