-- What a memory stands for as it leaves the factory, and one without power.
use Rattle.std.proofs.Common.{◌≡◌, ℕ, ◌+◌, ◌<◌, Bool, false, eqb, List, [], get_or, refl, ap, ◌∙◌, arith}
use Rattle.base.specs.Stores.{Store, cells}
use Rattle.base.proofs.Regions.{region_is}
use Rattle.semantics.specs.Eval.{Program}
use Rattle.retain.specs.Device.{factory as new_device}
use Rattle.controller.specs.World.{Project, off}
use Rattle.controller.specs.History.{factory, after}
use Rattle.controller.specs.Memory.{device_in, state_in, marks, project, StandsFor}
use Rattle.controller.specs.Entries.{New}
use Rattle.controller.proofs.States.{state_is, told_of}

pub no_marks : ◌≡◌ {A = ℕ → Bool} (marks (λ i. 0)) (λ i. false)
unfolding marks
no_marks = refl

-- a memory that holds 0 before the device is one without power
pub off_state : (m : List ℕ) (d : Store) → ((k : ℕ) → k < 194 → get_or m k 0 ≡ 0) → device_in m ≡ d → state_in m ≡ record { live = off; device = d }
unfolding off
off_state m d clear dev =
    state_is m (record { live = off; device = d })
    (ap (λ x. eqb x 1) (clear 192 (omega arith)))
    (region_is m 0 64 (λ i. 0) (λ i h. clear (0 + i) (omega arith)) (λ i h. refl))
    (ap (λ x. eqb x 1) (clear 193 (omega arith)))
    dev
    (ap marks (region_is m 64 64 (λ i. 0) (λ i h. clear (64 + i) (omega arith)) (λ i h. refl)) ∙ no_marks)
    (region_is m 128 64 (λ i. 0) (λ i h. clear (128 + i) (omega arith)) (λ i h. refl))

factory_state : (p : Project) (m : List ℕ) → ((k : ℕ) → k < 194 → get_or m k 0 ≡ 0) → device_in m ≡ new_device p.kept p.initial → StandsFor p m []
unfolding after factory
factory_state p m clear dev = off_state m _ clear dev

pub new_done : (kept : ℕ) (firsts m : List ℕ) → ((k : ℕ) → k < 194 → get_or m k 0 ≡ 0) → device_in m ≡ new_device kept (cells firsts) → New kept firsts m
new_done kept firsts m clear dev =
    let stands : (inputs : List ℕ) (q : Program) → StandsFor (project kept inputs firsts q) m [] = λ inputs q. factory_state (project kept inputs firsts q) m clear dev in
    record { blank = record { blank = clear }; device = dev; history = stands; told = λ inputs q. told_of (project kept inputs firsts q) [] m (stands inputs q) }
