-- A controller with the device that outlasts the power: what each event does to both, and what any history leaves. Assumes nothing: these are definitions.
use Rattle.std.specs.Prelude.{ℕ, cond, List, [], ◌∷◌}
use Rattle.base.specs.Stores.{Store}
use Rattle.retain.specs.declared.Write.{Write}
use Rattle.retain.specs.Device.{recovered, commit_writes, apply_writes, cut_writes, factory as new_device}
use Rattle.controller.specs.World.{Project, Live, Event, start, scan, cut, force, free, executed, off, started, scanned, forced_at, freed_at}

-- what is lost with the power, and what outlasts it
pub record State : Type 0 where
  pub live : Live
  pub device : Store

-- the writes that save what the program makes of a scan
abbrev pub save : Project → State → (inputs : ℕ → ℕ) → (elapsed : ℕ) → List Write
save p s inputs elapsed = commit_writes p.kept s.device (executed p s.live inputs elapsed).store

-- what an event does; without power nothing but a start does anything. A scan saves the kept values, and a cut breaks off in that
unfoldable pub react : Project → Event → State → State
react p start s = record { live = started p (recovered p.kept s.device); device = s.device }
react p (scan inputs elapsed) s =
    cond s.live.on (record { live = scanned p inputs elapsed s.live; device = apply_writes s.device (save p s inputs elapsed) }) s
react p (cut inputs elapsed k junk) s =
    cond s.live.on (record { live = off; device = cut_writes s.device (save p s inputs elapsed) k junk }) s
react p (force i v) s = cond s.live.on (record { live = forced_at i v s.live; device = s.device }) s
react p (free i) s = cond s.live.on (record { live = freed_at i s.live; device = s.device }) s

-- as it leaves the factory
unfoldable pub factory : Project → State
factory p = record { live = off; device = new_device p.kept p.initial }

-- after a history of events, the latest first
unfoldable pub after : Project → List Event → State
after p [] = factory p
after p (e ∷ es) = react p e (after p es)
