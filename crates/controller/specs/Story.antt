-- The story of a controller, told of its kept values: it knows no device, no memory layout, no code and no machine. Assumes nothing: these are definitions.
use Rattle.std.specs.Prelude.{ℕ, Bool, cond, List, [], ◌∷◌}
use Rattle.base.specs.Stores.{Store}
use Rattle.retain.specs.Story.{cut_leaves}
use Rattle.controller.specs.World.{Project, Live, Event, start, scan, cut, force, free, executed, off, started, scanned, forced_at, freed_at}

-- what is told of the device for a cut: how many writes the save takes, and whether a cut in the very last of them left the new values
pub record Decision : Type 0 where
  pub writes : ℕ
  pub new : Bool

-- what is lost with the power, and the values that a start would find
pub record Tale : Type 0 where
  pub live : Live
  pub kept : Store

-- as it leaves the factory
unfoldable pub as_made : Project → Tale
as_made p = record { live = off; kept = p.initial }

-- what an event makes of a tale. A scan replaces the kept values whole; a cut leaves them or has replaced them;
-- without power nothing but a start does anything
unfoldable pub tell : Project → Event → Decision → Tale → Tale
tell p start d t = record { live = started p t.kept; kept = t.kept }
tell p (scan inputs elapsed) d t =
    cond t.live.on (record { live = scanned p inputs elapsed t.live; kept = (executed p t.live inputs elapsed).store }) t
tell p (cut inputs elapsed k junk) d t =
    cond t.live.on (record { live = off; kept = cut_leaves d.writes k d.new t.kept (executed p t.live inputs elapsed).store }) t
tell p (force i v) d t = cond t.live.on (record { live = forced_at i v t.live; kept = t.kept }) t
tell p (free i) d t = cond t.live.on (record { live = freed_at i t.live; kept = t.kept }) t

-- the tale of a history, the latest first, each event with what was decided of it
unfoldable pub tale : Project → List (Event × Decision) → Tale
tale p [] = as_made p
tale p (x ∷ xs) = tell p x.0 x.1 (tale p xs)
