-- What the story is told of the device: each cut is decided once, by what was there just before it. Assumes nothing: these are definitions.
use Rattle.std.specs.Prelude.{false, List, [], ◌∷◌}
use Rattle.retain.specs.Device.{write_count, came_out}
use Rattle.controller.specs.World.{Project, Event, start, scan, cut, force, free}
use Rattle.controller.specs.Story.{Decision}
use Rattle.controller.specs.History.{State, save, after}

-- nothing is to be decided
abbrev pub nothing : Decision
nothing = record { writes = 0; new = false }

-- what is decided of an event in a state: of a cut how many writes its save takes, and what comes out of one in the last write; of others nothing
unfoldable pub decide : Project → Event → State → Decision
decide p start s = nothing
decide p (scan inputs elapsed) s = nothing
decide p (cut inputs elapsed k junk) s =
    record { writes = write_count s.device (save p s inputs elapsed); new = came_out p.kept s.device junk }
decide p (force i v) s = nothing
decide p (free i) s = nothing

-- a history with what is decided of each of its events, in the state just before it
unfoldable pub decided : Project → List Event → List (Event × Decision)
decided p [] = []
decided p (e ∷ es) = (e, decide p e (after p es)) ∷ decided p es
