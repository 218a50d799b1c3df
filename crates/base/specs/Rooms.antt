-- Numbers written into a lent room. Assumes nothing: these are definitions.
use Rattle.std.specs.Prelude.{ℕ, suc, List, [], ◌∷◌, slice_set}

-- the room with ws from the place p on, and all else as it was
unfoldable pub write : List ℕ → ℕ → List ℕ → List ℕ
write room p [] = room
write room p (w ∷ ws) = write (slice_set room p w) (suc p) ws
