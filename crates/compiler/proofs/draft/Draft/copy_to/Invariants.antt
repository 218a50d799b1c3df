use Rattle.std.proofs.Common.{◌≡◌, map, take}
use Rattle.base.specs.Rooms.{write}
use Rattle.compiler.specs.Code.{words}
use Rattle.compiler.specs.Listed.{listed}
use Rattle.compiler.proofs.draft.Draft.copy_to.Given as goal

-- so many instructions were copied
abbrev pub invariant-loop-place : goal.invariant-loop-place
invariant-loop-place l = l.room ≡ write l.initial.room 0 (words (map listed (take l.place l.instruction-items)))
