use Rattle.std.proofs.Common.{◌+◌, ◌≤◌, length}
use Rattle.base.specs.Stores.{cells}
use Rattle.retain.specs.Device.{commit_writes, apply_writes, effective_writes}
use Rattle.retain.specs.Commit.{to_come}
use Rattle.retain.proofs.Writes.{Within}
use Rattle.retain.proofs.Cells.{Going}
use Rattle.retain.proofs.commit.Given as goal

abbrev pub invariant-loop-write : goal.invariant-loop-write
invariant-loop-write l = record {
  inside : Within 0 (length l.device) (to_come l.write-iterator);
  room : l.count + length (to_come l.write-iterator) ≤ l.kept + 2;
  going : Going (apply_writes (cells l.initial.device) (commit_writes l.kept (cells l.initial.device) (cells l.values)))
      (effective_writes (cells l.initial.device) (commit_writes l.kept (cells l.initial.device) (cells l.values)))
      l.initial.writes l.device l.writes l.count (to_come l.write-iterator);
}
