use Rattle.std.proofs.Common.{◌≡◌, length}
use Rattle.base.specs.Stores.{cells}
use Rattle.retain.specs.Device.{commit_writes, cut_writes}
use Rattle.retain.specs.Commit.{to_come}
use Rattle.retain.proofs.Writes.{Within}
use Rattle.retain.proofs.commit_cut.Given as goal

abbrev pub invariant-loop-write : goal.invariant-loop-write
invariant-loop-write l = record {
  inside : Within 0 (length l.device) (to_come l.write-iterator);
  going : cut_writes (cells l.device) (to_come l.write-iterator) l.left l.junk
      ≡ cut_writes (cells l.initial.device) (commit_writes l.kept (cells l.initial.device) (cells l.values)) l.initial.left l.junk;
}
