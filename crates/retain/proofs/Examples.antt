-- The worked night, by computation.
use Rattle.std.proofs.Common.{refl}
use Rattle.retain.specs.Device.{stamp, recovered, value_writes, slot_writes, commit_writes, apply_writes, cut_writes, write_count, factory}
use Rattle.retain.specs.History.{after, writes_after}
use Rattle.retain.specs.Night.{saved, torn, theirs, ours, cut_all, Night}

pub night : Night
unfolding saved torn theirs ours cut_all after writes_after stamp recovered value_writes slot_writes commit_writes apply_writes cut_writes write_count factory
night = record {
  saved_cells = refl;
  saved_writes = refl;
  next_cells = refl;
  torn_cells = refl;
  torn_found = refl;
  done_writes = refl;
  done_cells = refl;
  theirs_cells = refl;
  theirs_valid = refl;
  theirs_stamp = refl;
  theirs_found = refl;
  ours_cells = refl;
  ours_valid = refl;
  ours_found = refl;
}
