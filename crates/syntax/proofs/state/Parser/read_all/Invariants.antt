use Rattle.std.proofs.Common.{◌≡◌, ◌+◌, ◌*◌, ◌≤◌, length}
use Rattle.std.specs.Iterator.Adapters.{enumerate_source, enumerate_count}
use Rattle.std.specs.Slice.Iter.{chunks_exact_rest, chunks_exact_size}
use Rattle.syntax.specs.Reading.{total}
use Rattle.syntax.proofs.Wholes.{Sofar}
use Rattle.syntax.proofs.state.Parser.read_all.Given as goal

abbrev pub invariant-loop-at : goal.invariant-loop-at
invariant-loop-at l =
    let pairs = enumerate_source l.at-iterator in
    let count = enumerate_count l.at-iterator in
    record {
      exact : chunks_exact_size pairs ≡ 2;
      left : 2 * count + length (chunks_exact_rest pairs) ≡ length l.tokens;
      within : total l.self l.state ≤ count;
      reaches : Sofar l.tokens (chunks_exact_rest pairs) count l.self l.state;
    }
