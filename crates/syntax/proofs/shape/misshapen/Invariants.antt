use Rattle.std.proofs.Common.{◌≡◌, ℕ, ◌*◌, ◌<◌, drop}
use Rattle.std.specs.Iterator.Adapters.{enumerate_source, enumerate_count}
use Rattle.std.specs.Slice.Iter.{chunks_rest, chunks_size}
use Rattle.syntax.specs.Shape.{Fine}
use Rattle.syntax.proofs.shape.misshapen.Given as goal

abbrev pub invariant-loop-at : goal.invariant-loop-at
invariant-loop-at l =
    let pairs = enumerate_source l.at-iterator in
    let count = enumerate_count l.at-iterator in
    record {
      twos : chunks_size pairs ≡ 2;
      left : chunks_rest pairs ≡ drop (2 * count) l.tokens;
      fine : (j : ℕ) → j < count → Fine l.tokens j;
    }
