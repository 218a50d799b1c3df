use Rattle.std.proofs.Common.{◌≡◌, ap, ◌∙◌, length, arith, length-append}
use Rattle.std.specs.Iterator.Adapters.{enumerate_source, enumerate_count}
use Rattle.std.specs.Slice.Iter.{chunks_exact_rest, chunks_exact_size}
use Rattle.syntax.proofs.Wholes.{begun, turned, stopped, ended}
use Rattle.syntax.proofs.state.Parser.read_all.Goals as goal

pub loop-at-init : goal.loop-at-init
loop-at-init c =
    let k = c.enumerate-at-items.ensures in
    let i = c.into_iter-at-iterator.ensures.into_iter_gives in
    let from : enumerate_source c.into_iter-at-iterator.result ≡ c.chunks_exact.result = ap enumerate_source i ∙ k.source in
    let rest : chunks_exact_rest (enumerate_source c.into_iter-at-iterator.result) ≡ c.args.tokens.now = ap chunks_exact_rest from ∙ c.chunks_exact.ensures.rest in
    let none : enumerate_count c.into_iter-at-iterator.result ≡ 0 = ap enumerate_count i ∙ k.count in
    record {
      exact = ap chunks_exact_size from ∙ c.chunks_exact.ensures.size;
      left = rw (rest, none) (omega arith);
      within = omega (arith, none);
      reaches = rw (rest, none) (begun c.args.tokens.now c.args.self.now (omega arith));
    }

pub returns-in_default : goal.returns-in_default
returns-in_default c =
    let s = c.in-Some.ensures.steps in
    let l = c.loop-at in
    let i = l.invariant in
    rw s.1 (stopped c.args.tokens.now c.in-Some.pair.now (chunks_exact_rest (enumerate_source c.next.new.self)) (chunks_exact_rest (enumerate_source l.at-iterator)) (enumerate_count l.at-iterator)
    l.self c.read.new.self l.state s.0.1.0 (s.0.1.1 ∙ i.exact) i.reaches c.from_pair.result c.from_pair.ensures i.left c.in_default.ensures.reads)

pub loop-at-preserved : goal.loop-at-preserved
loop-at-preserved c =
    let s = c.in-Some.ensures.steps in
    let l = c.loop-at in
    let i = l.invariant in
    record {
      exact = s.0.0 ∙ i.exact;
      left = omega (arith, ap length s.0.1.0, length-append c.in-Some.pair.now (chunks_exact_rest (enumerate_source c.next.new.self)), s.0.1.1, i.exact, i.left, s.2);
      within = omega (arith, i.within, c.in-Some-read.ensures.within, s.2);
      reaches = rw s.2 (turned c.args.tokens.now c.in-Some.pair.now (chunks_exact_rest (enumerate_source c.next.new.self)) (chunks_exact_rest (enumerate_source l.at-iterator)) (enumerate_count l.at-iterator)
          l.self c.read.new.self l.state s.0.1.0 (s.0.1.1 ∙ i.exact) i.reaches c.from_pair.result c.in-Some-read.next c.from_pair.ensures c.in-Some-read.ensures.reads);
    }

pub returns : goal.returns
returns c =
    let s = c.in-None.ensures.steps in
    let l = c.loop-at in
    let i = l.invariant in
    ended c.args.tokens.now (chunks_exact_rest (enumerate_source l.at-iterator)) (enumerate_count l.at-iterator) l.self l.state (omega (arith, s.0.1.0, i.exact)) i.left i.within i.reaches
