use Rattle.std.proofs.Common.{rules, ◌≡◌, ◌*◌, Bool, true, false, refl, ap, ◌∙◌, length, arith, below_more, length-drop}
use Rattle.std.specs.Iterator.Adapters.{enumerate_source, enumerate_count}
use Rattle.std.specs.Slice.Iter.{chunks_rest, chunks_size}
use Rattle.syntax.proofs.Shapes.{onward, fine, unfine}
use Rattle.syntax.proofs.shape.misshapen.Goals as goal

pub returns-then-not-is_fine : goal.returns-then-not-is_fine
returns-then-not-is_fine c =
    let s = c.in-Some.ensures.steps in
    let l = c.loop-at in
    let i = l.invariant in
    let long = ap length i.left ∙ length-drop (2 * enumerate_count l.at-iterator) c.args.tokens.now in
    let two = rw i.twos at s.0.1.1 in
    let wrong = rw s.1 at c.if-not-is_fine.ensures.1 in
    rw s.1 (record {
      there = omega (arith, long, s.0.1.2);
      before = i.fine;
      here = λ f. let no : ◌≡◌ {A = Bool} false true = wrong (unfine c.args.tokens.now c.in-Some.pair.now _ _ (enumerate_count l.at-iterator) i.left s.0.1.0 two s.0.1.2 f) in cc;
    })

pub loop-at-preserved : goal.loop-at-preserved
loop-at-preserved c =
    let s = c.in-Some.ensures.steps in
    let l = c.loop-at in
    let i = l.invariant in
    let two = rw i.twos at s.0.1.1 in
    let right = rw s.1 at (c.if-not-is_fine.ensures.0 refl) in
    rw s.2 (record {
      twos = s.0.0 ∙ i.twos;
      left = onward c.args.tokens.now c.in-Some.pair.now _ _ (enumerate_count l.at-iterator) i.left s.0.1.0 two s.0.1.2 right.1;
      fine = below_more _ _ i.fine (fine c.args.tokens.now c.in-Some.pair.now _ _ (enumerate_count l.at-iterator) i.left s.0.1.0 two s.0.1.2 (λ k. search rules) right);
    })

pub returns : goal.returns
returns c =
    let s = c.in-None.ensures.steps in
    let l = c.loop-at in
    let i = l.invariant in
    λ j h. i.fine j (omega (arith, ap length i.left, length-drop (2 * enumerate_count l.at-iterator) c.args.tokens.now, s.0.1.0))
