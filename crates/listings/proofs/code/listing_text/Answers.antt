use Rattle.std.proofs.Common.{arith}
use Rattle.compiler.specs.Listed.{listed}
use Rattle.listings.proofs.Listings.{no_lines, line_more, lines_all}
use Rattle.listings.proofs.code.listing_text.Goals as goal

pub loop-place-init : goal.loop-place-init
loop-place-init c = no_lines _ c.new-out.ensures.bytes

pub loop-place-preserved : goal.loop-place-preserved
loop-place-preserved c =
    line_more _ _ c.as_chunks.result.0.now _ c.loop-place.place-counter (listed c.from-instruction.result) c.loop-place-test.true c.from-instruction.ensures c.loop-place.invariant c.in_ok-writeln.ensures.bytes

pub returns : goal.returns
returns c =
    let n = c.args.needs in
    lines_all _ _ c.args.code.now c.as_chunks.result.0.now c.loop-place.place-counter n.cost n.height n.depth (omega arith) c.as_chunks.ensures.front c.loop-place.invariant c.in_ok-writeln-2.ensures.bytes
