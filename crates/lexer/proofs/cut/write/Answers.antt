use Rattle.std.proofs.Common.{◌≡◌, [], ◌∷◌, ◌++◌, ◌+◌, ◌*◌, ◌≤◌, length, refl, arith, length-set}
use Rattle.std.proofs.lemmas.List.{length_push}
use Rattle.std.specs.Iterator.Adapters.{enumerate_source}
use Rattle.lexer.specs.Pairs.{pairs}
use Rattle.lexer.proofs.Cutting.{refused_rightly_lem}
use Rattle.lexer.proofs.Walks.{started, taken, finished, all_cut, refused, found, filled, same_count}
use Rattle.lexer.proofs.cut.write.Goals as goal

index : (c : goal.After-pair-kind) → c.in-Some.i ≡ length c.loop-i.invariant.tokens
index c = omega (arith, c.in-Some.ensures.steps.1, c.loop-i.invariant.count)

room_left : (c : goal.After-pair-kind) → 2 * c.in-Some.i + 2 ≤ length c.args.room.now
room_left c =
    let more = (found _ _ (enumerate_source c.next.new.self) _ c.loop-i.invariant.walked _ _ c.in-Some.ensures.steps.0).1 c.requires.0 c.requires.1 in
    omega (arith, index c, more, c.requires.2)

pub loop-i-init : goal.loop-i-init
unfolding pairs
loop-i-init c = record { tokens = []; walked = started _ _ (cc) (cc) (cc); count = (cc); holds = refl }

pub unreachable-requires : goal.unreachable-requires
unreachable-requires c =
    let step = rw c.in_default.is at c.in-Some.ensures.steps.0 in
    refused_rightly_lem _ _ _ (refused _ _ (enumerate_source c.next.new.self) _ c.loop-i.invariant.walked _ step) c.requires.1

pub bounds-room-i : goal.bounds-room-i
bounds-room-i c = omega (arith, room_left c, c.loop-i.auto.room)

pub bounds-room-i-in-loop-i : goal.bounds-room-i-in-loop-i
bounds-room-i-in-loop-i c = simp length-set (omega (arith, room_left c, c.loop-i.auto.room))

pub loop-i-preserved : goal.loop-i-preserved
loop-i-preserved c =
    let before = c.loop-i.invariant in
    let step = rw c.in-Some-token.is at c.in-Some.ensures.steps.0 in
    let longer = length_push before.tokens c.in-Some-token.token in
    record {
      tokens = before.tokens ++ c.in-Some-token.token ∷ [];
      walked = taken _ _ _ _ before.walked _ _ step;
      count = omega (arith, c.in-Some.ensures.steps.2, before.count, longer);
      holds = filled _ _ before.tokens _ _ _ (index c) before.holds (room_left c) c.pair-kind.ensures;
    }

pub returns : goal.returns
returns c = λ n whole.
    let left = c.loop-i.invariant in
    let same = same_count _ _ n (finished _ _ (enumerate_source c.next.new.self) _ left.walked c.in-None.ensures.steps.0) whole in
    record {
      tokens = left.tokens;
      cuts = all_cut _ _ (enumerate_source c.next.new.self) _ left.walked c.in-None.ensures.steps.0;
      count = same;
      fits = omega (arith, c.requires.2, same_count _ _ n c.requires.1 whole);
      holds = rw same at left.holds;
    }
