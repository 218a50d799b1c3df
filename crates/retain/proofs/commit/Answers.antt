use Rattle.std.proofs.Common.{length, ap, ◌∙◌, subst, sym, arith}
use Rattle.base.specs.Stores.{cells}
use Rattle.retain.specs.Device.{commit_writes, apply_writes, effective_writes}
use Rattle.retain.specs.Commit.{to_come}
use Rattle.retain.proofs.Writes.{Within, within_next}
use Rattle.retain.proofs.Cells.{Going, commit_within, commit_length, wrote, passed_by, begun}
use Rattle.retain.proofs.Outcome.{committed}
use Rattle.retain.proofs.Shape.{begins, shaped, accepted}
use Rattle.retain.proofs.commit.Goals as goal

pub loop-write-init : goal.loop-write-init
loop-write-init c =
    let n = c.args.kept in
    let d = cells c.args.device.now in
    let v = cells c.args.values.now in
    let s = shaped n c.args.device.now _ c.in_ok-held.ensures.0 in
    let e = sym (ap to_come c.into_iter-write-iterator.ensures.into_iter_gives ∙ (begins v _ _ n _ c.args.device.now c.in_ok-held.ensures.1.0 c.in_ok-held.ensures.1.1 c.in_ok-write-items.ensures).1) in
    record {
      inside = subst (Within 0 (length c.args.device.now)) e (subst (λ k. Within 0 k (commit_writes n d v)) (sym s.cells) (commit_within n d v));
      room = omega (arith, ap length e, commit_length n d v);
      going = subst (Going (apply_writes d (commit_writes n d v)) (effective_writes d (commit_writes n d v)) c.args.writes.now c.args.device.now c.args.writes.now 0) e (begun c.args.device.now c.args.writes.now (commit_writes n d v));
    }

pub loop-write-preserved-then-write_cell : goal.loop-write-preserved-then-write_cell
loop-write-preserved-then-write_cell c =
    let i = within_next 0 _ c.in-Some.ensures.steps c.loop-write.invariant.inside in
    record {
      inside = subst (λ k. Within 0 k (to_come c.next.new.self)) (sym c.write_cell.auto.device) i.1;
      room = omega (arith, ap length c.in-Some.ensures.steps);
      going = wrote c.loop-write.invariant.going c.in-Some.ensures.steps i.0 (omega (arith, ap length c.in-Some.ensures.steps)) c.if-write_cell.ensures;
    }

pub loop-write-preserved : goal.loop-write-preserved
loop-write-preserved c =
    let i = within_next 0 _ c.in-Some.ensures.steps c.loop-write.invariant.inside in
    record {
      inside = subst (λ k. Within 0 k (to_come c.next.new.self)) (sym c.write_cell.auto.device) i.1;
      room = omega (arith, ap length c.in-Some.ensures.steps);
      going = passed_by c.loop-write.invariant.going c.in-Some.ensures.steps i.0 c.if-write_cell.ensures;
    }

pub returns : goal.returns
returns c =
    let n = c.args.kept in
    let d = cells c.args.device.now in
    let v = cells c.args.values.now in
    let h = c.loop-write.invariant in (
      accepted n c.args.device.now (length c.args.values.now) (length c.args.writes.now) c.in_ok-held.ensures.0 (omega arith)
          ∙ (begins v _ _ n _ c.args.device.now c.in_ok-held.ensures.1.0 c.in_ok-held.ensures.1.1 c.in_ok-write-items.ensures).0,
      committed n c.args.device.now c.args.values.now c.loop-write.device c.args.writes.now c.loop-write.count c.loop-write.writes (omega (arith, h.room)) (omega (arith, h.room))
          (subst (Going (apply_writes d (commit_writes n d v)) (effective_writes d (commit_writes n d v)) c.args.writes.now c.loop-write.device c.loop-write.writes c.loop-write.count) c.in-None.ensures.steps.0 h.going),
    )
