use Rattle.std.proofs.Common.{length, ap, ◌∙◌, subst, sym}
use Rattle.base.specs.Stores.{cells}
use Rattle.retain.specs.Device.{commit_writes, cut_writes}
use Rattle.retain.specs.Commit.{to_come}
use Rattle.retain.proofs.Writes.{Within, within_next}
use Rattle.retain.proofs.Cells.{commit_within, gone, went}
use Rattle.retain.proofs.Outcome.{interrupted, interrupted_all}
use Rattle.retain.proofs.Shape.{begins, shaped, accepted_cut}
use Rattle.retain.proofs.commit_cut.Goals as goal

pub loop-write-init : goal.loop-write-init
loop-write-init c =
    let n = c.args.kept in
    let d = cells c.args.device.now in
    let v = cells c.args.values.now in
    let s = shaped n c.args.device.now _ c.in_ok-held.ensures.0 in
    let e = ap to_come c.into_iter-write-iterator.ensures.into_iter_gives ∙ (begins v _ _ n _ c.args.device.now c.in_ok-held.ensures.1.0 c.in_ok-held.ensures.1.1 c.in_ok-write-items.ensures).1 in
    record {
      inside = subst (Within 0 (length c.args.device.now)) (sym e) (subst (λ k. Within 0 k (commit_writes n d v)) (sym s.cells) (commit_within n d v));
      going = ap (λ ws. cut_writes d ws c.args.k c.args.junk) e;
    }

pub loop-write-preserved : goal.loop-write-preserved
loop-write-preserved c =
    let i = within_next 0 _ c.in-Some.ensures.steps c.loop-write.invariant.inside in
    record {
      inside = subst (λ k. Within 0 k (to_come c.next.new.self)) (sym c.write_cell_cut.auto.device) i.1;
      going = went c.loop-write.device c.in-Some.write (to_come c.next.new.self) c.loop-write.left c.args.junk c.in-Some-write_cell_cut.rest c.write_cell_cut.new.device i.0 c.in-Some-write_cell_cut.ensures
          ∙ ap (λ ws. cut_writes (cells c.loop-write.device) ws c.loop-write.left c.args.junk) (sym c.in-Some.ensures.steps) ∙ c.loop-write.invariant.going;
    }

pub returns-in-None-write_cell_cut : goal.returns-in-None-write_cell_cut
returns-in-None-write_cell_cut c =
    let n = c.args.kept in
    let v = cells c.args.values.now in
    let i = within_next 0 _ c.in-Some.ensures.steps c.loop-write.invariant.inside in (
      accepted_cut n c.args.device.now (length c.args.values.now) c.in_ok-held.ensures.0
          ∙ (begins v _ _ n _ c.args.device.now c.in_ok-held.ensures.1.0 c.in_ok-held.ensures.1.1 c.in_ok-write-items.ensures).0,
      interrupted n c.args.device.now c.args.values.now c.write_cell_cut.new.device c.args.k c.args.junk
          (gone c.loop-write.device c.in-Some.write (to_come c.next.new.self) c.loop-write.left c.args.junk c.write_cell_cut.new.device i.0 c.in-None-write_cell_cut.ensures
          ∙ ap (λ ws. cut_writes (cells c.loop-write.device) ws c.loop-write.left c.args.junk) (sym c.in-Some.ensures.steps) ∙ c.loop-write.invariant.going),
    )

pub returns : goal.returns
returns c =
    let n = c.args.kept in
    let v = cells c.args.values.now in (
      accepted_cut n c.args.device.now (length c.args.values.now) c.in_ok-held.ensures.0
          ∙ (begins v _ _ n _ c.args.device.now c.in_ok-held.ensures.1.0 c.in_ok-held.ensures.1.1 c.in_ok-write-items.ensures).0,
      interrupted_all n c.args.device.now c.args.values.now c.loop-write.device c.args.k c.args.junk c.loop-write.left
          (ap (λ ws. cut_writes (cells c.loop-write.device) ws c.loop-write.left c.args.junk) (sym c.in-None.ensures.steps.0) ∙ c.loop-write.invariant.going),
    )
