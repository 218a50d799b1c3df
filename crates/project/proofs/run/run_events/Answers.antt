use Rattle.std.proofs.Common.{◌<◌, ◌++◌, map, length, vec_items, sym, ap, ◌∙◌, append-nil, subst, arith}
use Rattle.std.specs.Option.{option_to_list}
use Rattle.std.proofs.lemmas.List.{map_push}
use Rattle.reports.specs.Reports.{said}
use Rattle.scripts.specs.Script.{request}
use Rattle.project.specs.declared.run.Parts.{Parts}
use Rattle.project.specs.Running.{Goes}
use Rattle.project.proofs.Playing.{played_none, played_more, played_all}
use Rattle.project.proofs.run.run_events.Goals as goal
use Rattle.project.proofs.run.run_events.Goals.{in-Some+in_ok-push, in_default}

pub loop-event-init : goal.loop-event-init
loop-event-init c =
    let l = c.args.project.now in
    let made = c.in_ok-player.ensures in
    record {
      same = made.same;
      told = played_none l.kept l.inputs.now l.firsts.now l.code.now c.args.events.now c.in_ok-player.player.memory.now _ _ _ made.made made.unsaid made.unshown (ap (map said) c.new-reports.ensures.items);
    }

pub loop-event-preserved : goal.loop-event-preserved
loop-event-preserved c =
    let inside : c.loop-event.event-index < length c.args.events.now = omega arith in
    let l = c.args.project.now in
    let p = c.loop-event.player in
    let q = c.play.new.self in
    let out = vec_items c.loop-event.reports in
    let more = map said (option_to_list c.in_ok-report.field-0) in
    let goes =
    subst (λ (x : Parts). Goes x.kept x.inputs.now x.firsts.now x.code.now (request c.event-item.result) p.memory.now p.outside p.shown q.memory.now q.outside q.shown more)
    c.loop-event.invariant.same c.in_ok-report.ensures.goes in
    record {
      same = c.in_ok-report.ensures.same ∙ c.loop-event.invariant.same;
      told =
          played_more l.kept l.inputs.now l.firsts.now l.code.now c.args.events.now c.loop-event.event-index
          p.memory.now p.outside p.shown q.memory.now q.outside q.shown
          c.event-item.result (map said out) more (map said (vec_items c.match-branch-3.reports))
          inside c.if-events-ge-MANY.false c.event-item.is goes
          (elim c.match-branch-3.branch [
            | in-Some+in_ok-push w ↦
                ap (λ v. map said (vec_items v)) w.reports-is ∙ ap (map said) w.in_ok-push.ensures.items ∙ map_push said out _ ∙ ap (λ o. map said out ++ map said (option_to_list o)) (sym w.in-Some.is)
            | in_default w ↦ ap (λ v. map said (vec_items v)) w.reports-is ∙ sym (append-nil (map said out)) ∙ ap (λ o. map said out ++ map said (option_to_list o)) (sym w.in_default.is)
          ])
          c.loop-event.invariant.told;
    }

pub returns : goal.returns
returns c =
    let l = c.args.project.now in (
      omega (arith, c.in_ok-player.player.few, ap (λ (x : Parts). x.kept) c.in_ok-player.ensures.same),
      played_all l.kept l.inputs.now l.firsts.now l.code.now c.args.events.now c.loop-event.event-index
          c.loop-event.player.memory.now c.loop-event.player.outside c.loop-event.player.shown (map said (vec_items c.loop-event.reports)) c.loop-event-test.false c.loop-event.invariant.told,
    )
