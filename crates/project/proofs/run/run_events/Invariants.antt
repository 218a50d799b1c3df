use Rattle.std.proofs.Common.{◌≡◌, map, vec_items}
use Rattle.reports.specs.Reports.{said}
use Rattle.project.proofs.Playing.{PlayedTo}
use Rattle.project.proofs.run.run_events.Given as goal

-- what was told so far, with what is still to be told
abbrev pub invariant-loop-event : goal.invariant-loop-event
invariant-loop-event l = record {
  same : l.player.project ≡ l.project;
  told :
      PlayedTo l.project.kept l.project.inputs.now l.project.firsts.now l.project.code.now l.events l.event-index l.player.memory.now l.player.outside l.player.shown (map said (vec_items l.reports));
}
