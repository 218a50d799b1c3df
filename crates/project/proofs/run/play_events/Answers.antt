use Rattle.std.proofs.Common.{vec_items, string_bytes, ap, ◌∙◌}
use Rattle.std.specs.List.{flat_map}
use Rattle.reports.specs.Reports.{line_of}
use Rattle.project.proofs.Joins.{told_text}
use Rattle.project.proofs.run.play_events.Goals as goal

pub returns : goal.returns
returns c =
    let l = c.args.project.now in (
      c.in_ok-reports.ensures.0,
      told_text l.kept l.inputs.now l.firsts.now l.code.now c.args.events.now (vec_items c.in_ok-reports.reports) (string_bytes c.in_ok-render.field-0)
          (c.in_ok-render.ensures ∙ ap (flat_map line_of) c.as_slice.ensures.value) c.in_ok-reports.ensures.1,
    )
