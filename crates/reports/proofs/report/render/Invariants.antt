use Rattle.std.proofs.Common.{◌≡◌, take, string_bytes}
use Rattle.std.specs.List.{flat_map}
use Rattle.reports.specs.Reports.{line_of}
use Rattle.reports.proofs.report.render.Given as goal

abbrev pub invariant-loop-report : goal.invariant-loop-report
invariant-loop-report l = string_bytes l.out ≡ flat_map line_of (take l.report-index l.reports)
