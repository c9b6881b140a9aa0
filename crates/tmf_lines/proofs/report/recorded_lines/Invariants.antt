use Rattle.std.specs.Prelude.{drop}
use Rattle.std.proofs.Common.{◌≡◌, ◌<◌, ◌^◌, ◌+◌, ◌++◌, length}
use Rattle.tmf_lines.specs.Report.{recorded_lines}
use Rattle.tmf_lines.proofs.Reports.{lines_from}
use Rattle.tmf_lines.proofs.report.recorded_lines.Given as goal

abbrev pub invariant-loop-item : goal.invariant-loop-item
invariant-loop-item l = record {
  place : l.place + length l.rest < 2 ^ 64;
  lines : l.lines.items ++ lines_from l.place l.rest ≡ drop l.skipped (recorded_lines l.records);
}

abbrev pub decreases-loop-item : goal.decreases-loop-item
decreases-loop-item l = length l.rest
