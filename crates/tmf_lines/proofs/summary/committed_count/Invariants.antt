use Rattle.std.proofs.Common.{◌≡◌, ◌≤◌, take}
use Rattle.std.specs.List.{count_by}
use Rattle.tmf_lines.specs.Summary.{is_committed}
use Rattle.tmf_lines.proofs.summary.committed_count.Given as goal

abbrev pub invariant-loop-line : goal.invariant-loop-line
invariant-loop-line l = record {
  few : l.count ≤ l.line-index;
  counted : l.count ≡ count_by is_committed (take l.line-index l.lines);
}
