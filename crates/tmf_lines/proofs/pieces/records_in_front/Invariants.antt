use Rattle.std.proofs.Common.{length, ◌-◌, ◌≤◌}
use Rattle.tmf_lines.specs.Line.{AreRecords}
use Rattle.tmf_lines.proofs.pieces.records_in_front.Given as goal

abbrev pub invariant-loop-count : goal.invariant-loop-count
invariant-loop-count l = (l.count ≤ length l.lines) × AreRecords l.count l.lines

abbrev pub decreases-loop-count : goal.decreases-loop-count
decreases-loop-count l = length l.lines - l.count
