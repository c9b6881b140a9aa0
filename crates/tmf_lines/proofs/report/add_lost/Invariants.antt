use Rattle.std.proofs.Common.{◌≡◌, ◌++◌, take}
use Rattle.tmf_lines.specs.Report.{lost_lines}
use Rattle.tmf_lines.proofs.report.add_lost.Given as goal

abbrev pub invariant-loop-volume : goal.invariant-loop-volume
invariant-loop-volume l = l.lines.items ≡ l.initial.lines.items ++ lost_lines l.config (take l.volume-index l.lost)
