use Rattle.std.proofs.Common.{◌≤◌, ◌+◌, length}
use Rattle.tmf_script.proofs.Readings.{HasRead}
use Rattle.tmf_script.proofs.reader.parse.Given as goal

-- the lines before the rest have been read, and there are no more of them than bytes
abbrev pub invariant-loop-next : goal.invariant-loop-next
invariant-loop-next l = record {
  has_read : HasRead l.fn.bytes l.rest l.state l.line;
  few : l.line + length l.rest ≤ length l.fn.bytes + 1;
}

abbrev pub decreases-loop-next : goal.decreases-loop-next
decreases-loop-next l = length l.rest
