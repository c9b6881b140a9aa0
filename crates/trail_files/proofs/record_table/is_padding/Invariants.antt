use Rattle.std.proofs.Common.{◌≡◌, ◌&&◌, drop}
use Rattle.trail_files.specs.RecordTable.{are_zero}
use Rattle.trail_files.proofs.record_table.is_padding.Given as goal

abbrev pub invariant-loop-byte : goal.invariant-loop-byte
invariant-loop-byte l = are_zero l.bytes ≡ (l.fine && are_zero (drop l.byte-index l.bytes))
