use Rattle.std.proofs.Common.{◌≡◌, ◌+◌, ◌*◌, [], length}
use Rattle.keyed_file.specs.BlockFormat.{record_row}
use Rattle.keyed_file.specs.Row.{bad_row}
use Rattle.keyed_file.proofs.block_bytes.records_fault.Given as goal

abbrev pub invariant-loop-left : goal.invariant-loop-left
invariant-loop-left l = record {
  at : l.at + 64 * l.left ≡ 128 + 64 * l.count;
  long : length l.rest + l.at ≡ 4096;
  row : bad_row (record_row l.home) 128 [] l.count l.slots ≡ bad_row (record_row l.home) l.at l.previous l.left l.rest;
}

abbrev pub decreases-loop-left : goal.decreases-loop-left
decreases-loop-left l = l.left
