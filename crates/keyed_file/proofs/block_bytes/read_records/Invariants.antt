use Rattle.std.proofs.Common.{◌≡◌, ◌+◌, ◌*◌, ◌++◌, [], length, vec_len, vec_capacity}
use Rattle.keyed_file.specs.BlockFormat.{record_row}
use Rattle.keyed_file.specs.Row.{bad_row, row_at}
use Rattle.keyed_file.proofs.block_bytes.read_records.Given as goal

abbrev pub invariant-loop-left : goal.invariant-loop-left
invariant-loop-left l = record {
  at : l.at + 64 * l.left ≡ 128 + 64 * l.count;
  long : length l.rest + l.at ≡ 4096;
  many : vec_len l.records + l.left ≡ l.count;
  room : vec_capacity l.records ≡ vec_capacity l.initial.records;
  row : bad_row (record_row l.home) 128 [] l.count l.slots ≡ bad_row (record_row l.home) l.at l.previous l.left l.rest;
  items : l.records.items ++ row_at (record_row l.home) l.left l.rest ≡ row_at (record_row l.home) l.count l.slots;
}

abbrev pub decreases-loop-left : goal.decreases-loop-left
decreases-loop-left l = l.left
