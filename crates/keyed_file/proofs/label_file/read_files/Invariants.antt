use Rattle.std.proofs.Common.{◌≡◌, ◌+◌, ◌*◌, ◌++◌, length, vec_len, vec_capacity}
use Rattle.keyed_file.specs.LabelFormat.{file_row}
use Rattle.keyed_file.specs.Row.{bad_row, row_at}
use Rattle.keyed_file.proofs.label_file.read_files.Given as goal

abbrev pub invariant-loop-left : goal.invariant-loop-left
invariant-loop-left l = record {
  at : l.at + 4 * l.left ≡ 16 + 4 * l.count;
  long : length l.rest + l.at ≡ 256;
  many : vec_len l.files + l.left ≡ l.count;
  room : vec_capacity l.files ≡ vec_capacity l.initial.files;
  row : bad_row file_row 16 0 l.count l.entries ≡ bad_row file_row l.at l.previous l.left l.rest;
  items : l.files.items ++ row_at file_row l.left l.rest ≡ row_at file_row l.count l.entries;
}

abbrev pub decreases-loop-left : goal.decreases-loop-left
decreases-loop-left l = l.left
