use Rattle.std.proofs.Common.{◌≡◌, ◌+◌, ◌++◌, ◌≤◌, drop, length}
use Rattle.std.specs.Prelude.{vec_capacity}
use Rattle.keyed_file.specs.Volume.{files_on}
use Rattle.keyed_file.proofs.label.list_files.Given as goal

abbrev pub invariant-loop-line : goal.invariant-loop-line
invariant-loop-line l = record {
  here : l.number ≡ 1 + l.line-index;
  room : 16 ≤ vec_capacity l.files;
  few : length l.files.items ≤ l.line-index;
  rest : files_on l.volume 1 l.lines ≡ l.files.items ++ files_on l.volume l.number (drop l.line-index l.lines);
}
