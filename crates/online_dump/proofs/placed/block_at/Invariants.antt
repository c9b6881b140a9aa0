use Rattle.std.proofs.Common.{◌≡◌, ◌+◌, take}
use Rattle.keyed_file.specs.Dump.{blocks_in_all}
use Rattle.keyed_file.specs.Volume.{files_on}
use Rattle.online_dump.proofs.placed.block_at.Given as goal

abbrev pub invariant-loop-line : goal.invariant-loop-line
invariant-loop-line l = record {
  file : l.file ≡ l.line-index + 1;
  left : blocks_in_all (files_on l.volume 1 (take l.line-index l.line-items)) + l.left ≡ l.place;
}
