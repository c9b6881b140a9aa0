use Rattle.std.proofs.Common.{◌≡◌, ◌+◌, ◌*◌, ◌≤◌, drop}
use Rattle.keyed_file.specs.Dump.{blocks_in_all}
use Rattle.rollforward.proofs.gather.count_blocks.Given as goal

abbrev pub invariant-loop-blocks : goal.invariant-loop-blocks
invariant-loop-blocks l = record {
  all : blocks_in_all l.files ≡ l.total + blocks_in_all (drop l.blocks-index l.files);
  small : l.total ≤ 256 * l.blocks-index;
}
