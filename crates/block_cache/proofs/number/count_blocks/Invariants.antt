use Rattle.std.proofs.Common.{◌≡◌, ◌+◌, drop}
use Rattle.keyed_file.specs.Dump.{blocks_in_all}
use Rattle.block_cache.proofs.number.count_blocks.Given as goal

abbrev pub invariant-loop-count : goal.invariant-loop-count
invariant-loop-count l = record {
  sum : blocks_in_all l.label.files ≡ l.blocks + blocks_in_all (drop l.count-index l.label.files);
}
