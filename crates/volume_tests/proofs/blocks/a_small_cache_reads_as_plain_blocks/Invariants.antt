use Rattle.std.proofs.Common.{◌≡◌}
use Rattle.keyed_file.specs.Volume.{blocks_of}
use Rattle.block_cache.specs.declared.pair.PairPhase.TheVariants.{Settled}
use Rattle.block_cache.specs.Rewrite.{IsCalm}
use Rattle.volume_tests.proofs.blocks.a_small_cache_reads_as_plain_blocks.Given as goal

abbrev pub invariant-loop : goal.invariant-loop
invariant-loop g l = record {
  files : blocks_of l.blocks.label.files 1 ≡ 16;
  calm : IsCalm l.blocks.cache;
  settled : l.blocks.label_phase ≡ Settled;
}
