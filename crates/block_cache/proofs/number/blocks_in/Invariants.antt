use Rattle.std.proofs.Common.{◌≡◌, length}
use Rattle.keyed_file.specs.Volume.{blocks_of}
use Rattle.block_cache.proofs.number.blocks_in.Given as goal

abbrev pub invariant-loop-number : goal.invariant-loop-number
invariant-loop-number l = blocks_of l.rest l.file ≡ blocks_of l.files l.file

abbrev pub decreases-loop-number : goal.decreases-loop-number
decreases-loop-number l = length l.rest
