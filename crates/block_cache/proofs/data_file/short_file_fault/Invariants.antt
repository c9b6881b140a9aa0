use Rattle.std.proofs.Common.{◌≡◌, None}
use Rattle.block_cache.specs.Damage.{bad_among}
use Rattle.block_cache.proofs.data_file.short_file_fault.Given as goal

abbrev pub invariant-loop-number : goal.invariant-loop-number
invariant-loop-number l = bad_among l.home l.number l.bytes ≡ None
