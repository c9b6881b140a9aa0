use Rattle.std.proofs.Common.{◌≡◌, ◌≤◌, ℕ, Some, length}
use Rattle.std.specs.Prelude.{slice_get, vec_capacity}
use Rattle.keyed_file.specs.Block.{KeyedBlock}
use Rattle.volume_restore.specs.Formatted.{empty_contents}
use Rattle.volume_restore.proofs.format.empty_file.Given as goal

abbrev pub invariant-loop-number : goal.invariant-loop-number
invariant-loop-number l = record {
  count : length l.blocks.items ≡ l.number;
  room : l.fn.count ≤ vec_capacity l.blocks;
  each : (n : ℕ) (content : KeyedBlock) → slice_get l.blocks.items n ≡ Some content → content ≡ empty_contents l.fn.file n;
}
