use Rattle.std.proofs.Common.{◌≡◌, ◌⊎◌, ℕ, List, Some, None, drop}
use Rattle.std.specs.Prelude.{IsSome, bytes_eq, slice_get}
use Rattle.std.specs.Map.{lookup}
use Rattle.keyed_file.specs.Block.{IsBlock, value_at}
use Rattle.volume_restore.specs.Changed.{IsPart, change_of, changed_values}
use Rattle.volume_restore.proofs.block.keep_records.Given as goal

abbrev pub invariant-loop-key : goal.invariant-loop-key
invariant-loop-key l = record {
  part : IsPart l.fn.home (changed_values l.changes l.block) l.made;
  left : (key : List ℕ) → change_of l.changes key ≡ None → IsSome (value_at l.block key) → (value_at l.made key ≡ value_at l.block key) ⊎ IsSome (lookup (bytes_eq key) (drop l.key-index l.key-items));
  own : (n : ℕ) (e : List ℕ × List ℕ) → slice_get l.key-items n ≡ Some e → value_at l.block e.0 ≡ Some e.1;
  valid : IsBlock l.made;
}
