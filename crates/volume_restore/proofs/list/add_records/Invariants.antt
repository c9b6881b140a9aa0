use Rattle.std.proofs.Common.{◌≡◌, ◌⊎◌, ℕ, List, Some, None, drop}
use Rattle.std.specs.Prelude.{IsSome, bytes_eq, slice_get}
use Rattle.std.specs.Map.{lookup}
use Rattle.keyed_file.specs.Block.{value_at}
use Rattle.volume_restore.specs.Listed.{value_in}
use Rattle.volume_restore.proofs.list.add_records.Given as goal

abbrev pub invariant-loop-key : goal.invariant-loop-key
invariant-loop-key l = record {
  own : (n : ℕ) (e : List ℕ × List ℕ) → slice_get l.key-items n ≡ Some e → value_at l.block e.0 ≡ Some e.1;
  added : (key : List ℕ) → IsSome (value_at l.block key) → (value_in l.records key ≡ value_at l.block key) ⊎ IsSome (lookup (bytes_eq key) (drop l.key-index l.key-items));
  others : (key : List ℕ) → value_at l.block key ≡ None → value_in l.records key ≡ value_in l.initial.records key;
}
