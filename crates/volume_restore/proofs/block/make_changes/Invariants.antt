use Rattle.std.proofs.Common.{◌≡◌, ◌⊎◌, ℕ, List, Option, Some, None}
use Rattle.std.specs.Prelude.{IsSome, bytes_eq, slice_get}
use Rattle.std.specs.Map.{lookup}
use Rattle.tmf_model.specs.Place.{block_of}
use Rattle.keyed_file.specs.Block.{IsBlock, value_at}
use Rattle.volume_restore.specs.Changed.{IsPart, change_of, changed_values}
use Rattle.volume_restore.proofs.block.make_changes.Given as goal

abbrev pub invariant-loop-key : goal.invariant-loop-key
invariant-loop-key l = record {
  part : IsPart l.fn.home (changed_values l.changes l.block) l.made;
  left : (key : List ℕ) → block_of key l.fn.home.blocks ≡ l.fn.home.number → IsSome (change_of l.changes key)
      → ((value_at l.made key ≡ changed_values l.changes l.block key) × (l.made.position ≡ l.position)) ⊎ IsSome (lookup (bytes_eq key) l.key-iterator);
  stays : (key : List ℕ) → change_of l.changes key ≡ None → value_at l.made key ≡ value_at l.initial.made key;
  own : (n : ℕ) (e : List ℕ × Option (List ℕ)) → slice_get l.key-iterator n ≡ Some e → change_of l.changes e.0 ≡ Some e.1;
  valid : IsBlock l.made;
}
