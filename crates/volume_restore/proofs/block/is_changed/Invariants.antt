use Rattle.std.proofs.Common.{◌≡◌, ℕ, List, Option, Some}
use Rattle.std.specs.Prelude.{IsSome, bytes_eq, slice_get}
use Rattle.std.specs.Map.{lookup}
use Rattle.tmf_model.specs.Place.{block_of}
use Rattle.volume_restore.specs.Changed.{change_of}
use Rattle.volume_restore.proofs.block.is_changed.Given as goal

abbrev pub invariant-loop-key : goal.invariant-loop-key
invariant-loop-key l = record {
  left : (key : List ℕ) → block_of key l.fn.place.blocks ≡ l.fn.place.number → IsSome (change_of l.changes key) → IsSome (lookup (bytes_eq key) l.key-iterator);
  own : (n : ℕ) (e : List ℕ × Option (List ℕ)) → slice_get l.key-iterator n ≡ Some e → change_of l.changes e.0 ≡ Some e.1;
}
