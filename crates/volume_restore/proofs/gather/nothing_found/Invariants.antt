use Rattle.std.specs.Prelude.{Some, None}
use Rattle.std.proofs.Common.{◌≡◌, ◌≤◌, ℕ, List, length}
use Rattle.std.specs.Prelude.{vec_capacity, slice_get}
use Rattle.volume_restore.specs.Changed.{Changes, change_of}
use Rattle.volume_restore.proofs.gather.nothing_found.Given as goal

abbrev pub invariant-loop : goal.invariant-loop
invariant-loop l = record {
  count : length l.parts.items ≡ l.counter;
  room : l.blocks ≤ vec_capacity l.parts;
  none : (n : ℕ) (part : Changes) → slice_get l.parts.items n ≡ Some part → (key : List ℕ) → change_of part key ≡ None;
}
