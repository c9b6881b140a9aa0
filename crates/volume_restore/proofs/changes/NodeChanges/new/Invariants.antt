use Rattle.std.specs.Prelude.{Some, slice_get, vec_capacity}
use Rattle.std.proofs.Common.{◌≡◌, ◌≤◌, ◌<◌, ℕ, length}
use Rattle.volume_restore.specs.declared.changes.DiscPlace.{DiscPlace}
use Rattle.volume_restore.proofs.changes.NodeChanges.new.Given as goal

abbrev pub invariant-loop-low : goal.invariant-loop-low
invariant-loop-low l = record {
  count : length l.places.items ≡ l.low-index;
  room : length l.lows ≤ vec_capacity l.places;
  placed : (n low : ℕ) → n < l.low-index → slice_get l.lows n ≡ Some low → slice_get l.places.items n ≡ Some (record { low = low; next = low });
  each : (n : ℕ) (place : DiscPlace) → slice_get l.places.items n ≡ Some place → slice_get l.lows n ≡ Some place.next;
}
