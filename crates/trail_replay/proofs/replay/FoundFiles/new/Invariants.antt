use Rattle.std.specs.Prelude.{Some}
use Rattle.std.specs.BTreeMap.{BTreeMap}
use Rattle.std.proofs.Common.{◌≡◌, ◌≤◌, ℕ, [], List, length}
use Rattle.std.specs.Prelude.{vec_capacity, slice_get, Option}
use Rattle.trail_replay.proofs.replay.FoundFiles.new.Given as goal

abbrev pub invariant-loop : goal.invariant-loop
invariant-loop l = record {
  count : length l.files.items ≡ l.counter;
  room : l.count ≤ vec_capacity l.files;
  none : (n : ℕ) (found : BTreeMap (List ℕ) (Option (List ℕ))) → slice_get l.files.items n ≡ Some found → found.entries ≡ [];
}
