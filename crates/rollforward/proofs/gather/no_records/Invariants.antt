use Rattle.std.proofs.Common.{◌≡◌, ◌≤◌, ℕ, [], length}
use Rattle.std.specs.Prelude.{vec_capacity}
use Rattle.rollforward.specs.Gathered.{group_at}
use Rattle.rollforward.proofs.gather.no_records.Given as goal

abbrev pub invariant-loop : goal.invariant-loop
invariant-loop l = record {
  count : length l.groups.items ≡ l.counter;
  room : l.count ≤ vec_capacity l.groups;
  none : (n : ℕ) → group_at l.groups.items n ≡ [];
}
