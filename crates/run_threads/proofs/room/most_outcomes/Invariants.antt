use Rattle.std.proofs.Common.{◌≡◌, ◌≤◌, ◌+◌, ◌*◌, drop}
use Rattle.run_outcomes.specs.Room.{most_outcomes}
use Rattle.run_threads.proofs.room.most_outcomes.Given as goal

abbrev pub invariant-loop-item : goal.invariant-loop-item
invariant-loop-item l = record {
  counted : l.count + most_outcomes (drop l.item-index l.items) ≡ most_outcomes l.items;
  few : l.count ≤ 8 * l.item-index;
}
