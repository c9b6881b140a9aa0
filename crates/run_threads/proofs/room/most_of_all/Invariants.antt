use Rattle.std.specs.List.{sum_by}
use Rattle.std.proofs.Common.{◌≡◌, ◌≤◌, ◌+◌, ◌*◌, drop}
use Rattle.run_outcomes.specs.Room.{most_outcomes}
use Rattle.run_threads.proofs.room.most_of_all.Given as goal

abbrev pub invariant-loop-items : goal.invariant-loop-items
invariant-loop-items l = record {
  counted : l.count + sum_by (λ items. most_outcomes items) (drop l.items-index l.workers) ≡ sum_by (λ items. most_outcomes items) l.workers;
  few : l.count ≤ 32768 * l.items-index;
}
