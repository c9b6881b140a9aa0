use Rattle.std.specs.Prelude.{◌≤◌, vec_capacity}
use Rattle.std.specs.List.{flat_map, sum_by}
use Rattle.std.proofs.Common.{◌≡◌, ◌+◌, ◌++◌, length, map}
use Rattle.run_threads.specs.Hands.{workers_of}
use Rattle.run_threads.proofs.ending.end_each.Given as goal

abbrev pub invariant-loop-hand : goal.invariant-loop-hand
invariant-loop-hand g l = record {
  seats : l.seats.items ++ map (λ hand. hand.worker.seat) (workers_of l.rest) ≡ l.fn.seats.items ++ map (λ hand. hand.worker.seat) (workers_of l.fn.hands.items);
  outcomes : l.outcomes.items ++ flat_map (λ hand. hand.worker.outcomes.items) (workers_of l.rest) ≡ l.fn.outcomes.items ++ flat_map (λ hand. hand.worker.outcomes.items) (workers_of l.fn.hands.items);
  parts : l.home.parts + sum_by (λ hand. hand.worker.share.parts) (workers_of l.rest) ≡ l.fn.home.parts + sum_by (λ hand. hand.worker.share.parts) (workers_of l.fn.hands.items);
  amount : l.home.amount + sum_by (λ hand. hand.worker.share.amount) (workers_of l.rest) ≡ l.fn.home.amount + sum_by (λ hand. hand.worker.share.amount) (workers_of l.fn.hands.items);
  seats_room : length l.seats.items + length (workers_of l.rest) ≤ vec_capacity l.seats;
  room : length l.outcomes.items + length (flat_map (λ hand. hand.worker.outcomes.items) (workers_of l.rest)) ≤ vec_capacity l.outcomes;
  capacity : vec_capacity l.seats ≡ vec_capacity l.fn.seats;
}

abbrev pub decreases-loop-hand : goal.decreases-loop-hand
decreases-loop-hand g l = length l.rest
