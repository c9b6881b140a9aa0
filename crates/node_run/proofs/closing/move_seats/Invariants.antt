use Rattle.std.specs.Prelude.{◌≤◌, vec_capacity}
use Rattle.std.proofs.Common.{◌≡◌, ◌+◌, ◌++◌, length, vec_len}
use Rattle.node_run.proofs.closing.move_seats.Given as goal

abbrev pub invariant-loop-seat : goal.invariant-loop-seat
invariant-loop-seat g l = record {
  moved : l.seats.items ++ l.rest ≡ l.fn.seats.items ++ l.fn.own.items;
  room : vec_len l.seats + length l.rest ≤ vec_capacity l.seats;
  capacity : vec_capacity l.seats ≡ vec_capacity l.fn.seats;
}

abbrev pub decreases-loop-seat : goal.decreases-loop-seat
decreases-loop-seat g l = length l.rest
