use Rattle.std.specs.Prelude.{vec_capacity}
use Rattle.std.proofs.Common.{◌≡◌, ◌+◌, drop, length, vec_len}
use Rattle.chronicle.specs.Seats.{new_seats}
use Rattle.run_outcomes.specs.Devices.{workers}
use Rattle.run_threads.specs.Dealt.{HasDealt}
use Rattle.run_threads.specs.Hands.{AreMade}
use Rattle.run_threads.proofs.making.add_workers.Given as goal

abbrev pub invariant-loop-room : goal.invariant-loop-room
invariant-loop-room g l = record {
  rooms : l.rest ≡ drop l.number l.fn.rooms.items;
  seats : l.crew.seats.items ≡ drop l.number (new_seats workers);
  made : AreMade l.phase l.number l.fn.crew.hands.items l.crew.hands.items;
  dealt : HasDealt l.number l.fn.home l.home;
  some : l.number + length l.rest ≡ length l.fn.rooms.items;
  many : vec_len l.crew.hands ≡ vec_len l.fn.crew.hands + l.number;
  left : vec_len l.crew.seats + l.number ≡ workers;
  capacity : vec_capacity l.crew.hands ≡ vec_capacity l.fn.crew.hands;
  seats_capacity : vec_capacity l.crew.seats ≡ vec_capacity l.fn.crew.seats;
}

abbrev pub decreases-loop-room : goal.decreases-loop-room
decreases-loop-room g l = length l.rest
