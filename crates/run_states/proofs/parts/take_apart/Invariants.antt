use Rattle.std.proofs.Common.{◌≡◌, ◌≤◌, ◌<◌, ◌+◌, ℕ, vec_len}
use Rattle.std.specs.List.{Contains}
use Rattle.std.specs.Prelude.{vec_capacity}
use Rattle.chronicle.specs.Seats.{Sight}
use Rattle.node_machine.specs.declared.event.Event.{Event}
use Rattle.run_states.specs.Post.{HasPost, IsDone, tokens_in, tokens_of}
use Rattle.run_states.proofs.parts.take_apart.Given as goal

abbrev pub invariant-loop-number : goal.invariant-loop-number
invariant-loop-number g l = record {
  rest : (m : ℕ) → l.number ≤ m → m < 21 → HasPost l.rest.items m;
  left : vec_len l.rest + l.number ≡ 21;
  devices : vec_len l.devices ≡ l.number;
  room : 21 ≤ vec_capacity l.devices;
  more : vec_len l.seats ≡ vec_len l.fn.seats + l.number;
  seat_room : vec_len l.fn.seats + 21 ≤ vec_capacity l.seats;
  done : (m : ℕ) → m < l.number → IsDone g.D.Disk g.J.Run.opening g.J.NodeRun.found g.J.NodeRun.faults g.J.DeviceRun.devices l.devices.items l.seats.items m;
  tokens : tokens_in l.seats.items + tokens_of l.rest.items ≡ tokens_in l.fn.seats.items + tokens_of l.fn.posts.items;
  kept : (v : Sight Event) → Contains l.fn.seats.items v → Contains l.seats.items v;
}
