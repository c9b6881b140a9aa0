use Rattle.std.specs.Prelude.{vec_capacity}
use Rattle.std.proofs.Common.{◌≡◌, ◌≤◌, ◌+◌, ◌++◌, length, map, vec_len}
use Rattle.run_states.specs.States.{state_device}
use Rattle.run_states.proofs.state.into_devices.Given as goal

abbrev pub invariant-loop-state : goal.invariant-loop-state
invariant-loop-state g l = record {
  devices : l.devices.items ++ map state_device l.rest ≡ l.fn.devices.items ++ map state_device l.fn.states.items;
  room : vec_len l.devices + length l.rest ≤ vec_capacity l.devices;
}

abbrev pub decreases-loop-state : goal.decreases-loop-state
decreases-loop-state g l = length l.rest
