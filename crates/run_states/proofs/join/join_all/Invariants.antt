use Rattle.std.specs.Prelude.{true, vec_capacity}
use Rattle.std.proofs.Common.{◌≡◌, ◌≤◌, ◌+◌, ◌++◌, map, vec_len}
use Rattle.run_opening.specs.Kept.{device_kept}
use Rattle.run_states.specs.Joined.{MayAllJoin}
use Rattle.run_states.specs.States.{AreBuilt, AreStates, state_device}
use Rattle.run_states.proofs.join.join_all.Given as goal

abbrev pub invariant-loop-number : goal.invariant-loop-number
invariant-loop-number g l = record {
  seats : l.seats ≡ l.number;
  left : vec_len l.left + l.number ≡ 21;
  count : vec_len l.states ≡ l.number;
  room : 21 ≤ vec_capacity l.states;
  may : MayAllJoin g.D.Disk g.J.Run.opening g.J.NodeRun.found g.J.NodeRun.rules g.J.NodeRun.faults g.J.NodeRun.premise g.J.DeviceRun.devices l.site.config.now l.number l.left.items;
  states : AreStates g.D.Disk g.J.Run.opening g.J.NodeRun.found g.J.NodeRun.faults g.J.DeviceRun.devices l.states.items;
  built : l.built ≡ true → AreBuilt g.D.Disk g.J.NodeRun.found g.J.DeviceRun.devices l.fn.states.items → AreBuilt g.D.Disk g.J.NodeRun.found g.J.DeviceRun.devices l.states.items;
  devices : map state_device l.states.items ++ map device_kept l.left.items ≡ map state_device l.fn.states.items ++ map device_kept l.fn.kept.items;
}
