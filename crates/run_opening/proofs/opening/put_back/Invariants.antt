use Rattle.std.proofs.Common.{◌≡◌, ◌≤◌, ◌+◌, ◌++◌, length, map, vec_len}
use Rattle.run_opening.specs.Kept.{device_kept}
use Rattle.run_opening.proofs.opening.put_back.Given as goal

abbrev pub invariant-loop-one : goal.invariant-loop-one
invariant-loop-one g l = record {
  devices : map device_kept l.rest.items ++ l.row.devices ≡ map device_kept l.initial.rest.items ++ l.initial.row.devices;
  many : length l.row.devices + length l.rest.items ≤ l.row.room;
  room : l.row.room ≡ l.initial.row.room;
}

abbrev pub decreases-loop-one : goal.decreases-loop-one
decreases-loop-one g l = vec_len l.rest
