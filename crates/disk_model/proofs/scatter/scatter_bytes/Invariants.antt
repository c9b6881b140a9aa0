use Rattle.std.proofs.Common.{◌≤◌, ◌-◌, length}
use Rattle.disk_model.specs.MemDisk.{synced_byte}
use Rattle.disk_model.specs.Scattered.{IsScattered, is_told}
use Rattle.disk_model.proofs.scatter.scatter_bytes.Given as goal

abbrev pub invariant-loop-at : goal.invariant-loop-at
invariant-loop-at l = record {
  done : IsScattered (is_told l.base l.risk) (synced_byte l.base) l.fn.draws.state l.fn.bytes l.bytes l.at l.draws.state;
  within : l.at ≤ length l.fn.bytes;
}

abbrev pub decreases-loop-at : goal.decreases-loop-at
decreases-loop-at l = length l.fn.bytes - l.at
