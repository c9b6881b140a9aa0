use Rattle.std.proofs.Common.{◌-◌, ◌≡◌, ◌≤◌, ℕ, length}
use Rattle.disk_model.specs.Devices.{AreHeld, DevicesTell}
use Rattle.disk_model.specs.Held.{Held}
use Rattle.volume_recovery.specs.VolumeAnswers.{lost_among}
use Rattle.volume_recovery.specs.VolumeLoop.{AreReadable, HaveRooms, ReadsBay}
use Rattle.volume_recovery.proofs.volumes.recovery.inspect_volumes.Given as goal

abbrev pub invariant-loop-volume : goal.invariant-loop-volume
invariant-loop-volume g l = record {
  lost : (images : ℕ → Held) → DevicesTell g.D.Disk.tells l.initial.bay → AreHeld g.D.Disk.held l.initial.bay images → l.lost.items ≡ lost_among images l.volume;
  readable : (images : ℕ → Held) → DevicesTell g.D.Disk.tells l.initial.bay → AreHeld g.D.Disk.held l.initial.bay images → AreReadable l.config images l.volume;
  rooms : (images : ℕ → Held) → DevicesTell g.D.Disk.tells l.initial.bay → AreHeld g.D.Disk.held l.initial.bay images → HaveRooms l.config images l.changes l.volume;
  reads : ReadsBay g.D.Disk l.config l.initial.bay l.bay;
  within : l.volume ≤ l.last - 1;
  count : l.last ≡ length l.config.volumes;
  few : length l.config.volumes ≤ 8;
}

abbrev pub decreases-loop-volume : goal.decreases-loop-volume
decreases-loop-volume g l = l.last - l.volume
