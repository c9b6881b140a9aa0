use Rattle.std.specs.Prelude.{slice_get, Some}
use Rattle.std.proofs.Common.{◌-◌, ◌≡◌, ◌≤◌, ℕ, length}
use Rattle.disk_model.specs.Devices.{AreHeld, DevicesTell}
use Rattle.disk_model.specs.Held.{Held}
use Rattle.tmf_model.specs.Config.{IsWithin}
use Rattle.volume_recovery.specs.VolumeLoop.{AreLows, ReadsBay}
use Rattle.volume_recovery.proofs.volumes.recovery.read_lows.Given as goal

abbrev pub invariant-loop-volume : goal.invariant-loop-volume
invariant-loop-volume g l = record {
  lows : (images : ℕ → Held) → DevicesTell g.D.Disk.tells l.initial.bay → AreHeld g.D.Disk.held l.initial.bay images → AreLows l.config images l.volume l.lows.items;
  long : length l.lows.items ≡ l.volume;
  inside : (n low : ℕ) → slice_get l.lows.items n ≡ Some low → IsWithin 1 4611686018427387904 low;
  reads : ReadsBay g.D.Disk l.config l.initial.bay l.bay;
  within : l.volume ≤ l.count;
  count : l.count ≡ length l.config.volumes;
  few : length l.config.volumes ≤ 8;
}

abbrev pub decreases-loop-volume : goal.decreases-loop-volume
decreases-loop-volume g l = l.count - l.volume
