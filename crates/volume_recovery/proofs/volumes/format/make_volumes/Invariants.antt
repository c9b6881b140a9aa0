use Rattle.std.proofs.Common.{◌-◌, ◌≡◌, ◌≤◌, ℕ, length}
use Rattle.std.specs.Prelude.{slice_get}
use Rattle.disk_model.specs.Devices.{AreLater, DevicesTell}
use Rattle.volume_recovery.specs.VolumeFormat.{HasNewVolume, IsVolumeDevice}
use Rattle.volume_recovery.proofs.volumes.format.make_volumes.Given as goal

abbrev pub invariant-loop-volume : goal.invariant-loop-volume
invariant-loop-volume g l = record {
  made : DevicesTell g.D.Disk.tells l.initial.bay → (n : ℕ) → 1 ≤ n → n ≤ l.volume → HasNewVolume g.D.Disk.held l.config l.bay n;
  others : (n : ℕ) → ¬ IsVolumeDevice l.config n → slice_get l.bay n ≡ slice_get l.initial.bay n;
  keeps : AreLater g.D.Disk l.initial.bay l.bay;
  within : l.volume ≤ l.count;
  count : l.count ≡ length l.config.volumes;
  few : length l.config.volumes ≤ 8;
}

abbrev pub decreases-loop-volume : goal.decreases-loop-volume
decreases-loop-volume g l = l.count - l.volume
