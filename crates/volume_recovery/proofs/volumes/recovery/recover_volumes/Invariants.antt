use Rattle.std.proofs.Common.{◌≡◌, ◌≤◌, ℕ, List, length}
use Rattle.disk_model.specs.Devices.{AreHeld, DevicesTell}
use Rattle.disk_model.specs.Held.{Held}
use Rattle.trail_files.specs.declared.audit_record.AuditRecord.{AuditRecord}
use Rattle.trail_files.specs.declared.monitor_record.MonitorRecord.{MonitorRecord}
use Rattle.volume_recovery.specs.Node.{AreAtRest}
use Rattle.volume_recovery.specs.VolumeLoop.{AreFound, AreHeldBelow, AreRecoveredFrom, AreSettledFrom, WritesBay}
use Rattle.volume_recovery.proofs.volumes.recovery.recover_volumes.Given as goal

abbrev pub invariant-loop-volume : goal.invariant-loop-volume
invariant-loop-volume g l = record {
  done : (images : ℕ → Held) (list : List MonitorRecord) (audit : ℕ → List AuditRecord) → DevicesTell g.D.Disk.tells l.fn.bay → AreHeld g.D.Disk.held l.fn.bay images → AreAtRest images
      → AreFound l.config images audit list l.changes → AreRecoveredFrom g.D.Disk.held l.config images list audit l.volume l.bay;
  settled : (images : ℕ → Held) → DevicesTell g.D.Disk.tells l.fn.bay → AreHeld g.D.Disk.held l.fn.bay images → AreAtRest images
      → AreSettledFrom g.D.Disk.held l.config images l.volume l.bay;
  held : (images : ℕ → Held) → AreHeld g.D.Disk.held l.fn.bay images → AreHeldBelow g.D.Disk.held l.config l.volume images l.bay;
  writes : WritesBay g.D.Disk l.config l.fn.bay l.bay;
  some : 1 ≤ l.volume;
  within : l.volume ≤ l.last;
  count : l.last ≡ length l.config.volumes;
  few : length l.config.volumes ≤ 8;
}

abbrev pub decreases-loop-volume : goal.decreases-loop-volume
decreases-loop-volume g l = l.volume
