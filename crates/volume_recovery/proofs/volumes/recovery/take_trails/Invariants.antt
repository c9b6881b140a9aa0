use Rattle.std.proofs.Common.{◌-◌, ◌≡◌, ◌≤◌, ◌<◌, ◌+◌, [], ℕ, List, length}
use Rattle.disk_model.specs.Devices.{AreHeld, DevicesTell}
use Rattle.disk_model.specs.Held.{Held}
use Rattle.tmf_model.specs.declared.config.Volume.{Volume}
use Rattle.trail_files.specs.declared.audit_record.AuditRecord.{AuditRecord}
use Rattle.trail_files.specs.declared.damage.Damage.{Damage}
use Rattle.trail_files.specs.declared.monitor_record.MonitorRecord.{MonitorRecord}
use Rattle.trail_files.specs.StandsFor.{IsNumber}
use Rattle.trail_replay.specs.Reading.{HasCommits}
use Rattle.volume_restore.specs.Found.{AreFoundFor, FitsNode}
use Rattle.trail_replay.specs.Texts.{IsFirstDamage}
use Rattle.volume_recovery.specs.Node.{SpellUpTo}
use Rattle.volume_recovery.specs.VolumeAnswers.{SpellTrails}
use Rattle.volume_recovery.specs.VolumeLoop.{ReadsBay}
use Rattle.volume_recovery.proofs.volumes.recovery.take_trails.Given as goal

abbrev pub invariant-loop-trail : goal.invariant-loop-trail
invariant-loop-trail g l = record {
  taken : (images : ℕ → Held) (list : List MonitorRecord) (audit : ℕ → List AuditRecord) → DevicesTell g.D.Disk.tells l.initial.bay → AreHeld g.D.Disk.held l.initial.bay images
      → SpellTrails l.config images list audit → HasCommits list l.commits → (volume low : ℕ) (line : Volume) → IsNumber l.config.volumes volume line
      → AreFoundFor l.config volume low [] list l.initial.changes
      → (line.trail ≤ l.trail → AreFoundFor l.config volume low (audit line.trail) list l.changes) × (l.trail < line.trail → AreFoundFor l.config volume low [] list l.changes);
  told : (images : ℕ → Held) → DevicesTell g.D.Disk.tells l.initial.bay → AreHeld g.D.Disk.held l.initial.bay images → SpellUpTo l.config images l.trail;
  first : (images : ℕ → Held) (device : ℕ) (damage : Damage) → DevicesTell g.D.Disk.tells l.initial.bay → AreHeld g.D.Disk.held l.initial.bay images
      → IsFirstDamage l.config images device damage → 0 < device → l.trail < device;
  fits : FitsNode l.config l.changes;
  reads : ReadsBay g.D.Disk l.config l.initial.bay l.bay;
  within : l.trail ≤ l.count;
  count : l.count ≡ length l.config.trails;
  few : length l.config.trails ≤ 4;
}

abbrev pub decreases-loop-trail : goal.decreases-loop-trail
decreases-loop-trail g l = l.count - l.trail
