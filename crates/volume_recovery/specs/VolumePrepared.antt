-- What a recovery of a node with volumes has read before it writes.
use Rattle.std.specs.Prelude.{◌≡◌, ◌≢◌, ℕ, ◌+◌, ◌-◌, ◌<◌, ◌^◌, List, length, Some}
use Rattle.disk_model.specs.Held.{Held}
use Rattle.tmf_model.specs.declared.config.Config.{Config}
use Rattle.trail_files.specs.declared.audit_record.AuditRecord.{AuditRecord}
use Rattle.trail_files.specs.MonitorOrder.{last_epoch}
use Rattle.volume_recovery.specs.declared.volumes.recovery.Prepared.{Prepared}
use Rattle.volume_recovery.specs.Node.{next_epoch}
use Rattle.volume_recovery.specs.VolumeAnswers.{SpellTrails}
use Rattle.volume_recovery.specs.VolumeLoop.{AreFound, IsInspected}

-- The records and the changes are what the images say, and each volume but the last is ready to be written, or lost.
pub record IsPrepared (config : Config) (images : ℕ → Held) (prepared : Prepared) : Type 0 where
  pub audit : ℕ → List AuditRecord
  pub trails : SpellTrails config images prepared.records.items audit
  pub epoch : prepared.epoch ≡ next_epoch prepared.records.items
  pub unspent : last_epoch prepared.records.items ≢ Some 4294967295
  pub few : length prepared.records.items + 1 < 2 ^ 64
  pub found : AreFound config images audit prepared.records.items prepared.changes
  pub inspected : IsInspected config images prepared.changes (length config.volumes - 1) prepared.lost.items
