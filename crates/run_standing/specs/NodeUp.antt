-- A node that is up, before a run.
use Rattle.std.specs.Prelude.{◌≢◌, ℕ, ◌≤◌, List, length, All}
use Rattle.disk_model.specs.Held.{Held}
use Rattle.node_machine.specs.Law.{EndsWithStart}
use Rattle.tmf_model.specs.RecordMap.{RecordMap}
use Rattle.tmf_model.specs.declared.config.Config.{Config}
use Rattle.trail_files.specs.AuditRecord.{audit_format}
use Rattle.trail_files.specs.Text.{Spells}
use Rattle.trail_files.specs.declared.audit_record.AuditRecord.{AuditRecord}
use Rattle.trail_files.specs.declared.monitor_record.MonitorRecord.{MonitorRecord}
use Rattle.trail_replay.specs.Rules.{rules_of}
use Rattle.volume_recovery.specs.VolumeNode.{AreLowered, RestsWithVolumes}

-- The devices hold the list and the map, and nothing of it is at risk; each volume that has a label is lowered; and the list ends with the Start of the node's epoch, of
-- which no audit is yet.
pub record IsNodeUp (config : Config) (held : ℕ → Held) (list : List MonitorRecord) (map : RecordMap) (epoch : ℕ) : Type 0 where
  pub rests : RestsWithVolumes config held list map
  pub lowered : AreLowered config held list map rests.stands
  pub begun : EndsWithStart epoch list
  pub unused : (trail : ℕ) (audit : List AuditRecord) → 1 ≤ trail → trail ≤ length config.trails → Spells (audit_format (rules_of config trail)) (held trail) audit
      → All (λ r. r.tx.epoch ≢ epoch) audit
