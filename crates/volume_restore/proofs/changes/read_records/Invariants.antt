use Rattle.std.proofs.Common.{◌≡◌, ◌≢◌, ◌++◌, ℕ, List, [], IsTrue}
use Rattle.disk_model.specs.Frame.{IsLater}
use Rattle.tmf_model.specs.Config.{IsNumber}
use Rattle.tmf_model.specs.declared.config.Volume.{Volume}
use Rattle.trail_files.specs.declared.audit_record.AuditRecord.{AuditRecord}
use Rattle.trail_files.specs.declared.monitor_record.MonitorRecord.{MonitorRecord}
use Rattle.trail_files.specs.AuditRecord.{audit_format}
use Rattle.trail_files.specs.Content.{Placed, records_in}
use Rattle.trail_files.specs.Trail.{Reads, Ahead, records_left}
use Rattle.trail_replay.specs.Reading.{HasCommits}
use Rattle.volume_restore.specs.Found.{AreFoundSoFar, FitsNode, IsLeftOut}
use Rattle.volume_restore.proofs.changes.read_records.Given as goal

abbrev pub invariant-loop-item : goal.invariant-loop-item
invariant-loop-item g l = record {
  own : (written : List AuditRecord) → IsTrue (g.A.Disk.tells l.initial.audit.device) → Reads g.A.Disk.held audit_format l.initial.audit written
      → (rest : List (Placed AuditRecord)) × Ahead g.A.Disk.held audit_format l.audit l.cursor rest × (read : List AuditRecord) × (read ++ records_in rest ≡ written)
      × ((volume low : ℕ) (line : Volume) (list : List MonitorRecord) → IsNumber l.config.volumes volume line → line.trail ≡ l.trail → HasCommits list l.commits
      → AreFoundSoFar l.config volume low [] list l.initial.changes → AreFoundSoFar l.config volume low read list l.changes);
  others : (volume : ℕ) (line : Volume) → IsNumber l.config.volumes volume line → line.trail ≢ l.trail → IsLeftOut l.config volume l.initial.changes l.changes;
  fits : FitsNode l.config l.changes;
  keeps : IsLater g.A.Disk l.initial.audit.device l.audit.device;
  same : g.A.Disk.held l.audit.device ≡ g.A.Disk.held l.initial.audit.device;
}

abbrev pub decreases-loop-item : goal.decreases-loop-item
decreases-loop-item g l = records_left l.audit l.cursor
