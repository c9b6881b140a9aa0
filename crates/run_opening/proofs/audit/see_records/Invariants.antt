use Rattle.std.proofs.Common.{◌≡◌, ◌≢◌, ◌++◌, ℕ, List, [], IsTrue}
use Rattle.tmf_model.specs.Config.{IsNumber}
use Rattle.tmf_model.specs.declared.config.Volume.{Volume}
use Rattle.trail_files.specs.declared.audit_record.AuditRecord.{AuditRecord}
use Rattle.trail_files.specs.AuditRecord.{audit_format}
use Rattle.trail_files.specs.Calls.{KeepsContent}
use Rattle.trail_files.specs.Content.{Placed, records_in}
use Rattle.trail_files.specs.Trail.{Ahead, Reads, records_left}
use Rattle.run_opening.specs.Lasts.{IsNextFor, next_at}
use Rattle.run_opening.proofs.audit.see_records.Given as goal

abbrev pub invariant-loop-item : goal.invariant-loop-item
invariant-loop-item g l = record {
  own : (audit : List AuditRecord) → IsTrue (g.D.Disk.tells l.initial.trail.device) → Reads g.D.Disk.held audit_format l.initial.trail audit
      → (rest : List (Placed AuditRecord)) × Ahead g.D.Disk.held audit_format l.trail l.cursor rest × (read : List AuditRecord) × (read ++ records_in rest ≡ audit)
      × ((volume low : ℕ) (line : Volume) → IsNumber l.config.volumes volume line → line.trail ≡ l.number → IsNextFor volume low [] (next_at l.initial.lasts volume) → IsNextFor volume low read (next_at l.lasts volume));
  others : (volume : ℕ) (line : Volume) → IsNumber l.config.volumes volume line → line.trail ≢ l.number → next_at l.lasts volume ≡ next_at l.initial.lasts volume;
  frame : KeepsContent g.D.Disk audit_format l.initial.trail l.trail;
}

abbrev pub decreases-loop-item : goal.decreases-loop-item
decreases-loop-item g l = records_left l.trail l.cursor
