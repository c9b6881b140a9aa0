use Rattle.std.proofs.Common.{◌≡◌, ◌++◌, List, IsTrue}
use Rattle.trail_files.specs.declared.audit_record.AuditRecord.{AuditRecord}
use Rattle.trail_files.specs.AuditRecord.{audit_format}
use Rattle.trail_files.specs.Content.{Placed, Content}
use Rattle.trail_files.specs.Holds.{Holds, Keeps}
use Rattle.trail_files.specs.Trail.{Ahead, records_left}
use Rattle.node_machine.specs.Same.{Among}
use Rattle.audit_writer.specs.Purge.{IsSpent}
use Rattle.audit_writer.proofs.purge.first_kept.Given as goal

abbrev pub invariant-loop-item : goal.invariant-loop-item
invariant-loop-item g l = record {
  holds : (content : Content AuditRecord) → Holds g.D.Disk audit_format l.initial.trail content → Holds g.D.Disk audit_format l.trail content;
  keeps : Keeps g.D.Disk l.initial.trail l.trail;
  phase : l.trail.phase ≡ l.initial.trail.phase;
  least : l.trail.least ≡ l.initial.trail.least;
  file : l.trail.file ≡ l.initial.trail.file;
  ahead : (content : Content AuditRecord) → IsTrue (g.D.Disk.tells l.initial.trail.device) → Holds g.D.Disk audit_format l.initial.trail content
      → (seen rest : List (Placed AuditRecord)) × (content.placed ≡ seen ++ rest) × Ahead g.D.Disk.held audit_format l.trail l.cursor rest × ((x : Placed AuditRecord) → Among seen x → IsSpent l.bounds x.1);
}

abbrev pub decreases-loop-item : goal.decreases-loop-item
decreases-loop-item g l = records_left l.trail l.cursor
