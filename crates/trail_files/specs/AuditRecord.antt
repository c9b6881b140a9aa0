-- What the records of an audit trail are to it.
use Rattle.std.specs.Prelude.{true}
use Rattle.trail_files.specs.declared.audit_record.AuditRecord.{AuditRecord}
use Rattle.trail_files.specs.declared.rules.Rules.{Rules}
use Rattle.trail_files.specs.AuditFormat.{audit_spelling, is_audit_record}
use Rattle.trail_files.specs.AuditOrder.{is_audit_order}
use Rattle.trail_files.specs.Format.{Format}

-- what audit records are to a trail
abbrev pub audit_format : Rules → Format AuditRecord
audit_format rules = record {
  valid = is_audit_record rules;
  most = 512;
  number = λ item place. item.position;
  spelling = audit_spelling;
  in_order = is_audit_order;
  may_end = λ records. true;
  may_begin = λ file. true;
}
