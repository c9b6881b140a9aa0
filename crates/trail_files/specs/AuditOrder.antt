-- Which rows of records an audit trail may hold, and what damage a record is behind others.
use Rattle.std.specs.Prelude.{ℕ, ◌+◌, Bool, true, ◌==◌, if◌then◌else◌, List, [], Option, Some, None}
use Rattle.std.specs.Option.{option_or, option_map_or}
use Rattle.trail_files.specs.declared.audit_record.AuditRecord.{AuditRecord}
use Rattle.trail_files.specs.declared.damage.DamageKind.{DamageKind}
use Rattle.trail_files.specs.declared.damage.DamageKind.TheVariants.{BadRecord, Order}
use Rattle.trail_files.specs.declared.rules.Rules.{Rules}
use Rattle.trail_files.specs.AuditFormat.{audit_fields, audit_record_at}
use Rattle.trail_files.specs.RecordOrder.{each_follows, last_told, damage_of}
use Rattle.trail_files.specs.RecordTable.{first_bad}

-- the record's position, if it is of this disc
abbrev pub position_on : ℕ → AuditRecord → Option ℕ
position_on disc r = if r.disc == disc then Some r.position else None

-- the disc's last position
abbrev pub last_position : ℕ → List AuditRecord → Option ℕ
last_position disc before = last_told (position_on disc) before

-- the first position of a disc may be any, and each further one is the next
abbrev pub audit_follows : List AuditRecord → AuditRecord → Bool
audit_follows before r = option_map_or (λ last. r.position == last + 1) (last_position r.disc before) true

-- the first records of a trail may be these
abbrev pub is_audit_order : List AuditRecord → Bool
is_audit_order records = each_follows audit_follows [] records

-- the damage of a record's bytes behind these records: its offset and its kind, if there is any
abbrev pub audit_damage : Rules → List AuditRecord → List ℕ → Option (ℕ × DamageKind)
audit_damage rules before bytes =
    option_or
    (damage_of BadRecord (first_bad (audit_fields rules bytes)))
    (if audit_follows before (audit_record_at bytes) then None else Some (16, Order))
