-- What a reader of an audit trail keeps.
use Rattle.std.specs.Prelude.{◌≡◌, ℕ, true, List}
use Rattle.std.specs.BTreeMap.{get}
use Rattle.std.specs.Ordering.{nat_cmp}
use Rattle.trail_files.specs.declared.audit_order.AuditOrder.{AuditOrder}
use Rattle.trail_files.specs.declared.audit_record.AuditRecord.{AuditRecord}
use Rattle.trail_files.specs.AuditOrder.{last_position, is_audit_order}

-- the order stands for these records: it knows the last position of each disc, and they may be a trail's first
pub record AuditStands (order : AuditOrder) (before : List AuditRecord) : Type 0 where
  pub last : (disc : ℕ) → get nat_cmp order.last disc ≡ last_position disc before
  pub in_order : is_audit_order before ≡ true
