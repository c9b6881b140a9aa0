-- A record's bytes have no damage exactly where they spell a record that may stand there.
use Rattle.std.proofs.Common.{◌≡◌, ℕ, Bool, true, false, List, [], ◌∷◌, ◌++◌, length, Some, None, refl, sym, ap, ◌∙◌}
use Rattle.std.specs.Prelude.{if◌then◌else◌}
use Rattle.std.specs.Option.{option_or}
use Rattle.trail_files.specs.declared.audit_record.AuditRecord.{AuditRecord}
use Rattle.trail_files.specs.declared.damage.DamageKind.{DamageKind}
use Rattle.trail_files.specs.declared.damage.DamageKind.TheVariants.{BadRecord, Order}
use Rattle.trail_files.specs.declared.rules.Rules.{Rules}
use Rattle.trail_files.specs.AuditFormat.{audit_spelling, is_audit_record, audit_fields, audit_record_at}
use Rattle.trail_files.specs.AuditLaws.{audit_record_at-spelling}
use Rattle.trail_files.specs.AuditOrder.{audit_follows, is_audit_order, audit_damage}
use Rattle.trail_files.specs.RecordOrder.{damage_of}
use Rattle.trail_files.specs.RecordTable.{first_bad}
use Rattle.trail_files.specs.AuditReading.{audit_read, audit_fits}
use Rattle.trail_files.specs.OrderFaults.{none_parts, no_damage}
use Rattle.trail_files.specs.RecordFields.{AreBytes}
use Rattle.trail_files.specs.RecordOrders.{follows-push}

test_from_none : (test : Bool) (x : ℕ × DamageKind) → (if test then None else Some x) ≡ None → test ≡ true
test_from_none true x e = refl
test_from_none false x e = absurd cc

-- what is read without damage is a valid record, spelled by these bytes
pub next_read : (rules : Rules) (before : List AuditRecord) (bytes : List ℕ) (item : AuditRecord) → length bytes ≡ 128 → AreBytes bytes
    → audit_damage rules before bytes ≡ None → item ≡ audit_record_at bytes → (is_audit_record rules item ≡ true) × (bytes ≡ audit_spelling item item.position)
next_read rules before bytes item l h none same =
    let parts = none_parts (damage_of BadRecord (first_bad (audit_fields rules bytes))) _ none in
    let read = audit_read rules bytes l h (no_damage BadRecord (first_bad (audit_fields rules bytes)) parts.0) in
    (ap (is_audit_record rules) same ∙ read.0, read.1 ∙ ap (λ r. audit_spelling r r.position) (sym same))

-- a valid record that may stand there has no damage
pub none_from_spelling : (rules : Rules) (before : List AuditRecord) (item : AuditRecord) (bytes : List ℕ)
    → is_audit_record rules item ≡ true → bytes ≡ audit_spelling item item.position → is_audit_order (before ++ item ∷ []) ≡ true → audit_damage rules before bytes ≡ None
none_from_spelling rules before item bytes v spelled order =
    let fits = ap (λ b. first_bad (audit_fields rules b)) spelled ∙ audit_fits rules item v in
    let read = ap audit_record_at spelled ∙ audit_record_at-spelling rules item v in
    let follows = ap (audit_follows before) read ∙ follows-push audit_follows before item order in
    λ i. option_or (damage_of BadRecord (fits i)) (if follows i then None else Some (16, Order))

-- a valid record that may stand behind others has no damage there
pub audit_undamaged : (rules : Rules) (before : List AuditRecord) (item : AuditRecord) → is_audit_record rules item ≡ true → is_audit_order (before ++ item ∷ []) ≡ true → audit_damage rules before (audit_spelling item item.position) ≡ None
audit_undamaged rules before item v order = none_from_spelling rules before item (audit_spelling item item.position) v refl order
