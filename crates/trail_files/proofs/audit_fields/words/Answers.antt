use Rattle.std.specs.Prelude.{◌∷◌, []}
use Rattle.std.proofs.Common.{sym}
use Rattle.trail_files.specs.AuditFormat.{audit_word_fields}
use Rattle.trail_files.specs.RecordTable.{first_bad}
use Rattle.trail_files.specs.AuditReading.{held}
use Rattle.trail_files.specs.RecordFields.{none_bad}
use Rattle.trail_files.proofs.audit_fields.words.Goals as goal

pub returns-then-is_padding-clause-key : goal.returns-then-is_padding-clause-key
returns-then-is_padding-clause-key c = (held _ _ _ c.in-Some.ensures).1

pub returns-then-is_padding-clause-before : goal.returns-then-is_padding-clause-before
returns-then-is_padding-clause-before c = (held _ _ _ c.in-Some-image_at.ensures).1

pub returns-then-is_padding-clause-after : goal.returns-then-is_padding-clause-after
returns-then-is_padding-clause-after c = (held _ _ _ c.in-Some-image_at-2.ensures).1

pub returns-then-is_padding-clause-fine : goal.returns-then-is_padding-clause-fine
returns-then-is_padding-clause-fine c =
    none_bad (audit_word_fields c.args.bytes.now)
    ((held _ _ _ c.in-Some.ensures).0, ((held _ _ _ c.in-Some-image_at.ensures).0, ((held _ _ _ c.in-Some-image_at-2.ensures).0, (sym c.if-is_padding.ensures, tt))))

pub returns-else-is_padding-clause-cause : goal.returns-else-is_padding-clause-cause
returns-else-is_padding-clause-cause c =
    let key = (held _ _ _ c.in-Some.ensures).0 in
    let before = (held _ _ _ c.in-Some-image_at.ensures).0 in
    let after = (held _ _ _ c.in-Some-image_at-2.ensures).0 in
    let end = sym c.if-is_padding.ensures in
    λ i. first_bad ((24, key i) ∷ (40, before i) ∷ (80, after i) ∷ (120, end i) ∷ [])
