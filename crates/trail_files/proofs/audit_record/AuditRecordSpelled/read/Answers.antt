use Rattle.std.proofs.Common.{sym, ap, ◌∙◌, Ok, arith}
use Rattle.trail_files.specs.AuditFormat.{is_audit_record, audit_spelling, audit_fields, audit_record_at}
use Rattle.trail_files.specs.AuditLaws.{audit_record_at-spelling}
use Rattle.trail_files.specs.RecordTable.{first_bad}
use Rattle.trail_files.specs.AuditReading.{audit_read, audit_fits}
use Rattle.trail_files.proofs.audit_record.AuditRecordSpelled.read.Goals as goal

pub returns-in-Err-clause-only : goal.returns-in-Err-clause-only
returns-in-Err-clause-only c = λ item place valid is.
    let fits = ap (λ b. first_bad (audit_fields c.args.rules.now b)) is ∙ audit_fits c.args.rules.now item valid in
    absurd (cc (c.in-Err.ensures.cause, fits))

pub returns-in-Ok-clause-found : goal.returns-in-Ok-clause-found
returns-in-Ok-clause-found c =
    let read = audit_read c.args.rules.now c.args.bytes.now c.requires.length (record { at = λ i. omega (arith, c.type_inv.bytes i) }) c.in-Ok.ensures.fine in
    let same = sym c.in-Ok.ensures.value in
    (ap (is_audit_record c.args.rules.now) (sym same) ∙ read.0, read.1 ∙ ap (λ r. audit_spelling r r.position) same)

pub returns-in-Ok-clause-only : goal.returns-in-Ok-clause-only
returns-in-Ok-clause-only c = λ item place valid is.
    let same = c.in-Ok.ensures.value ∙ ap audit_record_at is ∙ audit_record_at-spelling c.args.rules.now item valid in
    ap (λ r. Ok (r, r.position)) same
