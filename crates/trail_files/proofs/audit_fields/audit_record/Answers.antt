use Rattle.std.proofs.Common.{sym, ◌∙◌}
use Rattle.trail_files.specs.AuditReading.{bad_word}
use Rattle.trail_files.proofs.audit_fields.audit_record.Goals as goal

pub returns-in-Err-clause-cause : goal.returns-in-Err-clause-cause
returns-in-Err-clause-cause c = bad_word c.args.rules.now c.args.bytes.now (sym c.bad_head_field.ensures ∙ c.in_default.is) ∙ c.in-Err.ensures.cause

pub returns-in-Ok-clause-fine : goal.returns-in-Ok-clause-fine
returns-in-Ok-clause-fine c = bad_word c.args.rules.now c.args.bytes.now (sym c.bad_head_field.ensures ∙ c.in_default.is) ∙ c.in-Ok.ensures.fine
