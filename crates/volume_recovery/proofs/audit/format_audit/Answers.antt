use Rattle.std.proofs.Common.{[], ◌≡◌, rules as known, refl, subst}
use Rattle.trail_files.specs.AuditRecord.{audit_format}
use Rattle.trail_files.specs.Content.{no_content}
use Rattle.trail_files.specs.Trail.{Rests}
use Rattle.trail_replay.specs.Rules.{rules_of}
use Rattle.volume_recovery.proofs.audit.format_audit.Goals as goal

pub returns-in-Ok-format-clause-told : goal.returns-in-Ok-format-clause-told
returns-in-Ok-format-clause-told g c = λ tells.
    let trail = c.in-Ok-format.trail in
    let rules : trail.rules ≡ rules_of c.args.config.now c.args.trail = search known in
    subst (λ h. Rests (audit_format (rules_of c.args.config.now c.args.trail)) h []) (search known)
    (subst (λ r. Rests (audit_format r) (g.E.Disk.held trail.device.now) []) rules (c.every_image.ensures.at_rest trail no_content [] c.in-Ok-format.ensures.holds (search (known, tells)) (record { landed = refl; pending = refl; settled = refl }) refl))
