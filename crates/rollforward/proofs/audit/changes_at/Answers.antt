use Rattle.std.specs.Prelude.{slice_set}
use Rattle.std.proofs.Common.{ℕ, sym, subst, ◌∙◌}
use Rattle.disk_model.specs.Held.{Held}
use Rattle.disk_model.proofs.Devices.{rose-set}
use Rattle.trail_files.specs.AuditRecord.{audit_format}
use Rattle.trail_files.specs.Scanned.{TellsOnly}
use Rattle.trail_files.specs.Text.{Spells}
use Rattle.trail_replay.specs.Rules.{rules_of}
use Rattle.trail_replay.specs.Texts.{IsAuditDamage}
use Rattle.rollforward.specs.Newest.{HasFailedOn}
use Rattle.rollforward.specs.Reading.{IsTrailOf, TellsOwnTrail, trail_error}
use Rattle.rollforward.specs.Rolls.{trail_on}
use Rattle.rollforward.proofs.RollErrors.{own-error, trail-failed}
use Rattle.rollforward.proofs.Rollings.{item-of, trail-is}
use Rattle.rollforward.proofs.VolumeReads.{reads-at}
use Rattle.rollforward.proofs.audit.changes_at.Goals as goal

pub returns-in-Ok-clause-told : goal.returns-in-Ok-clause-told
returns-in-Ok-clause-told g c = λ images list tell held commits.
    let t : ℕ = c.trail_of-trail.result in
    let own : ℕ = trail_on c.args.config.now c.args.volume in
    let told = tell t c.device.result.now c.device.ensures.value in
    let audit = c.in-Ok.ensures.read told in
    let taken = c.in-Ok.ensures.taken audit.0 list told audit.1 commits in
    let line = item-of c.args.config.now.volumes c.args.volume c.requires.valid.1 in (
      audit.0,
      subst (λ (n : ℕ). Spells (audit_format (rules_of c.args.config.now n)) (images n) audit.0) c.trail_of-trail.ensures.trail
          (subst (λ (h : Held). Spells (audit_format (rules_of c.args.config.now t)) h audit.0) (held t c.device.result.now c.device.ensures.value) audit.1),
      taken.own c.args.volume c.args.start line.0 line.1 (sym (trail-is c.args.config.now c.args.volume line.0 line.1) ∙ sym c.trail_of-trail.ensures.trail) (c.in_ok-changes.ensures.none list),
    )

pub returns-in-Ok-clause-reads : goal.returns-in-Ok-clause-reads
returns-in-Ok-clause-reads g c =
    let keeps = c.read_trail.ensures.keeps in
    reads-at g.D.Disk (IsTrailOf c.args.config.now c.args.volume) g.met.D.Disk.same_itself c.args.bay.now c.trail_of-trail.result c.device.result.now c.read_trail.new.device c.device.ensures.value c.trail_of-trail.ensures.trail
    c.read_trail.ensures.same keeps.device keeps.tells keeps.later

pub returns-in-Err-clause-told : goal.returns-in-Err-clause-told
returns-in-Err-clause-told g c = λ images list tell held commits.
    let t : ℕ = c.trail_of-trail.result in
    let own : ℕ = trail_on c.args.config.now c.args.volume in
    let damage : TellsOnly (IsAuditDamage c.args.config.now own (images own)) c.in-Err.fault =
    subst (λ (n : ℕ). TellsOnly (IsAuditDamage c.args.config.now n (images n)) c.in-Err.fault) c.trail_of-trail.ensures.trail
    (subst (λ (h : Held). TellsOnly (IsAuditDamage c.args.config.now t h) c.in-Err.fault) (held t c.device.result.now c.device.ensures.value) (c.in-Err.ensures.read (tell t c.device.result.now c.device.ensures.value))) in
    subst (TellsOwnTrail c.args.config.now c.args.volume (images own)) (sym c.at_trail.ensures)
    (subst (λ (n : ℕ). TellsOwnTrail c.args.config.now c.args.volume (images own) (trail_error n c.in-Err.fault)) (sym c.trail_of-trail.ensures.trail) (own-error c.args.config.now c.args.volume (images own) c.in-Err.fault damage))

pub returns-in-Err-clause-reads : goal.returns-in-Err-clause-reads
returns-in-Err-clause-reads g c =
    let keeps = c.read_trail.ensures.keeps in
    reads-at g.D.Disk (IsTrailOf c.args.config.now c.args.volume) g.met.D.Disk.same_itself c.args.bay.now c.trail_of-trail.result c.device.result.now c.read_trail.new.device c.device.ensures.value c.trail_of-trail.ensures.trail
    c.read_trail.ensures.same keeps.device keeps.tells keeps.later

pub returns-in-Err-clause-cause : goal.returns-in-Err-clause-cause
returns-in-Err-clause-cause g c =
    let t : ℕ = c.trail_of-trail.result in
    subst (HasFailedOn g.D.Disk.faults (IsTrailOf c.args.config.now c.args.volume) c.args.bay.now (slice_set c.args.bay.now t c.read_trail.new.device)) (sym c.at_trail.ensures)
    (trail-failed g.D.Disk.faults (IsTrailOf c.args.config.now c.args.volume) c.args.bay.now (slice_set c.args.bay.now t c.read_trail.new.device) t c.in-Err.fault c.trail_of-trail.ensures.trail
    (λ failed. rose-set g.D.Disk.faults c.args.bay.now t c.device.result.now c.read_trail.new.device c.device.ensures.value (c.in-Err.ensures.cause failed)))
