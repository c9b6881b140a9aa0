use Rattle.std.proofs.Common.{◌≡◌, inl, subst, sym}
use Rattle.std.specs.Prelude.{MatchResult, slice_set}
use Rattle.trail_files.specs.declared.damage.TrailFault.TheVariants.{Failed}
use Rattle.trail_files.specs.AuditRecord.{audit_format}
use Rattle.trail_files.specs.Scanned.{TellsOnly}
use Rattle.trail_files.specs.Text.{Spells}
use Rattle.disk_model.specs.Devices.{RoseAt}
use Rattle.disk_model.specs.Fuse.{fuse_faults}
use Rattle.disk_model.specs.Held.{Rose}
use Rattle.trail_replay.specs.Rules.{rules_of}
use Rattle.trail_replay.specs.Texts.{IsAuditDamage, SpellsAudit}
use Rattle.disk_model.proofs.Devices.{rose-set}
use Rattle.volume_recovery.proofs.Stops.{if-err}
use Rattle.volume_recovery.proofs.VolumeBay.{reads-set}
use Rattle.volume_recovery.proofs.volumes.devices.take_trail.Goals as goal

pub returns-clause-taken : goal.returns-clause-taken
returns-clause-taken g c = λ images audit list tell held spells commits.
    let is = c.device.ensures.value in
    c.read_trail.ensures.taken audit list (tell c.args.trail c.device.result.now is)
    (subst (λ h. Spells (audit_format (rules_of c.args.config.now c.args.trail)) h audit) (sym (held c.args.trail c.device.result.now is)) spells) commits

pub returns-clause-read : goal.returns-clause-read
returns-clause-read g c = λ images tell held.
    let is = c.device.ensures.value in
    subst (λ h. MatchResult c.read_trail.result (λ _. SpellsAudit c.args.config.now c.args.trail h) (TellsOnly (IsAuditDamage c.args.config.now c.args.trail h))) (held c.args.trail c.device.result.now is)
    (c.read_trail.ensures.read (tell c.args.trail c.device.result.now is))

pub returns-clause-undamaged : goal.returns-clause-undamaged
returns-clause-undamaged g c = λ images tell held spells.
    let is = c.device.ensures.value in
    c.read_trail.ensures.undamaged (tell c.args.trail c.device.result.now is) (subst (λ h. SpellsAudit c.args.config.now c.args.trail h) (sym (held c.args.trail c.device.result.now is)) spells)

pub returns-clause-exact : goal.returns-clause-exact
returns-clause-exact g c = λ images damage tell held damaged.
    let is = c.device.ensures.value in
    c.read_trail.ensures.exact damage (tell c.args.trail c.device.result.now is) (subst (λ h. IsAuditDamage c.args.config.now c.args.trail h damage) (sym (held c.args.trail c.device.result.now is)) damaged)

pub returns-clause-reads : goal.returns-clause-reads
returns-clause-reads g c =
    reads-set g.D.Disk c.args.config.now g.met.D.Disk.same_itself c.args.bay.now c.args.trail c.device.result.now c.read_trail.new.device c.device.ensures.value
    (inl c.requires.valid.1.below) c.read_trail.ensures.same c.read_trail.ensures.keeps.device c.read_trail.ensures.keeps.tells c.read_trail.ensures.keeps.later

pub returns-clause-cause : goal.returns-clause-cause
returns-clause-cause g c =
    if-err c.read_trail.result
    (λ e. e ≡ Failed → Rose (fuse_faults g.D.Disk.faults c.device.result.now) (fuse_faults g.D.Disk.faults c.read_trail.new.device))
    (λ e. e ≡ Failed → RoseAt g.D.Disk.faults c.args.bay.now (slice_set c.args.bay.now c.args.trail c.read_trail.new.device) c.args.trail)
    (λ e rose is. rose-set g.D.Disk.faults c.args.bay.now c.args.trail c.device.result.now c.read_trail.new.device c.device.ensures.value (rose is))
    c.read_trail.ensures.cause
