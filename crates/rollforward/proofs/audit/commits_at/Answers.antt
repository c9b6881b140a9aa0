use Rattle.std.specs.Prelude.{slice_set}
use Rattle.std.proofs.Common.{refl, sym, subst}
use Rattle.disk_model.specs.Held.{Held}
use Rattle.disk_model.proofs.Devices.{rose-set}
use Rattle.trail_files.specs.Scanned.{TellsOnly}
use Rattle.trail_replay.specs.Texts.{IsMonitorDamage}
use Rattle.rollforward.specs.Newest.{HasFailedOn}
use Rattle.rollforward.specs.Reading.{HasList, IsMonitor, TellsMonitor}
use Rattle.rollforward.proofs.RollErrors.{monitor-error, trail-failed}
use Rattle.rollforward.proofs.VolumeReads.{reads-at}
use Rattle.rollforward.proofs.audit.commits_at.Goals as goal

pub returns-in-Ok-clause-told : goal.returns-in-Ok-clause-told
returns-in-Ok-clause-told g c = λ images tell held.
    subst (λ (h : Held). HasList h c.in-Ok.commits) (held 0 c.device.result.now c.device.ensures.value) (c.in-Ok.ensures.told (tell 0 c.device.result.now c.device.ensures.value))

pub returns-in-Ok-clause-reads : goal.returns-in-Ok-clause-reads
returns-in-Ok-clause-reads g c =
    let keeps = c.monitor_commits.ensures.keeps in
    reads-at g.D.Disk IsMonitor g.met.D.Disk.same_itself c.args.bay.now 0 c.device.result.now c.monitor_commits.new.device c.device.ensures.value refl c.monitor_commits.ensures.same keeps.device keeps.tells keeps.later

pub returns-in-Err-clause-told : goal.returns-in-Err-clause-told
returns-in-Err-clause-told g c = λ images tell held.
    subst (TellsMonitor (images 0)) (sym c.at_trail.ensures)
    (monitor-error (images 0) c.in-Err.fault (subst (λ (h : Held). TellsOnly (IsMonitorDamage h) c.in-Err.fault) (held 0 c.device.result.now c.device.ensures.value) (c.in-Err.ensures.told (tell 0 c.device.result.now c.device.ensures.value))))

pub returns-in-Err-clause-reads : goal.returns-in-Err-clause-reads
returns-in-Err-clause-reads g c =
    let keeps = c.monitor_commits.ensures.keeps in
    reads-at g.D.Disk IsMonitor g.met.D.Disk.same_itself c.args.bay.now 0 c.device.result.now c.monitor_commits.new.device c.device.ensures.value refl c.monitor_commits.ensures.same keeps.device keeps.tells keeps.later

pub returns-in-Err-clause-cause : goal.returns-in-Err-clause-cause
returns-in-Err-clause-cause g c =
    subst (HasFailedOn g.D.Disk.faults IsMonitor c.args.bay.now (slice_set c.args.bay.now 0 c.monitor_commits.new.device)) (sym c.at_trail.ensures)
    (trail-failed g.D.Disk.faults IsMonitor c.args.bay.now (slice_set c.args.bay.now 0 c.monitor_commits.new.device) 0 c.in-Err.fault refl
    (λ failed. rose-set g.D.Disk.faults c.args.bay.now 0 c.device.result.now c.monitor_commits.new.device c.device.ensures.value (c.in-Err.ensures.cause failed)))
