use Rattle.std.specs.Prelude.{Err}
use Rattle.std.proofs.Common.{◌≡◌, ap, subst, sym}
use Rattle.std.proofs.lemmas.Result.{err_from_is_err_and}
use Rattle.trail_files.specs.MonitorRecord.{monitor_format}
use Rattle.trail_files.specs.Text.{Spells}
use Rattle.volume_recovery.proofs.VolumeBay.{failed-after, read-held, read-tell, reads-then}
use Rattle.volume_recovery.proofs.VolumePreparing.{begun-next, cause-err, cause-spent, is-prepared, told-err, told-volumes}
use Rattle.volume_recovery.proofs.VolumeReading.{refusal-spent, refusal-trails}
use Rattle.volume_recovery.proofs.volumes.recovery.read_node.Goals as goal

pub returns-in_err-changes-clause-told : goal.returns-in_err-changes-clause-told
returns-in_err-changes-clause-told g c = λ images tell held rest spells.
    let config = c.args.config.now in
    let p = err_from_is_err_and c.from_residual.result c.from_residual.ensures.1 in
    told-err config images c.from_residual.result p.0 c.in_err-changes.field-0.0 p.1 p.2
    (refusal-trails config images c.in_err-changes.field-0.0
    (c.in_err-changes.ensures.refused images tell held (subst (λ l. Spells monitor_format (images 0) l) (sym c.deref.ensures.value) spells)))

pub returns-in_err-changes-clause-cause : goal.returns-in_err-changes-clause-cause
returns-in_err-changes-clause-cause g c =
    let p = err_from_is_err_and c.from_residual.result c.from_residual.ensures.1 in
    cause-err g.D.Disk.faults c.args.config.now c.args.bay.now c.read_changes.new.bay c.from_residual.result p.0 c.in_err-changes.field-0.0 p.1 p.2 c.in_err-changes.ensures.cause

pub returns-in_err-epoch-clause-told : goal.returns-in_err-epoch-clause-told
returns-in_err-epoch-clause-told g c = λ images tell held rest spells.
    let config = c.args.config.now in
    let p = err_from_is_err_and c.from_residual-in_err-epoch.result c.from_residual-in_err-epoch.ensures.1 in
    told-err config images c.from_residual-in_err-epoch.result p.0 c.in_err-epoch.field-0.0 p.1 p.2
    (refusal-spent config images c.deref-2.result.now c.in_err-epoch.field-0.0
    (subst (λ l. Spells monitor_format (images 0) l) (sym c.deref-2.ensures.value) spells)
    (c.in_ok-changes.ensures.told images tell held) c.in_err-epoch.ensures.spent.0 c.in_err-epoch.ensures.spent.1)

pub returns-in_err-epoch-clause-cause : goal.returns-in_err-epoch-clause-cause
returns-in_err-epoch-clause-cause g c =
    let p = err_from_is_err_and c.from_residual-in_err-epoch.result c.from_residual-in_err-epoch.ensures.1 in
    cause-spent g.D.Disk.faults c.args.config.now c.args.bay.now c.read_changes.new.bay c.from_residual-in_err-epoch.result p.0 c.in_err-epoch.field-0.0 p.1 p.2 c.in_err-epoch.ensures.spent.0

pub returns-in_err-lost-clause-told : goal.returns-in_err-lost-clause-told
returns-in_err-lost-clause-told g c = λ images tell held rest spells.
    let config = c.args.config.now in
    let last_tell = read-tell g.D.Disk config c.args.bay.now c.read_changes.new.bay c.read_changes.ensures.reads tell in
    let last_held = read-held g.D.Disk config c.args.bay.now c.read_changes.new.bay images c.read_changes.ensures.reads held in
    let p = err_from_is_err_and c.from_residual-in_err-lost.result c.from_residual-in_err-lost.ensures.1 in
    told-err config images c.from_residual-in_err-lost.result p.0 c.in_err-lost.field-0.0 p.1 p.2
    (told-volumes config images rest c.deref.result.now c.deref-2.result.now c.args.records.items c.in_ok-epoch.epoch c.in_ok-changes.changes c.in_err-lost.field-0.0
    c.deref.ensures.value c.deref-2.ensures.value spells (c.in_ok-changes.ensures.told images tell held)
    (λ audit trails. c.in_ok-changes.ensures.found images audit tell held trails) c.in_ok-epoch.ensures.fits c.in_ok-epoch.ensures.next (c.in_err-lost.ensures.told images last_tell last_held))

pub returns-in_err-lost-clause-reads : goal.returns-in_err-lost-clause-reads
returns-in_err-lost-clause-reads g c =
    reads-then g.D.Disk c.args.config.now g.met.D.Disk.same_on c.args.bay.now c.read_changes.new.bay c.inspect_volumes.new.bay c.read_changes.ensures.reads c.inspect_volumes.ensures.reads

pub returns-in_err-lost-clause-cause : goal.returns-in_err-lost-clause-cause
returns-in_err-lost-clause-cause g c =
    let config = c.args.config.now in
    let p = err_from_is_err_and c.from_residual-in_err-lost.result c.from_residual-in_err-lost.ensures.1 in
    cause-err g.D.Disk.faults config c.args.bay.now c.inspect_volumes.new.bay c.from_residual-in_err-lost.result p.0 c.in_err-lost.field-0.0 p.1 p.2
    (failed-after g.D.Disk.faults config c.args.bay.now c.read_changes.new.bay c.inspect_volumes.new.bay c.in_err-lost.field-0.0 c.read_changes.ensures.reads.keeps.later c.inspect_volumes.ensures.reads.keeps.later c.in_err-lost.ensures.cause)

pub returns-clause-told : goal.returns-clause-told
returns-clause-told g c = λ images tell held rest spells.
    let config = c.args.config.now in
    let last_tell = read-tell g.D.Disk config c.args.bay.now c.read_changes.new.bay c.read_changes.ensures.reads tell in
    let last_held = read-held g.D.Disk config c.args.bay.now c.read_changes.new.bay images c.read_changes.ensures.reads held in
    is-prepared config images _ c.deref.result.now c.deref-2.result.now c.deref.ensures.value c.deref-2.ensures.value spells
    (c.in_ok-changes.ensures.told images tell held) (λ audit trails. c.in_ok-changes.ensures.found images audit tell held trails) c.in_ok-epoch.ensures.fits c.in_ok-epoch.ensures.next c.following_epoch.ensures.few
    (c.in_ok-lost.ensures.told images last_tell last_held)

pub returns-clause-fits : goal.returns-clause-fits
returns-clause-fits g c = c.in_ok-changes.ensures.fits

pub returns-clause-begun : goal.returns-clause-begun
returns-clause-begun g c = begun-next c.deref-2.result.now c.in_ok-epoch.epoch c.in_ok-epoch.ensures.next

pub returns-clause-reads : goal.returns-clause-reads
returns-clause-reads g c =
    reads-then g.D.Disk c.args.config.now g.met.D.Disk.same_on c.args.bay.now c.read_changes.new.bay c.inspect_volumes.new.bay c.read_changes.ensures.reads c.inspect_volumes.ensures.reads
