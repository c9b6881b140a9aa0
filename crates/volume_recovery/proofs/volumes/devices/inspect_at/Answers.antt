use Rattle.std.specs.Prelude.{slice_set}
use Rattle.std.proofs.Common.{subst, sym}
use Rattle.volume_restore.specs.Inspected.{TellsDamaged, TellsInspected}
use Rattle.volume_recovery.specs.VolumeLoop.{HasFailed, TellsVolume}
use Rattle.volume_recovery.specs.VolumeNode.{volume_device}
use Rattle.volume_recovery.proofs.VolumeBay.{reads-set, volume-failed}
use Rattle.volume_recovery.proofs.VolumeRefusing.{tells-volume, volume-used}
use Rattle.volume_recovery.proofs.volumes.devices.inspect_at.Goals as goal

pub returns-in-Ok-clause-told : goal.returns-in-Ok-clause-told
returns-in-Ok-clause-told g c = λ images tell held.
    let n = volume_device c.args.volume in
    subst (λ h. TellsInspected c.args.config.now c.args.volume c.args.changes.now.files h c.in-Ok.inspected) (held n c.device.result.now c.device.ensures.value)
    (c.in-Ok.ensures.told (tell n c.device.result.now c.device.ensures.value))

pub returns-in-Err-clause-told : goal.returns-in-Err-clause-told
returns-in-Err-clause-told g c = λ images tell held.
    let n = volume_device c.args.volume in
    subst (TellsVolume c.args.config.now c.args.volume (images n)) (sym c.at_volume.ensures)
    (tells-volume c.args.config.now c.args.volume (images n) c.in-Err.fault
    (subst (λ h. TellsDamaged c.args.config.now c.args.volume h c.in-Err.fault) (held n c.device.result.now c.device.ensures.value)
    (c.in-Err.ensures.told (tell n c.device.result.now c.device.ensures.value))))

pub returns-in-Ok-clause-reads : goal.returns-in-Ok-clause-reads
returns-in-Ok-clause-reads g c =
    reads-set g.D.Disk c.args.config.now g.met.D.Disk.same_itself c.args.bay.now (volume_device c.args.volume) c.device.result.now c.inspect_volume.new.device c.device.ensures.value
    (volume-used c.args.config.now c.args.volume c.requires.valid.1) c.inspect_volume.ensures.same c.inspect_volume.ensures.keeps.device c.inspect_volume.ensures.keeps.tells c.inspect_volume.ensures.keeps.later

pub returns-in-Err-clause-reads : goal.returns-in-Err-clause-reads
returns-in-Err-clause-reads g c =
    reads-set g.D.Disk c.args.config.now g.met.D.Disk.same_itself c.args.bay.now (volume_device c.args.volume) c.device.result.now c.inspect_volume.new.device c.device.ensures.value
    (volume-used c.args.config.now c.args.volume c.requires.valid.1) c.inspect_volume.ensures.same c.inspect_volume.ensures.keeps.device c.inspect_volume.ensures.keeps.tells c.inspect_volume.ensures.keeps.later

pub returns-in-Err-clause-cause : goal.returns-in-Err-clause-cause
returns-in-Err-clause-cause g c =
    subst (HasFailed g.D.Disk.faults c.args.config.now c.args.bay.now (slice_set c.args.bay.now (volume_device c.args.volume) c.inspect_volume.new.device)) (sym c.at_volume.ensures)
    (volume-failed g.D.Disk.faults c.args.config.now c.args.bay.now (volume_device c.args.volume) c.device.result.now c.inspect_volume.new.device c.in-Err.fault c.device.ensures.value
    (volume-used c.args.config.now c.args.volume c.requires.valid.1) c.in-Err.ensures.cause)
