use Rattle.disk_model.proofs.Devices.{are-later-set, set-at, set-but}
use Rattle.volume_recovery.specs.VolumeNode.{volume_device}
use Rattle.volume_recovery.proofs.VolumesMade.{failed-volume}
use Rattle.volume_recovery.proofs.volumes.format.make_volume.Goals as goal

pub returns-in-Ok-clause-made : goal.returns-in-Ok-clause-made
returns-in-Ok-clause-made g c = λ tell.
    let number = volume_device c.args.volume in
    (c.format_volume.new.device, set-at c.args.bay.now number c.device.result.now c.format_volume.new.device c.device.ensures.value, c.in-Ok.ensures.made (tell number c.device.result.now c.device.ensures.value))

pub returns-in-Ok-clause-others : goal.returns-in-Ok-clause-others
returns-in-Ok-clause-others g c = set-but c.args.bay.now (volume_device c.args.volume) c.format_volume.new.device

pub returns-in-Ok-clause-keeps : goal.returns-in-Ok-clause-keeps
returns-in-Ok-clause-keeps g c =
    let keeps = c.format_volume.ensures.keeps in
    are-later-set g.D.Disk g.met.D.Disk.same_itself c.args.bay.now (volume_device c.args.volume) c.device.result.now c.format_volume.new.device c.device.ensures.value keeps.device keeps.tells keeps.later

pub returns-in-Err-clause-others : goal.returns-in-Err-clause-others
returns-in-Err-clause-others g c = set-but c.args.bay.now (volume_device c.args.volume) c.format_volume.new.device

pub returns-in-Err-clause-keeps : goal.returns-in-Err-clause-keeps
returns-in-Err-clause-keeps g c =
    let keeps = c.format_volume.ensures.keeps in
    are-later-set g.D.Disk g.met.D.Disk.same_itself c.args.bay.now (volume_device c.args.volume) c.device.result.now c.format_volume.new.device c.device.ensures.value keeps.device keeps.tells keeps.later

pub returns-in-Err-clause-cause : goal.returns-in-Err-clause-cause
returns-in-Err-clause-cause g c = λ number failed.
    failed-volume g.D.Disk.faults c.args.bay.now (volume_device c.args.volume) c.device.result.now c.format_volume.new.device c.device.ensures.value
    c.in-Err.fault c.in-Err.ensures.cause c.of_volume.result c.of_volume.ensures number failed
