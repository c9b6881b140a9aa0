use Rattle.std.proofs.Common.{refl}
use Rattle.disk_model.proofs.Devices.{are-later-set, set-at, set-but}
use Rattle.volume_recovery.specs.VolumeNode.{dump_device}
use Rattle.volume_recovery.proofs.VolumesMade.{failed-dump}
use Rattle.volume_recovery.proofs.volumes.format.clear_dump_of.Goals as goal

pub returns-in-Ok-clause-cleared : goal.returns-in-Ok-clause-cleared
returns-in-Ok-clause-cleared g c = λ tell.
    let number = dump_device c.args.volume in
    (c.clear_dump.new.device, set-at c.args.bay.now number c.device.result.now c.clear_dump.new.device c.device.ensures.value, c.in-Ok.ensures.cleared (tell number c.device.result.now c.device.ensures.value))

pub returns-in-Ok-clause-others : goal.returns-in-Ok-clause-others
returns-in-Ok-clause-others g c = set-but c.args.bay.now (dump_device c.args.volume) c.clear_dump.new.device

pub returns-in-Ok-clause-keeps : goal.returns-in-Ok-clause-keeps
returns-in-Ok-clause-keeps g c =
    let keeps = c.clear_dump.ensures.works.is_later in
    are-later-set g.D.Disk g.met.D.Disk.same_itself c.args.bay.now (dump_device c.args.volume) c.device.result.now c.clear_dump.new.device c.device.ensures.value keeps.device keeps.tells keeps.later

pub returns-in-Err-clause-others : goal.returns-in-Err-clause-others
returns-in-Err-clause-others g c = set-but c.args.bay.now (dump_device c.args.volume) c.clear_dump.new.device

pub returns-in-Err-clause-keeps : goal.returns-in-Err-clause-keeps
returns-in-Err-clause-keeps g c =
    let keeps = c.clear_dump.ensures.works.is_later in
    are-later-set g.D.Disk g.met.D.Disk.same_itself c.args.bay.now (dump_device c.args.volume) c.device.result.now c.clear_dump.new.device c.device.ensures.value keeps.device keeps.tells keeps.later

pub returns-in-Err-clause-cause : goal.returns-in-Err-clause-cause
returns-in-Err-clause-cause g c = λ number failed.
    failed-dump g.D.Disk.faults c.args.bay.now (dump_device c.args.volume) c.device.result.now c.clear_dump.new.device c.device.ensures.value (c.in-Err.ensures.works.failed refl) number failed
