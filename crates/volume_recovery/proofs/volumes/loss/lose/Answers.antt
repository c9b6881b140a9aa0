use Rattle.std.proofs.lemmas.Result.{on_ok_weaker}
use Rattle.disk_model.proofs.Devices.{are-later-set, rose-set, set-at, set-but}
use Rattle.disk_model.specs.Fuse.{device_of}
use Rattle.volume_recovery.specs.VolumeNode.{volume_device}
use Rattle.volume_recovery.proofs.VolumeLosing.{may-lose, on-err}
use Rattle.volume_recovery.proofs.volumes.loss.lose.Goals as goal

pub returns-clause-emptied : goal.returns-clause-emptied
returns-clause-emptied g c = λ tell.
    let number = volume_device c.args.volume in
    on_ok_weaker c.lose_volume.result
    (λ emptied. (c.lose_volume.new.device, set-at c.args.bay.now number c.device.result.now c.lose_volume.new.device c.device.ensures.value, emptied))
    (c.lose_volume.ensures.emptied (tell number c.device.result.now c.device.ensures.value))

pub returns-clause-every : goal.returns-clause-every
returns-clause-every g c = λ left tell are.
    may-lose g.D.Disk.held c.args.bay.now c.args.volume c.device.result.now c.lose_volume.new.device c.device.ensures.value
    (g.met.D.Disk.sound (device_of c.device.result.now))
    (λ image leaves. c.lose_volume.ensures.every image (tell (volume_device c.args.volume) c.device.result.now c.device.ensures.value) leaves) left are

pub returns-clause-others : goal.returns-clause-others
returns-clause-others g c = set-but c.args.bay.now (volume_device c.args.volume) c.lose_volume.new.device

pub returns-clause-keeps : goal.returns-clause-keeps
returns-clause-keeps g c =
    let keeps = c.lose_volume.ensures.works.is_later in
    are-later-set g.D.Disk g.met.D.Disk.same_itself c.args.bay.now (volume_device c.args.volume) c.device.result.now c.lose_volume.new.device c.device.ensures.value keeps.device keeps.tells keeps.later

pub returns-clause-cause : goal.returns-clause-cause
returns-clause-cause g c =
    on-err c.lose_volume.result
    (λ failed. rose-set g.D.Disk.faults c.args.bay.now (volume_device c.args.volume) c.device.result.now c.lose_volume.new.device c.device.ensures.value (c.lose_volume.ensures.works.failed failed))
