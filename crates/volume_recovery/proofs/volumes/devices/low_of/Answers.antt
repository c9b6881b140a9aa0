use Rattle.std.specs.Prelude.{slice_set}
use Rattle.std.proofs.Common.{subst, sym}
use Rattle.keyed_file.specs.Volume.{SpellsVolume, label_of}
use Rattle.volume_recovery.specs.VolumeLoop.{HasFailed}
use Rattle.volume_recovery.specs.VolumeNode.{volume_device}
use Rattle.volume_recovery.proofs.VolumeBay.{low-failed, reads-set}
use Rattle.volume_recovery.proofs.VolumeRefusing.{volume-used}
use Rattle.volume_recovery.proofs.volumes.devices.low_of.Goals as goal

pub returns-in-Ok-None-clause-low : goal.returns-in-Ok-None-clause-low
returns-in-Ok-None-clause-low g c = λ images low was tell held spells.
    let n = volume_device c.args.volume in
    let is = c.device.ensures.value in
    let found = c.in-Ok-None.ensures.low was low (tell n c.device.result.now is)
    (subst (λ h. SpellsVolume (label_of c.args.config.now c.args.volume low) h was) (sym (held n c.device.result.now is)) spells) in
    absurd (cc (found, c.in-Ok-None.field-0-is))

pub returns-in-Ok-None-clause-reads : goal.returns-in-Ok-None-clause-reads
returns-in-Ok-None-clause-reads g c =
    reads-set g.D.Disk c.args.config.now g.met.D.Disk.same_itself c.args.bay.now (volume_device c.args.volume) c.device.result.now c.read_low.new.device c.device.ensures.value
    (volume-used c.args.config.now c.args.volume c.requires.valid.1) c.read_low.ensures.same c.read_low.ensures.keeps.device c.read_low.ensures.keeps.tells c.read_low.ensures.keeps.later

pub returns-in-Err-clause-reads : goal.returns-in-Err-clause-reads
returns-in-Err-clause-reads g c =
    reads-set g.D.Disk c.args.config.now g.met.D.Disk.same_itself c.args.bay.now (volume_device c.args.volume) c.device.result.now c.read_low.new.device c.device.ensures.value
    (volume-used c.args.config.now c.args.volume c.requires.valid.1) c.read_low.ensures.same c.read_low.ensures.keeps.device c.read_low.ensures.keeps.tells c.read_low.ensures.keeps.later

pub returns-in-Err-clause-cause : goal.returns-in-Err-clause-cause
returns-in-Err-clause-cause g c =
    subst (HasFailed g.D.Disk.faults c.args.config.now c.args.bay.now (slice_set c.args.bay.now (volume_device c.args.volume) c.read_low.new.device)) (sym c.at_volume.ensures)
    (low-failed g.D.Disk.faults c.args.config.now c.args.bay.now (volume_device c.args.volume) c.device.result.now c.read_low.new.device c.in-Err.fault c.device.ensures.value
    (volume-used c.args.config.now c.args.volume c.requires.valid.1) c.in-Err.ensures.cause)
