use Rattle.std.specs.Prelude.{IfErr, slice_set}
use Rattle.std.proofs.Common.{◌≡◌, ◌≢◌, ◌∙◌, subst, sym}
use Rattle.disk_model.specs.Fuse.{device_of}
use Rattle.disk_model.specs.Held.{Leaves}
use Rattle.disk_model.proofs.Devices.{are-later-set, set-at, set-but}
use Rattle.volume_restore.specs.Inspected.{HasFineBlocks, TellsRecovered, TellsRefused}
use Rattle.volume_restore.specs.declared.fault.VolumeFault.TheVariants.{Failed}
use Rattle.volume_recovery.specs.VolumeLoop.{HasFailed, IsTurnedDown}
use Rattle.volume_recovery.specs.VolumeNode.{volume_device}
use Rattle.volume_recovery.proofs.VolumeBay.{at-set, volume-failed}
use Rattle.volume_recovery.proofs.VolumeRefusing.{holds-there, recover-may, recover-whole, settled-volume, turned-down, volume-used}
use Rattle.volume_recovery.proofs.volumes.devices.recover_at.Goals as goal

pub returns-in-Ok-clause-every : goal.returns-in-Ok-clause-every
returns-in-Ok-clause-every g c = λ images left audit list tell holds rest found at.
    let n = volume_device c.args.volume in
    let told = tell n c.device.result.now c.device.ensures.value in
    let leaves = at-set (λ d. Leaves (g.D.Disk.held d) left) c.args.bay.now n c.device.result.now c.recover_volume.new.device c.device.ensures.value at in
    recover-may c.args.config.now c.args.volume audit list (images n) (g.D.Disk.held (device_of c.device.result.now)) (g.D.Disk.held (device_of c.recover_volume.new.device)) left c.args.changes.now
    c.resting_law.ensures.volume (holds c.device.result.now c.device.ensures.value) rest found
    (λ was low has changes. c.recover_volume.ensures.every was low audit list left told has changes leaves) (λ lost. (c.recover_volume.ensures.left told).lost lost) leaves

pub returns-in-Err-clause-every : goal.returns-in-Err-clause-every
returns-in-Err-clause-every g c = λ images left audit list tell holds rest found at.
    let n = volume_device c.args.volume in
    let told = tell n c.device.result.now c.device.ensures.value in
    let leaves = at-set (λ d. Leaves (g.D.Disk.held d) left) c.args.bay.now n c.device.result.now c.recover_volume.new.device c.device.ensures.value at in
    recover-may c.args.config.now c.args.volume audit list (images n) (g.D.Disk.held (device_of c.device.result.now)) (g.D.Disk.held (device_of c.recover_volume.new.device)) left c.args.changes.now
    c.resting_law.ensures.volume (holds c.device.result.now c.device.ensures.value) rest found
    (λ was low has changes. c.recover_volume.ensures.every was low audit list left told has changes leaves) (λ lost. (c.recover_volume.ensures.left told).lost lost) leaves

pub returns-in-Ok-clause-whole : goal.returns-in-Ok-clause-whole
returns-in-Ok-clause-whole g c = λ images left audit list tell holds rest found at.
    let n = volume_device c.args.volume in
    let told = tell n c.device.result.now c.device.ensures.value in
    let leaves = at-set (λ d. Leaves (g.D.Disk.held d) left) c.args.bay.now n c.device.result.now c.recover_volume.new.device c.device.ensures.value at in
    recover-whole c.args.config.now c.args.volume audit list (images n) (g.D.Disk.held (device_of c.device.result.now)) (g.D.Disk.held (device_of c.recover_volume.new.device)) left c.args.changes.now
    c.resting_law.ensures.volume (holds c.device.result.now c.device.ensures.value) rest found
    (λ was low has changes. (c.in-Ok.ensures.whole was low audit list told has changes).1 left leaves) (λ lost. (c.recover_volume.ensures.left told).lost lost) leaves

pub returns-in-Ok-clause-settled : goal.returns-in-Ok-clause-settled
returns-in-Ok-clause-settled g c = λ images tell holds rest.
    let n = volume_device c.args.volume in
    let told = tell n c.device.result.now c.device.ensures.value in (
      c.recover_volume.new.device,
      set-at c.args.bay.now n c.device.result.now c.recover_volume.new.device c.device.ensures.value,
      settled-volume c.args.config.now c.args.volume (images n) (g.D.Disk.held (device_of c.device.result.now)) (g.D.Disk.held (device_of c.recover_volume.new.device))
          (holds c.device.result.now c.device.ensures.value) rest (λ rests. c.in-Ok.ensures.rests told rests) (λ lost. (c.recover_volume.ensures.left told).lost lost),
    )

pub returns-in-Ok-clause-told : goal.returns-in-Ok-clause-told
returns-in-Ok-clause-told g c = λ images tell holds known.
    let n = volume_device c.args.volume in
    let same = holds c.device.result.now c.device.ensures.value in
    subst (λ h. TellsRecovered c.args.config.now c.args.volume c.args.changes.now.files h c.in-Ok.found) same
    (c.in-Ok.ensures.told (tell n c.device.result.now c.device.ensures.value)
    (λ fine. subst (HasFineBlocks c.args.config.now c.args.volume) (sym same) (known fine)))

pub returns-in-Err-clause-told : goal.returns-in-Err-clause-told
returns-in-Err-clause-told g c = λ images tell holds known.
    let config = c.args.config.now in
    let volume = c.args.volume in
    let files = c.args.changes.now.files in
    let n = volume_device volume in
    let same = holds c.device.result.now c.device.ensures.value in
    let told = tell n c.device.result.now c.device.ensures.value in
    let ys = slice_set c.args.bay.now n c.recover_volume.new.device in
    let kept = subst (λ r. IfErr r (λ e. e ≢ Failed → g.D.Disk.held (device_of c.recover_volume.new.device) ≡ g.D.Disk.held (device_of c.device.result.now))) c.in-Err.is (c.recover_volume.ensures.left told).refused in
    subst (IsTurnedDown g.D.Disk.held config volume files images ys) (sym c.at_volume.ensures)
    (turned-down g.D.Disk.held config volume files images ys c.in-Err.fault
    (subst (λ h. TellsRefused config volume files h c.in-Err.fault) same (c.in-Err.ensures.told told (λ fine. subst (HasFineBlocks config volume) (sym same) (known fine))))
    (λ other. holds-there g.D.Disk.held images n ys c.recover_volume.new.device (set-at c.args.bay.now n c.device.result.now c.recover_volume.new.device c.device.ensures.value) (kept other ∙ same)))

pub returns-in-Ok-clause-keeps : goal.returns-in-Ok-clause-keeps
returns-in-Ok-clause-keeps g c =
    let keeps = c.recover_volume.ensures.keeps in
    are-later-set g.D.Disk g.met.D.Disk.same_itself c.args.bay.now (volume_device c.args.volume) c.device.result.now c.recover_volume.new.device c.device.ensures.value keeps.device keeps.tells keeps.later

pub returns-in-Err-clause-keeps : goal.returns-in-Err-clause-keeps
returns-in-Err-clause-keeps g c =
    let keeps = c.recover_volume.ensures.keeps in
    are-later-set g.D.Disk g.met.D.Disk.same_itself c.args.bay.now (volume_device c.args.volume) c.device.result.now c.recover_volume.new.device c.device.ensures.value keeps.device keeps.tells keeps.later

pub returns-in-Err-clause-cause : goal.returns-in-Err-clause-cause
returns-in-Err-clause-cause g c =
    subst (HasFailed g.D.Disk.faults c.args.config.now c.args.bay.now (slice_set c.args.bay.now (volume_device c.args.volume) c.recover_volume.new.device)) (sym c.at_volume.ensures)
    (volume-failed g.D.Disk.faults c.args.config.now c.args.bay.now (volume_device c.args.volume) c.device.result.now c.recover_volume.new.device c.in-Err.fault c.device.ensures.value
    (volume-used c.args.config.now c.args.volume c.requires.valid.1) c.in-Err.ensures.cause)
