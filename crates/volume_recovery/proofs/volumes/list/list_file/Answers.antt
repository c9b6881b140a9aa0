use Rattle.std.specs.Prelude.{Some, slice_set}
use Rattle.std.proofs.Common.{◌∙◌, ◌≡◌, ◌≤◌, ℕ, arith, sym, ap, subst, IsTrue}
use Rattle.disk_model.specs.Devices.{SameBut}
use Rattle.disk_model.specs.Fuse.{device_of}
use Rattle.disk_model.specs.Held.{Held}
use Rattle.disk_model.proofs.Devices.{are-later-set, held-set, set-but}
use Rattle.block_cache.specs.Volume.{HasBase}
use Rattle.volume_restore.specs.Bases.{volume_on}
use Rattle.volume_restore.specs.Damage.{blocks_on}
use Rattle.volume_restore.specs.Listed.{IsFileListing, IsFineFile, TellsListing}
use Rattle.volume_recovery.specs.VolumeListing.{TellsFile, TellsFileError, file_device}
use Rattle.volume_recovery.specs.VolumeNode.{volume_device}
use Rattle.volume_recovery.proofs.VolumesListed.{based-listing, failed-file, lies-few, lies-some, lies-volume, listed-map, tells-error}
use Rattle.volume_recovery.proofs.volumes.list.list_file.Goals as goal

pub overflow_add-number : goal.overflow_add-number
overflow_add-number g c = omega (arith, lies-few c.args.config.now c.args.file c.home_of-home.result.volume c.home_of-home.result.trail c.requires.valid c.home_of-home.ensures.lies)

pub device-requires : goal.device-requires
device-requires g c = omega (arith, lies-few c.args.config.now c.args.file c.home_of-home.result.volume c.home_of-home.result.trail c.requires.valid c.home_of-home.ensures.lies)

pub returns-in-Ok-clause-listed : goal.returns-in-Ok-clause-listed
returns-in-Ok-clause-listed g c = λ images base tell held has.
    let home = c.home_of-home.result in
    let lies = c.home_of-home.ensures.lies in
    let on : volume_on c.args.config.now c.args.file ≡ home.volume = lies-volume c.args.config.now c.args.file home.volume home.trail lies in
    let number : ℕ = volume_device home.volume in
    let same : images (file_device c.args.config.now c.args.file) ≡ g.D.Disk.held (device_of c.device.result.now) =
    ap (λ v. images (volume_device v)) on ∙ sym (held number c.device.result.now c.device.ensures.value) in
    let some : 1 ≤ blocks_on c.args.config.now (volume_on c.args.config.now c.args.file) c.args.file =
    subst (λ v. 1 ≤ blocks_on c.args.config.now v c.args.file) (sym on) (lies-some c.args.config.now c.args.file home.volume home.trail c.requires.valid lies) in
    based-listing c.args.config.now (volume_on c.args.config.now c.args.file) c.args.file (g.D.Disk.held (device_of c.device.result.now)) base c.in-Ok.entries.items some
    (subst (λ (h : Held). HasBase c.args.config.now (volume_on c.args.config.now c.args.file) h (Some base)) same has) (c.in-Ok.ensures.shown (tell number c.device.result.now c.device.ensures.value))

pub returns-in-Ok-clause-told : goal.returns-in-Ok-clause-told
returns-in-Ok-clause-told g c = λ images tell held.
    let home = c.home_of-home.result in
    let on : volume_on c.args.config.now c.args.file ≡ home.volume = lies-volume c.args.config.now c.args.file home.volume home.trail c.home_of-home.ensures.lies in
    let number : ℕ = volume_device home.volume in
    let same : g.D.Disk.held (device_of c.device.result.now) ≡ images (file_device c.args.config.now c.args.file) =
    held number c.device.result.now c.device.ensures.value ∙ ap (λ v. images (volume_device v)) (sym on) in
    let told : IsTrue (g.D.Disk.tells (device_of c.device.result.now)) = tell number c.device.result.now c.device.ensures.value in
    subst (λ (h : Held). TellsFile c.args.config.now c.args.file h c.in-Ok.entries.items) same (record { fine = c.in-Ok.ensures.fine told; listing = c.in-Ok.ensures.shown told })

pub returns-in-Err-clause-told : goal.returns-in-Err-clause-told
returns-in-Err-clause-told g c = λ images tell held.
    let home = c.home_of-home.result in
    let on : volume_on c.args.config.now c.args.file ≡ home.volume = lies-volume c.args.config.now c.args.file home.volume home.trail c.home_of-home.ensures.lies in
    let number : ℕ = volume_device home.volume in
    let same : g.D.Disk.held (device_of c.device.result.now) ≡ images (file_device c.args.config.now c.args.file) =
    held number c.device.result.now c.device.ensures.value ∙ ap (λ v. images (volume_device v)) (sym on) in
    let tells = subst (λ (h : Held). TellsListing c.args.config.now (volume_on c.args.config.now c.args.file) c.args.file h c.in-Err.fault) same (c.in-Err.ensures.told (tell number c.device.result.now c.device.ensures.value)) in
    subst (TellsFileError c.args.config.now c.args.file (images (file_device c.args.config.now c.args.file))) (sym c.of_volume.ensures)
    (tells-error c.args.config.now c.args.file (images (file_device c.args.config.now c.args.file)) number c.in-Err.fault (ap volume_device (sym on)) tells)

pub returns-in-Ok-clause-stands : goal.returns-in-Ok-clause-stands
returns-in-Ok-clause-stands g c = λ images list map tell held stands low.
    let home = c.home_of-home.result in
    let lies = c.home_of-home.ensures.lies in
    let on : volume_on c.args.config.now c.args.file ≡ home.volume = lies-volume c.args.config.now c.args.file home.volume home.trail lies in
    let number : ℕ = volume_device home.volume in
    let is : g.D.Disk.held (device_of c.device.result.now) ≡ images number = held number c.device.result.now c.device.ensures.value in
    let told : IsTrue (g.D.Disk.tells (device_of c.device.result.now)) = tell number c.device.result.now c.device.ensures.value in
    listed-map c.args.config.now images list map c.args.file home.volume home.trail c.in-Ok.entries.items c.requires.valid lies stands low
    (subst (λ v. IsFineFile c.args.config.now v c.args.file (images number)) on (subst (IsFineFile c.args.config.now (volume_on c.args.config.now c.args.file) c.args.file) is (c.in-Ok.ensures.fine told)))
    (λ base has.
    based-listing c.args.config.now home.volume c.args.file (images number) base c.in-Ok.entries.items (lies-some c.args.config.now c.args.file home.volume home.trail c.requires.valid lies) has
    (subst (λ v. IsFileListing c.args.config.now v c.args.file (images number) c.in-Ok.entries.items) on
    (subst (λ h. IsFileListing c.args.config.now (volume_on c.args.config.now c.args.file) c.args.file h c.in-Ok.entries.items) is (c.in-Ok.ensures.shown told))))

pub returns-in-Ok-clause-same : goal.returns-in-Ok-clause-same
returns-in-Ok-clause-same g c = held-set g.D.Disk.held c.args.bay.now (volume_device c.home_of-home.result.volume) c.device.result.now c.list_volume.new.device c.device.ensures.value c.list_volume.ensures.same

pub returns-in-Err-clause-same : goal.returns-in-Err-clause-same
returns-in-Err-clause-same g c = held-set g.D.Disk.held c.args.bay.now (volume_device c.home_of-home.result.volume) c.device.result.now c.list_volume.new.device c.device.ensures.value c.list_volume.ensures.same

pub returns-in-Ok-clause-others : goal.returns-in-Ok-clause-others
returns-in-Ok-clause-others g c =
    let home = c.home_of-home.result in
    let on : volume_on c.args.config.now c.args.file ≡ home.volume = lies-volume c.args.config.now c.args.file home.volume home.trail c.home_of-home.ensures.lies in
    subst (λ v. SameBut (volume_device v) c.args.bay.now (slice_set c.args.bay.now (volume_device home.volume) c.list_volume.new.device)) (sym on) (set-but c.args.bay.now (volume_device home.volume) c.list_volume.new.device)

pub returns-in-Err-clause-others : goal.returns-in-Err-clause-others
returns-in-Err-clause-others g c =
    let home = c.home_of-home.result in
    let on : volume_on c.args.config.now c.args.file ≡ home.volume = lies-volume c.args.config.now c.args.file home.volume home.trail c.home_of-home.ensures.lies in
    subst (λ v. SameBut (volume_device v) c.args.bay.now (slice_set c.args.bay.now (volume_device home.volume) c.list_volume.new.device)) (sym on) (set-but c.args.bay.now (volume_device home.volume) c.list_volume.new.device)

pub returns-in-Ok-clause-keeps : goal.returns-in-Ok-clause-keeps
returns-in-Ok-clause-keeps g c =
    let keeps = c.list_volume.ensures.keeps in
    are-later-set g.D.Disk g.met.D.Disk.same_itself c.args.bay.now (volume_device c.home_of-home.result.volume) c.device.result.now c.list_volume.new.device c.device.ensures.value keeps.device keeps.tells keeps.later

pub returns-in-Err-clause-keeps : goal.returns-in-Err-clause-keeps
returns-in-Err-clause-keeps g c =
    let keeps = c.list_volume.ensures.keeps in
    are-later-set g.D.Disk g.met.D.Disk.same_itself c.args.bay.now (volume_device c.home_of-home.result.volume) c.device.result.now c.list_volume.new.device c.device.ensures.value keeps.device keeps.tells keeps.later

pub returns-in-Err-clause-cause : goal.returns-in-Err-clause-cause
returns-in-Err-clause-cause g c = λ number failed.
    let home = c.home_of-home.result in
    let on : volume_on c.args.config.now c.args.file ≡ home.volume = lies-volume c.args.config.now c.args.file home.volume home.trail c.home_of-home.ensures.lies in
    let at = failed-file g.D.Disk.faults c.args.bay.now (volume_device home.volume) c.device.result.now c.list_volume.new.device c.device.ensures.value c.in-Err.fault c.in-Err.ensures.cause c.of_volume.result c.of_volume.ensures number failed in
    (at.0 ∙ ap volume_device (sym on), at.1)
