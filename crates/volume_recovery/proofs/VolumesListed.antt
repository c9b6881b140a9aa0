-- What the listing of a volume's file is to the node.
use Rattle.std.specs.Prelude.{Option, None, Some, Result, Err, slice_get, slice_set}
use Rattle.std.proofs.Common.{◌≡◌, zero, suc, ◌≤◌, ◌-◌, ℕ, List, refl, sym, subst, ◌∙◌, arith}
use Rattle.std.proofs.lemmas.Option.{slice_get_within}
use Rattle.disk_model.specs.Devices.{RoseAt}
use Rattle.disk_model.specs.Fuse.{fuse_faults}
use Rattle.disk_model.specs.Held.{Held, Rose}
use Rattle.disk_model.specs.declared.fuse.Fuse.{Fuse}
use Rattle.disk_model.proofs.Devices.{rose-set}
use Rattle.tmf_model.specs.Commits.{numbered}
use Rattle.tmf_model.specs.Config.{IsValidConfig}
use Rattle.tmf_model.specs.Place.{block_of}
use Rattle.tmf_model.specs.declared.config.Config.{Config}
use Rattle.tmf_model.specs.RecordMap.{RecordMap, IsListing}
use Rattle.trail_files.specs.declared.monitor_record.MonitorRecord.{MonitorRecord}
use Rattle.trail_files.specs.StandsFor.{Base, IsNumber}
use Rattle.trail_replay.specs.Home.{LiesOn}
use Rattle.trail_replay.proofs.Listings.{listing-as}
use Rattle.keyed_file.specs.Block.{KeyedBlock}
use Rattle.keyed_file.specs.Volume.{files_on, map_of}
use Rattle.block_cache.specs.Volume.{HasBase, HasNoLabel}
use Rattle.volume_restore.specs.declared.list.ListFault.{ListFault}
use Rattle.volume_restore.specs.declared.list.ListFault.TheVariants as fault
use Rattle.volume_restore.specs.Bases.{volume_on}
use Rattle.volume_restore.specs.Damage.{blocks_on}
use Rattle.volume_restore.specs.Listed.{IsFileListing, IsFineFile, ListCause, TellsListing}
use Rattle.volume_restore.proofs.Adding.{in_file}
use Rattle.volume_restore.proofs.Listings.{shows-records, spelled-records}
use Rattle.volume_restore.proofs.OnVolume.{line_blocks, line_declared, line_volume}
use Rattle.volume_recovery.specs.declared.errors.ListError.{ListError}
use Rattle.volume_recovery.specs.declared.errors.ListError.TheVariants as error
use Rattle.volume_recovery.specs.VolumeListing.{TellsFileError, file_device, file_error}
use Rattle.volume_recovery.specs.VolumeNode.{AreLowered, StandsWithVolumes, volume_device}
use Rattle.volume_recovery.proofs.Stops.{err-same}
use Rattle.volume_recovery.proofs.VolumeSettled.{lowered}

number-numbered : {X : Type 0} (items : List X) (number : ℕ) (item : X) → IsNumber items number item → numbered items number ≡ Some item
number-numbered items zero item is = absurd (omega (arith, is.0))
number-numbered items (suc before) item is = let same : suc before - 1 ≡ before = omega arith in subst (λ n. slice_get items n ≡ Some item) same is.1

-- the volume on which a file lies
pub lies-volume : (config : Config) (file disc trail : ℕ) → LiesOn config file disc trail → volume_on config file ≡ disc
lies-volume config file disc trail lies = line_volume config file lies.line (number-numbered config.files file lies.line lies.is_file) ∙ lies.on_disc

-- is one of eight
pub lies-few : (config : Config) (file disc trail : ℕ) → IsValidConfig config → LiesOn config file disc trail → disc ≤ 8
lies-few config file disc trail valid lies = omega (arith, slice_get_within config.volumes (disc - 1) lies.volume lies.is_volume.1, valid.volumes.few)

-- the error tells what the fault tells
pub tells-error : (config : Config) (file : ℕ) (image : Held) (device : ℕ) (it : ListFault) → device ≡ file_device config file → TellsListing config (volume_on config file) file image it
    → TellsFileError config file image (file_error device it)
tells-error config file image device fault.Lost same tells = tells
tells-error config file image device (fault.Damaged damage) same tells = (same, tells)
tells-error config file image device fault.Failed same tells = tt
tells-error config file image device fault.NoMemory same tells = tt

file-failed : (device number before now : ℕ) (it : ListFault) → ListCause before now it → file_error device it ≡ error.Failed number → (number ≡ device) × Rose before now
file-failed device number before now fault.Lost cause e = absurd (cc)
file-failed device number before now (fault.Damaged damage) cause e = absurd (cc)
file-failed device number before now fault.Failed cause e = (cc, cause)
file-failed device number before now fault.NoMemory cause e = absurd (cc)

-- a listing has failed on the device that was lent, whose count rose
pub failed-file : {D A : Type 0} (faults : D → ℕ) (xs : List (Fuse D)) (device : ℕ) (old new : Fuse D) → slice_get xs device ≡ Some old
    → (it : ListFault) → ListCause (fuse_faults faults old) (fuse_faults faults new) it
    → (told : ListError) → told ≡ file_error device it → (number : ℕ) → ◌≡◌ {A = Result A ListError} (Err told) (Err (error.Failed number))
    → (number ≡ device) × RoseAt faults xs (slice_set xs device new) number
failed-file {A = A} faults xs device old new is it cause told at number failed =
    let parts = file-failed device number (fuse_faults faults old) (fuse_faults faults new) it cause (sym at ∙ err-same {A = A} told (error.Failed number) failed) in
    (parts.0, subst (λ n. RoseAt faults xs (slice_set xs device new) n) (sym parts.0) (rose-set faults xs device old new is parts.1))

-- a file of which the label is fine lies on a volume that has a label
fine-label : (config : Config) (volume file : ℕ) (image : Held) → IsFineFile config volume file image → HasNoLabel image → ⊥
fine-label config volume file image fine none = (none fine.label.0 fine.label.1).1 fine.label.2.0

-- what a file's own blocks show is what the base of its volume has
pub based-listing : (config : Config) (volume file : ℕ) (image : Held) (base : Base) (entries : List (List ℕ × List ℕ)) → 1 ≤ blocks_on config volume file → HasBase config volume image (Some base)
    → IsFileListing config volume file image entries → IsListing base.records file entries
based-listing config volume file image base entries some (was, spelled, records) is =
    let blocks : ℕ = blocks_on config volume file in
    listing-as (map_of (files_on volume 1 config.files) is.contents) base.records file entries
    (λ key.
    let content : KeyedBlock = is.contents file (block_of key blocks) in
    let shows = is.shown (block_of key blocks) (in_file key blocks some) in
    sym (shows-records config volume file is.contents image some is.shown key content shows) ∙ spelled-records config volume base.position file was base.records image some spelled records key content shows)
    is.listing

-- a file of the configuration has blocks on its volume
pub lies-some : (config : Config) (file disc trail : ℕ) → IsValidConfig config → LiesOn config file disc trail → 1 ≤ blocks_on config disc file
lies-some config file disc trail valid lies =
    let line = number-numbered config.files file lies.line lies.is_file in
    let declared = line_declared config file lies.line valid line in
    subst (λ v. 1 ≤ blocks_on config v file) lies.on_disc (omega (arith, line_blocks config file lies.line line, declared.1.above))

-- the records that a file's own blocks show are those of the map that a node stands for which is lowered
pub listed-map : (config : Config) (images : ℕ → Held) (list : List MonitorRecord) (map : RecordMap) (file disc trail : ℕ) (entries : List (List ℕ × List ℕ)) → IsValidConfig config → LiesOn config file disc trail
    → (stands : StandsWithVolumes config images list map) → AreLowered config images list map stands → IsFineFile config disc file (images (volume_device disc))
    → ((base : Base) → HasBase config disc (images (volume_device disc)) (Some base) → IsListing base.records file entries)
    → IsListing map file entries
listed-map config images list map file disc trail entries valid lies stands low fine listed = based (stands.bases disc) refl (stands.volumes_spelled disc lies.volume lies.is_volume)
  where
    based : (o : Option Base) → stands.bases disc ≡ o → HasBase config disc (images (volume_device disc)) o → IsListing map file entries
    based None is has = absurd (fine-label config disc file (images (volume_device disc)) fine has)
    based (Some base) is has =
        listing-as base.records map file entries
        (λ key. sym (lowered config images list map stands disc lies.volume base file lies.line key valid low lies.is_volume is lies.is_file lies.on_disc))
        (listed base has)
