-- What a volume says once it is filled with records, and what its images are on the way.
use Rattle.std.specs.Prelude.{◌≡◌, ◌≢◌, ◌⊎◌, ℕ, ◌==◌, ◌&&◌, ◌<◌, if◌then◌else◌, List, [], ◌∷◌, Some, None, IsTrue, bytes_eq, slice_get}
use Rattle.std.specs.Option.{option_or}
use Rattle.disk_model.specs.Devices.{AreLater, SameBut}
use Rattle.disk_model.specs.Fuse.{device_of}
use Rattle.disk_model.specs.Held.{Held}
use Rattle.disk_model.specs.declared.disk.Disk as disk
use Rattle.disk_model.specs.declared.fuse.Fuse.{Fuse}
use Rattle.tmf_model.specs.declared.config.Config.{Config}
use Rattle.tmf_model.specs.RecordMap.{RecordMap}
use Rattle.trail_files.specs.StandsFor.{Base}
use Rattle.keyed_file.specs.Volume.{blocks_of, files_on, label_of}
use Rattle.block_cache.specs.Created.{OffVolume}
use Rattle.block_cache.specs.Volume.{HasBase, HasNoLabel, RestsFor}
use Rattle.volume_restore.specs.Changed.{HasRoomIn}
use Rattle.volume_restore.specs.Damage.{blocks_on}
use Rattle.volume_recovery.specs.VolumeNode.{volume_device}

-- records, each of a file, a key and its value
abbrev pub Records : Type 0
Records = List (ℕ × List ℕ × List ℕ)

-- the value that a record gives to a key of a file, if it is the key's
abbrev pub value_of : ℕ × List ℕ × List ℕ → RecordMap
value_of entry file key = if (entry.0 == file) && bytes_eq key entry.1 then Some entry.2 else None

-- the values that the records give: where one gives a key another value than an earlier one, the later counts
abbrev pub values_of : Records → RecordMap
values_of [] file key = None
values_of (entry ∷ rest) file key = option_or (values_of rest file key) (value_of entry file key)

-- no block of the volume gets more than 62 keys
abbrev pub HaveRoom : Config → ℕ → Records → Type 0
HaveRoom config volume records = (file number : ℕ) → number < blocks_on config volume file → HasRoomIn (blocks_on config volume file) number (values_of records file)

-- what a volume says that is filled with these records: those of its files, behind this low position
abbrev pub base_filled : Config → ℕ → ℕ → Records → Base
base_filled config volume low records = record {
  records = λ file key. if blocks_of (files_on volume 1 config.files) file == 0 then None else values_of records file key;
  position = low;
}

-- The volume is filled with these records, and nothing of it is at risk.
pub record IsFilled (config : Config) (volume low : ℕ) (records : Records) (held : Held) : Type 0 where
  pub base : HasBase config volume held (Some (base_filled config volume low records))
  pub rests : RestsFor (label_of config volume low) held

-- The second images are such as a fill may leave of the first, whole or stopped anywhere: the image of the volume's device is as it was, or has no label, or is
-- the whole filled volume, and the others are as they were.
pub record MayFill (config : Config) (volume low : ℕ) (records : Records) (images left : ℕ → Held) : Type 0 where
  pub others : (n : ℕ) → n ≢ volume_device volume → left n ≡ images n
  pub own : (left (volume_device volume) ≡ images (volume_device volume))
      ⊎ (HasNoLabel (left (volume_device volume)) ⊎ HasBase config volume (left (volume_device volume)) (Some (base_filled config volume low records)))

-- each file of the volume's device, where that tells its state, is as it was but for the label's and those of the volume
abbrev pub KeepsOtherFiles : {D : Type 0} → disk.Ghosts D → Config → ℕ → List (Fuse D) → List (Fuse D) → Type 0
KeepsOtherFiles {D} kind config volume old new = (before after : Fuse D) → slice_get old (volume_device volume) ≡ Some before → slice_get new (volume_device volume) ≡ Some after
    → IsTrue (kind.tells (device_of before)) → OffVolume (files_on volume 1 config.files) (kind.held (device_of before)) (kind.held (device_of after))

-- A call that fills a volume: the other devices are as they were, and of the volume's device no file is touched but the label's and those of the volume.
pub record FillsOnly {D : Type 0} (kind : disk.Ghosts D) (config : Config) (volume : ℕ) (old new : List (Fuse D)) : Type 0 where
  pub others : SameBut (volume_device volume) old new
  pub keeps : AreLater kind old new
  pub files : KeepsOtherFiles kind config volume old new
