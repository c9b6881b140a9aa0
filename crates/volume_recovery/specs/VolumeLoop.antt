-- What the loops over a node's volumes keep.
use Rattle.std.specs.Prelude.{◌≡◌, ◌⊎◌, ℕ, ◌+◌, ◌-◌, ◌<◌, ◌≤◌, List, [], ◌∷◌, ◌++◌, length, slice_get, Some}
use Rattle.disk_model.specs.Devices.{AreLater, DeviceAt, HoldSame, RoseAt}
use Rattle.disk_model.specs.Fuse.{device_of}
use Rattle.disk_model.specs.Held.{Held, Leaves}
use Rattle.disk_model.specs.declared.disk.Disk as disk
use Rattle.disk_model.specs.declared.fuse.Fuse.{Fuse}
use Rattle.tmf_model.specs.declared.config.Config.{Config}
use Rattle.tmf_model.specs.declared.config.Volume.{Volume}
use Rattle.trail_files.specs.declared.audit_record.AuditRecord.{AuditRecord}
use Rattle.trail_files.specs.declared.monitor_record.MonitorRecord.{MonitorRecord}
use Rattle.trail_files.specs.StandsFor.{IsNumber}
use Rattle.keyed_file.specs.Volume.{Contents, IsLost, SpellsVolume, label_of}
use Rattle.block_cache.specs.Volume.{RestsFor}
use Rattle.volume_restore.specs.declared.changes.NodeChanges.{NodeChanges}
use Rattle.volume_restore.specs.declared.fault.VolumeFault.{VolumeFault}
use Rattle.volume_restore.specs.declared.fault.VolumeFault.TheVariants as fault
use Rattle.volume_restore.specs.Found.{AreFoundFor}
use Rattle.volume_restore.specs.Inspected.{HasContents, IsFineVolume, IsVolumeDamage, TellsRoom}
use Rattle.volume_restore.specs.declared.inspect.Inspected.{Inspected}
use Rattle.volume_restore.specs.declared.inspect.Inspected.TheVariants.{Full, Lost, Ready}
use Rattle.trail_replay.specs.declared.replay.FoundFiles.{FoundFiles}
use Rattle.trail_files.specs.declared.damage.Damage.{Damage}
use Rattle.trail_replay.specs.Texts.{IsFirstDamage}
use Rattle.volume_recovery.specs.declared.errors.RecoverError.{RecoverError}
use Rattle.volume_recovery.specs.declared.errors.RecoverError.TheVariants as recover
use Rattle.volume_recovery.specs.Recovery.{IsUnwritten}
use Rattle.volume_recovery.specs.VolumeAnswers.{IsReadable, lost_among}
use Rattle.volume_recovery.specs.VolumeNode.{volume_device}
use Rattle.volume_recovery.specs.VolumeRecovery.{LeavesWhole, MayLeave}

-- the device with this number is a trail's of the configuration, or a volume's
abbrev pub IsUsed : Config → ℕ → Type 0
IsUsed config number = (number ≤ length config.trails) ⊎ ((4 < number) × (number ≤ 4 + length config.volumes))

-- every other device is as it was
abbrev pub SameUnused : {D : Type 0} → Config → List (Fuse D) → List (Fuse D) → Type 0
SameUnused config old new = (n : ℕ) → ¬ IsUsed config n → slice_get new n ≡ slice_get old n

-- A call that reads devices of the configuration: each holds what it held.
pub record ReadsBay {D : Type 0} (kind : disk.Ghosts D) (config : Config) (old new : List (Fuse D)) : Type 0 where
  pub same : HoldSame kind.held old new
  pub keeps : AreLater kind old new
  pub others : SameUnused config old new

-- A call that writes devices of the configuration.
pub record WritesBay {D : Type 0} (kind : disk.Ghosts D) (config : Config) (old new : List (Fuse D)) : Type 0 where
  pub keeps : AreLater kind old new
  pub others : SameUnused config old new

-- a device that is told to have failed is one of the configuration, and its count of faults rose
abbrev pub HasFailed : {D : Type 0} → (D → ℕ) → Config → List (Fuse D) → List (Fuse D) → RecoverError → Type 0
HasFailed faults config old new (recover.Failed number) = IsUsed config number × RoseAt faults old new number
HasFailed faults config old new (recover.Damaged number damage) = Unit {0}
HasFailed faults config old new recover.EpochsSpent = Unit {0}
HasFailed faults config old new recover.NoMemory = Unit {0}

-- the answer tells neither damage nor that no epoch is left
abbrev pub IsPlain : RecoverError → Type 0
IsPlain (recover.Failed number) = Unit {0}
IsPlain (recover.Damaged number damage) = ⊥
IsPlain recover.EpochsSpent = ⊥
IsPlain recover.NoMemory = Unit {0}

-- what the fault of a volume's device is to the recovery of the node
abbrev pub volume_error : ℕ → VolumeFault → RecoverError
volume_error device fault.Failed = recover.Failed device
volume_error device (fault.Damaged damage) = recover.Damaged device damage
volume_error device fault.NoMemory = recover.NoMemory

-- the low position of each volume that spells contents, by the volumes' numbers
abbrev pub AreLows : Config → (ℕ → Held) → ℕ → List ℕ → Type 0
AreLows config images last lows = (volume low : ℕ) (line : Volume) (was : Contents) → IsNumber config.volumes volume line → volume ≤ last
    → SpellsVolume (label_of config volume low) (images (volume_device volume)) was → slice_get lows (volume - 1) ≡ Some low

-- of the first so many volumes each is lost, or nothing is wrong of it
abbrev pub AreReadable : Config → (ℕ → Held) → ℕ → Type 0
AreReadable config images last = (volume : ℕ) (line : Volume) → IsNumber config.volumes volume line → volume ≤ last → IsReadable config volume (images (volume_device volume))

-- and each block has room for what it would hold with the changes made
abbrev pub HaveRooms : Config → (ℕ → Held) → NodeChanges → ℕ → Type 0
HaveRooms config images changes last = (volume : ℕ) (line : Volume) → IsNumber config.volumes volume line → volume ≤ last
    → TellsRoom config volume changes.files (HasContents config volume (images (volume_device volume))) Ready

-- each device but those of the first so many volumes holds its image
abbrev pub AreHeldBut : {D : Type 0} → (D → Held) → ℕ → (ℕ → Held) → List (Fuse D) → Type 0
AreHeldBut {D} held done images fuses = (n : ℕ) (fuse : Fuse D) → (n ≤ 4) ⊎ (4 + done < n) → slice_get fuses n ≡ Some fuse → held (device_of fuse) ≡ images n

-- each device but those of the volumes from this one on holds its image
abbrev pub AreHeldBelow : {D : Type 0} → (D → Held) → Config → ℕ → (ℕ → Held) → List (Fuse D) → Type 0
AreHeldBelow {D} held config from images fuses = (n : ℕ) (fuse : Fuse D) → (n < 4 + from) ⊎ (4 + length config.volumes < n) → slice_get fuses n ≡ Some fuse → held (device_of fuse) ≡ images n

-- whatever a crash leaves of the device of each volume from this one on is the volume recovered
abbrev pub AreRecoveredFrom : {D : Type 0} → (D → Held) → Config → (ℕ → Held) → List MonitorRecord → (ℕ → List AuditRecord) → ℕ → List (Fuse D) → Type 0
AreRecoveredFrom held config images list audit from fuses = (volume : ℕ) (line : Volume) (left : Held) → IsNumber config.volumes volume line → from ≤ volume
    → DeviceAt (λ d. Leaves (held d) left) fuses (volume_device volume) → LeavesWhole config volume (audit line.trail) list (images (volume_device volume)) left

-- whatever a crash leaves of the device of each of the first so many volumes is the volume recovered
abbrev pub AreRecovered : {D : Type 0} → (D → Held) → Config → (ℕ → Held) → List MonitorRecord → (ℕ → List AuditRecord) → ℕ → List (Fuse D) → Type 0
AreRecovered held config images list audit done fuses = (volume : ℕ) (line : Volume) (left : Held) → IsNumber config.volumes volume line → volume ≤ done
    → DeviceAt (λ d. Leaves (held d) left) fuses (volume_device volume) → LeavesWhole config volume (audit line.trail) list (images (volume_device volume)) left

-- whatever a crash leaves of the device of any volume is such as a recovery may leave
abbrev pub AreRecovering : {D : Type 0} → (D → Held) → Config → (ℕ → Held) → List MonitorRecord → (ℕ → List AuditRecord) → List (Fuse D) → Type 0
AreRecovering held config images list audit fuses = (volume : ℕ) (line : Volume) (left : Held) → IsNumber config.volumes volume line
    → DeviceAt (λ d. Leaves (held d) left) fuses (volume_device volume) → MayLeave config volume (audit line.trail) list (images (volume_device volume)) left

-- What the recovery of one volume leaves on its device: nothing of the volume is at risk; and it holds the image, where that is lost.
pub record IsSettledVolume (config : Config) (volume : ℕ) (image now : Held) : Type 0 where
  pub rests : RestsFor (label_of config volume 1) now
  pub lost : IsLost image → now ≡ image

-- so it is of each of the first so many volumes
abbrev pub AreSettled : {D : Type 0} → (D → Held) → Config → (ℕ → Held) → ℕ → List (Fuse D) → Type 0
AreSettled held config images done fuses = (volume : ℕ) (line : Volume) → IsNumber config.volumes volume line → volume ≤ done
    → DeviceAt (λ d. IsSettledVolume config volume (images (volume_device volume)) (held d)) fuses (volume_device volume)

-- so it is of each volume from this one on
abbrev pub AreSettledFrom : {D : Type 0} → (D → Held) → Config → (ℕ → Held) → ℕ → List (Fuse D) → Type 0
AreSettledFrom held config images from fuses = (volume : ℕ) (line : Volume) → IsNumber config.volumes volume line → from ≤ volume
    → DeviceAt (λ d. IsSettledVolume config volume (images (volume_device volume)) (held d)) fuses (volume_device volume)

-- the device with this number holds its image
abbrev pub HoldsImage : {D : Type 0} → (D → Held) → (ℕ → Held) → ℕ → List (Fuse D) → Type 0
HoldsImage {D} held images n fuses = (fuse : Fuse D) → slice_get fuses n ≡ Some fuse → held (device_of fuse) ≡ images n

-- of a volume that spells contents the changes are those of this audit and the commits
abbrev pub IsFoundOf : Config → ℕ → Held → List AuditRecord → List MonitorRecord → NodeChanges → Type 0
IsFoundOf config volume image audit list changes = (low : ℕ) (was : Contents) → SpellsVolume (label_of config volume low) image was → AreFoundFor config volume low audit list changes

-- of each volume that spells contents the changes are those of its audit and the commits
abbrev pub AreFound : Config → (ℕ → Held) → (ℕ → List AuditRecord) → List MonitorRecord → NodeChanges → Type 0
AreFound config images audit list changes = (volume : ℕ) (line : Volume) → IsNumber config.volumes volume line → IsFoundOf config volume (images (volume_device volume)) (audit line.trail) list changes

-- what is told of a volume that is not read: it is damaged, and here first
abbrev pub TellsVolume : Config → ℕ → Held → RecoverError → Type 0
TellsVolume config volume image (recover.Failed number) = Unit {0}
TellsVolume config volume image (recover.Damaged number damage) = (number ≡ volume_device volume) × IsVolumeDamage config volume image damage
TellsVolume config volume image recover.EpochsSpent = ⊥
TellsVolume config volume image recover.NoMemory = Unit {0}

-- what is told of a volume that is not recovered: it is damaged, and here first; or nothing is wrong of it, and this is its first block that would hold too much
abbrev pub TellsWrong : Config → ℕ → FoundFiles → Held → RecoverError → Type 0
TellsWrong config volume files image (recover.Failed number) = Unit {0}
TellsWrong config volume files image (recover.Damaged number damage) = (number ≡ volume_device volume)
    × (IsVolumeDamage config volume image damage ⊎ (IsFineVolume config volume image × TellsRoom config volume files (HasContents config volume image) (Full damage)))
TellsWrong config volume files image recover.EpochsSpent = ⊥
TellsWrong config volume files image recover.NoMemory = Unit {0}

-- A volume was not recovered: what is told of it; where that is what it holds, its device holds its image.
pub record IsTurnedDown {D : Type 0} (held : D → Held) (config : Config) (volume : ℕ) (files : FoundFiles) (images : ℕ → Held) (after : List (Fuse D)) (e : RecoverError) : Type 0 where
  pub wrong : TellsWrong config volume files (images (volume_device volume)) e
  pub unwritten : IsPlain e ⊎ HoldsImage held images (volume_device volume) after

-- nothing keeps a volume from its recovery, by the changes: it is lost, or nothing is wrong of it, and each of its blocks has room
abbrev pub TellsReady : Config → ℕ → FoundFiles → Held → Type 0
TellsReady config volume files image = IsReadable config volume image × TellsRoom config volume files (HasContents config volume image) Ready

-- what is told of trails that are not read: the first damage of a trail
abbrev pub TellsTrail : Config → (ℕ → Held) → RecoverError → Type 0
TellsTrail config images (recover.Failed number) = Unit {0}
TellsTrail config images (recover.Damaged number damage) = IsFirstDamage config images number damage
TellsTrail config images recover.EpochsSpent = ⊥
TellsTrail config images recover.NoMemory = Unit {0}

-- The first volume that is wrong, by the changes: those before it are lost, or nothing is wrong of them, and they have room; and it is damaged, or without room.
pub record IsFirstWrong (config : Config) (images : ℕ → Held) (changes : NodeChanges) (device : ℕ) (damage : Damage) : Type 0 where
  pub volume : ℕ
  pub line : Volume
  pub is_volume : IsNumber config.volumes volume line
  pub device_is : device ≡ volume_device volume
  pub readable : (v : ℕ) (l : Volume) → v < volume → IsNumber config.volumes v l → IsReadable config v (images (volume_device v))
  pub rooms : (v : ℕ) (l : Volume) → v < volume → IsNumber config.volumes v l → TellsRoom config v changes.files (HasContents config v (images (volume_device v))) Ready
  pub here : IsVolumeDamage config volume (images (volume_device volume)) damage
      ⊎ (IsFineVolume config volume (images (volume_device volume)) × TellsRoom config volume changes.files (HasContents config volume (images (volume_device volume))) (Full damage))

-- what is told of volumes that are not all ready: the first that is wrong
abbrev pub TellsVolumes : Config → (ℕ → Held) → NodeChanges → RecoverError → Type 0
TellsVolumes config images changes (recover.Failed number) = Unit {0}
TellsVolumes config images changes (recover.Damaged number damage) = IsFirstWrong config images changes number damage
TellsVolumes config images changes recover.EpochsSpent = ⊥
TellsVolumes config images changes recover.NoMemory = Unit {0}

-- why volumes were not recovered: one is wrong, and this is the first, and no device was written; or a device has failed, or memory ran out
pub record AreTurnedDown {D : Type 0} (held : D → Held) (config : Config) (images : ℕ → Held) (changes : NodeChanges) (after : List (Fuse D)) (e : RecoverError) : Type 0 where
  pub wrong : TellsVolumes config images changes e
  pub unwritten : IsUnwritten held images after e

-- What was found of the first so many volumes: which are lost, that nothing is wrong of the others, and that each block has room.
pub record IsInspected (config : Config) (images : ℕ → Held) (changes : NodeChanges) (last : ℕ) (numbers : List ℕ) : Type 0 where
  pub lost : numbers ≡ lost_among images last
  pub readable : AreReadable config images last
  pub rooms : HaveRooms config images changes last

-- what is noted of a volume behind the numbers of those that are lost: one that is lost, and none that would hold too much
abbrev pub Notes : ℕ → Inspected → List ℕ → List ℕ → Type 0
Notes volume Lost old new = new ≡ old ++ volume ∷ []
Notes volume Ready old new = new ≡ old
Notes volume (Full damage) old new = ⊥

-- what is told of a volume that was inspected and is not noted: its first block that would hold too much
abbrev pub TellsFull : ℕ → Inspected → RecoverError → Type 0
TellsFull volume inspected (recover.Failed number) = ⊥
TellsFull volume inspected (recover.Damaged number damage) = (number ≡ volume_device volume) × (inspected ≡ Full damage)
TellsFull volume inspected recover.EpochsSpent = ⊥
TellsFull volume inspected recover.NoMemory = Unit {0}
