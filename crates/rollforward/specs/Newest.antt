-- What stands in the way of a rollforward before any trail is read.
use Rattle.std.specs.Prelude.{◌≡◌, ◌⊎◌, ℕ, List, slice_get}
use Rattle.disk_model.specs.Devices.{AreLater, HoldSame, RoseAt}
use Rattle.disk_model.specs.Held.{Held}
use Rattle.disk_model.specs.declared.disk.Disk as disk
use Rattle.disk_model.specs.declared.fuse.Fuse.{Fuse}
use Rattle.tmf_model.specs.declared.config.Config.{Config}
use Rattle.trail_files.specs.declared.damage.Damage.{Damage}
use Rattle.keyed_file.specs.declared.dump_label.DumpLabel.{DumpLabel}
use Rattle.keyed_file.specs.Volume.{IsLost, label_of}
use Rattle.block_cache.specs.LabelDamage.{IsFineLabel, TellsAttach}
use Rattle.block_cache.specs.declared.fault.AttachFault.TheVariants as opening
use Rattle.volume_recovery.specs.VolumeNode.{dump_device, volume_device}
use Rattle.rollforward.specs.DumpLabels.{IsBadDumpLabel, IsDumpLabelOf, IsFineDumpLabel}
use Rattle.rollforward.specs.declared.errors.RollError.{RollError}
use Rattle.rollforward.specs.declared.errors.RollError.TheVariants.{NotLost, NoDump, Failed, Damaged, NoMemory}
use Rattle.rollforward.specs.declared.newest.LabelState.{LabelState}
use Rattle.rollforward.specs.declared.newest.LabelState.TheVariants as state

-- the volume's label is spelled
abbrev pub IsSpelled : Config → ℕ → Held → Type 0
IsSpelled config volume image = IsFineLabel (label_of config volume 1) image

-- a label stands, and is wrong here first
abbrev pub IsBadLabel : Config → ℕ → Held → Damage → Type 0
IsBadLabel config volume image damage = TellsAttach (label_of config volume 1) image (opening.Damaged damage)

-- no label of the volume is spelled: none stands, or the one that stands is damaged
abbrev pub IsUnspelled : Config → ℕ → Held → Type 0
IsUnspelled config volume image = IsLost image ⊎ ((damage : Damage) × IsBadLabel config volume image damage)

-- the state tells what the volume's device has in its label's place
abbrev pub TellsState : Config → ℕ → Held → LabelState → Type 0
TellsState config volume image state.Lost = IsLost image
TellsState config volume image state.Spelled = IsSpelled config volume image
TellsState config volume image (state.Damaged damage) = IsBadLabel config volume image damage

-- a dump's label stands, fine or damaged
abbrev pub HasDumpLabel : ℕ → Held → Type 0
HasDumpLabel volume image = IsFineDumpLabel volume image ⊎ ((damage : Damage) × IsBadDumpLabel volume image damage)

-- The volume has no label, and this is the label of its dump, in the selected slot. The dump's body is not looked at.
pub record IsNewestDump (config : Config) (volume : ℕ) (images : ℕ → Held) (label : DumpLabel) : Type 0 where
  pub lost : IsLost (images (volume_device volume))
  pub dump : IsDumpLabelOf volume (images (dump_device volume)) label

-- Which label is damaged first: that of the volume; or, where the volume has none, that of the dump.
abbrev pub IsLabelDamage : Config → ℕ → (ℕ → Held) → ℕ → Damage → Type 0
IsLabelDamage config volume images device damage =
    ((device ≡ volume_device volume) × IsBadLabel config volume (images (volume_device volume)) damage × HasDumpLabel volume (images (dump_device volume)))
    ⊎ ((device ≡ dump_device volume) × IsLost (images (volume_device volume)) × IsBadDumpLabel volume (images (dump_device volume)) damage)

-- The error tells why no dump is rolled forward, and of these the first that holds: the volume's label is spelled; no dump label stands; a label is damaged.
-- No two of them hold of the same images.
abbrev pub TellsNoDump : Config → ℕ → (ℕ → Held) → RollError → Type 0
TellsNoDump config volume images NotLost = IsSpelled config volume (images (volume_device volume))
TellsNoDump config volume images NoDump = IsUnspelled config volume (images (volume_device volume)) × IsLost (images (dump_device volume))
TellsNoDump config volume images (Failed device) = Unit {0}
TellsNoDump config volume images (Damaged device damage) = IsLabelDamage config volume images device damage
TellsNoDump config volume images NoMemory = Unit {0}

-- the error tells of the images nothing
abbrev pub IsPlain : RollError → Type 0
IsPlain NotLost = ⊥
IsPlain NoDump = ⊥
IsPlain (Failed device) = Unit {0}
IsPlain (Damaged device damage) = ⊥
IsPlain NoMemory = Unit {0}

-- the device is the volume's, or that of its dumps
abbrev pub IsOfVolume : ℕ → ℕ → Type 0
IsOfVolume volume number = (number ≡ volume_device volume) ⊎ (number ≡ dump_device volume)

-- a device that is told to have failed is one of these, and its count of faults rose
abbrev pub HasFailedOn : {D : Type 0} → (D → ℕ) → (ℕ → Type 0) → List (Fuse D) → List (Fuse D) → RollError → Type 0
HasFailedOn faults Is old new NotLost = Unit {0}
HasFailedOn faults Is old new NoDump = Unit {0}
HasFailedOn faults Is old new (Failed device) = Is device × RoseAt faults old new device
HasFailedOn faults Is old new (Damaged device damage) = Unit {0}
HasFailedOn faults Is old new NoMemory = Unit {0}

-- it is the volume's, or that of its dumps
abbrev pub HasFailed : {D : Type 0} → (D → ℕ) → ℕ → List (Fuse D) → List (Fuse D) → RollError → Type 0
HasFailed faults volume old new = HasFailedOn faults (IsOfVolume volume) old new

-- A call that reads these devices: each holds what it held, and every other device is as it was.
pub record ReadsOnly {D : Type 0} (kind : disk.Ghosts D) (Is : ℕ → Type 0) (old new : List (Fuse D)) : Type 0 where
  pub same : HoldSame kind.held old new
  pub keeps : AreLater kind old new
  pub others : (n : ℕ) → ¬ Is n → slice_get new n ≡ slice_get old n

-- it reads the volume's device and that of its dumps
abbrev pub ReadsVolume : {D : Type 0} → disk.Ghosts D → ℕ → List (Fuse D) → List (Fuse D) → Type 0
ReadsVolume kind volume old new = ReadsOnly kind (IsOfVolume volume) old new
