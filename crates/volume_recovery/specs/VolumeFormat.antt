-- What a format makes of a node's devices, its volumes and dumps among them, and which devices are a node's.
use Rattle.std.specs.Prelude.{◌⊎◌, ℕ, ◌≤◌, List, length}
use Rattle.disk_model.specs.Devices.{DeviceAt}
use Rattle.disk_model.specs.Held.{Held}
use Rattle.disk_model.specs.declared.fuse.Fuse.{Fuse}
use Rattle.tmf_model.specs.Config.{IsDeclared, IsWithin}
use Rattle.tmf_model.specs.declared.config.Config.{Config}
use Rattle.keyed_file.specs.Volume.{label_of}
use Rattle.block_cache.specs.Created.{IsMade}
use Rattle.volume_restore.specs.Formatted.{IsCleared, empty_contents}
use Rattle.volume_recovery.specs.Node.{AreEmpty}
use Rattle.volume_recovery.specs.VolumeNode.{dump_device, volume_device}
use Rattle.volume_recovery.specs.declared.errors.FormatError.{FormatError}
use Rattle.volume_recovery.specs.declared.errors.FormatError.TheVariants as format
use Rattle.volume_restore.specs.declared.format.FormatFault.{FormatFault}
use Rattle.volume_restore.specs.declared.format.FormatFault.TheVariants as fault

-- the device with this number has this volume, at rest, with the low position 1 and blocks without records
abbrev pub HasNewVolume : {D : Type 0} → (D → Held) → Config → List (Fuse D) → ℕ → Type 0
HasNewVolume held config fuses volume = DeviceAt (λ d. IsMade (label_of config volume 1) empty_contents (held d)) fuses (volume_device volume)

-- the dump device of this volume has no file of a dump
abbrev pub HasNoDump : {D : Type 0} → (D → Held) → List (Fuse D) → ℕ → Type 0
HasNoDump held fuses volume = DeviceAt (λ d. IsCleared (held d)) fuses (dump_device volume)

-- Each device of the configuration but the monitor trail's is made anew: each trail rests without a record, each volume has no records, and no dump is there.
pub record AreMadeAnew {D : Type 0} (held : D → Held) (config : Config) (fuses : List (Fuse D)) : Type 0 where
  pub trails : AreEmpty held config fuses
  pub volumes : (volume : ℕ) → IsDeclared config.volumes volume → HasNewVolume held config fuses volume
  pub dumps : (volume : ℕ) → IsDeclared config.volumes volume → HasNoDump held fuses volume

-- the device with this number has a volume of the configuration
abbrev pub IsVolumeDevice : Config → ℕ → Type 0
IsVolumeDevice config number = IsWithin (volume_device 1) (volume_device (length config.volumes)) number

-- or the dumps of one
abbrev pub IsDumpDevice : Config → ℕ → Type 0
IsDumpDevice config number = IsWithin (dump_device 1) (dump_device (length config.volumes)) number

-- the device with this number is one of the configuration's: that of a trail, of which the monitor's is 0, of a volume or of its dumps
abbrev pub IsNodeDevice : Config → ℕ → Type 0
IsNodeDevice config number = (number ≤ length config.trails) ⊎ (IsVolumeDevice config number ⊎ IsDumpDevice config number)

-- what the fault of a volume's format is to that of the node
abbrev pub volume_error : ℕ → FormatFault → FormatError
volume_error device fault.Failed = format.Failed device
volume_error device fault.NoMemory = format.NoMemory
