-- What is told of a volume before any of it is written, and what its recovery leaves of it.
use Rattle.std.specs.Prelude.{◌≡◌, ◌≢◌, ◌⊎◌, ℕ, Bool, true, false, Option, Some, None, Result, IfErr}
use Rattle.disk_model.specs.Held.{Held, IsThere, Rose}
use Rattle.tmf_model.specs.declared.config.Config.{Config}
use Rattle.keyed_file.specs.LabelFormat.{IsLabel}
use Rattle.keyed_file.specs.Volume.{Contents, IsLost, SpellsLabel, SpellsVolume, files_on, label_of}
use Rattle.trail_files.specs.declared.damage.Damage.{Damage}
use Rattle.block_cache.specs.Created.{OffVolume}
use Rattle.block_cache.specs.LabelDamage.{IsFineLabel, TellsAttach}
use Rattle.block_cache.specs.Volume.{RestsFor}
use Rattle.block_cache.specs.declared.fault.AttachFault.TheVariants as opening
use Rattle.trail_replay.specs.declared.replay.FoundFiles.{FoundFiles}
use Rattle.volume_restore.specs.Damage.{AreBlocksFine, IsFirstBad, blocks_on}
use Rattle.volume_restore.specs.Restored.{HaveRoomBelow, IsFirstFull, KeepsUnchanged}
use Rattle.volume_restore.specs.declared.fault.VolumeFault.{VolumeFault}
use Rattle.volume_restore.specs.declared.fault.VolumeFault.TheVariants.{Failed, Damaged, NoMemory}
use Rattle.volume_restore.specs.declared.inspect.Inspected.{Inspected}
use Rattle.volume_restore.specs.declared.inspect.Inspected.TheVariants.{Lost, Ready, Full}

-- the device is at rest and spells a volume with this low position and these contents
abbrev pub HoldsVolume : Config → ℕ → ℕ → Held → Contents → Type 0
HoldsVolume config volume low held was = SpellsVolume (label_of config volume low) held was × RestsFor (label_of config volume low) held

-- so it does with some low position
abbrev pub HasContents : Config → ℕ → Held → Contents → Type 0
HasContents config volume held was = (low : ℕ) × HoldsVolume config volume low held was

-- The label's file has damage: the label is wrong first here, in itself or beside the configuration.
abbrev pub IsLabelDamage : Config → ℕ → Held → Damage → Type 0
IsLabelDamage config volume held damage = TellsAttach (label_of config volume 1) held (opening.Damaged damage)

-- the low position of a volume: that of its label, where the label is fine; none where the volume is lost or its label is damaged
abbrev pub TellsLow : Config → ℕ → Held → Option ℕ → Type 0
TellsLow config volume held None = IsLost held ⊎ ((damage : Damage) × IsLabelDamage config volume held damage)
TellsLow config volume held (Some low) = IsFineLabel (label_of config volume 1) held × IsThere held 1 (λ f. SpellsLabel (label_of config volume low) f.bytes)

-- the low position is not told: the device failed, and its count of faults rose, or memory ran out
abbrev pub LowCause : ℕ → ℕ → VolumeFault → Type 0
LowCause before now Failed = Rose before now
LowCause before now (Damaged d) = ⊥
LowCause before now NoMemory = Unit {0}

-- The label of a volume is fine, and so is each of its blocks. The label is spelled, with some low position.
pub record IsFineVolume (config : Config) (volume : ℕ) (held : Held) : Type 0 where
  pub label : IsFineLabel (label_of config volume 1) held
  pub spelled : (low : ℕ) × IsLabel (label_of config volume low) × IsThere held 1 (λ f. SpellsLabel (label_of config volume low) f.bytes)
  pub blocks : AreBlocksFine config volume held

-- a volume is damaged here first: at its label, or, where that is fine, at this block
abbrev pub IsVolumeDamage : Config → ℕ → Held → Damage → Type 0
IsVolumeDamage config volume held damage = IsLabelDamage config volume held damage ⊎ (IsFineLabel (label_of config volume 1) held × IsFirstBad config volume held damage)

-- each block of a volume has room for what it would hold with the changes made
abbrev pub HaveRoom : Config → ℕ → FoundFiles → Contents → Type 0
HaveRoom config volume files was = (file : ℕ) → HaveRoomBelow files file (blocks_on config volume file) was (blocks_on config volume file)

-- what the blocks of a volume, which has such contents, are: none is wrong, and each has room, or this is the first that would hold too much
abbrev pub TellsRoom : Config → ℕ → FoundFiles → (Contents → Type 0) → Inspected → Type 0
TellsRoom config volume files Has Lost = ⊥
TellsRoom config volume files Has Ready = (was : Contents) → Has was → HaveRoom config volume files was
TellsRoom config volume files Has (Full d) = (was : Contents) → Has was → IsFirstFull config volume files was d

-- what a volume is before its recovery: lost, or fine, and then with room or without
abbrev pub TellsInspected : Config → ℕ → FoundFiles → Held → Inspected → Type 0
TellsInspected config volume files held Lost = IsLost held
TellsInspected config volume files held Ready = IsFineVolume config volume held × TellsRoom config volume files (HasContents config volume held) Ready
TellsInspected config volume files held (Full d) = IsFineVolume config volume held × TellsRoom config volume files (HasContents config volume held) (Full d)

-- no block of a volume is wrong, unless the volume is lost
abbrev pub HasFineBlocks : Config → ℕ → Held → Type 0
HasFineBlocks config volume held = IsLost held ⊎ AreBlocksFine config volume held

-- why the blocks of a volume were not inspected: this one is the first that is wrong
abbrev pub TellsBad : Config → ℕ → Held → VolumeFault → Type 0
TellsBad config volume held Failed = Unit {0}
TellsBad config volume held (Damaged d) = IsFirstBad config volume held d
TellsBad config volume held NoMemory = Unit {0}

-- why a volume was not inspected
abbrev pub TellsDamaged : Config → ℕ → Held → VolumeFault → Type 0
TellsDamaged config volume held Failed = Unit {0}
TellsDamaged config volume held (Damaged d) = IsVolumeDamage config volume held d
TellsDamaged config volume held NoMemory = Unit {0}

-- whether a volume was recovered: it was fine, and each block had room; or it was lost
abbrev pub TellsRecovered : Config → ℕ → FoundFiles → Held → Bool → Type 0
TellsRecovered config volume files held true = IsFineVolume config volume held × TellsRoom config volume files (HasContents config volume held) Ready
TellsRecovered config volume files held false = IsLost held

-- why a volume was not recovered: it is damaged, and here first, or it is fine, and this is the first block that would hold too much
abbrev pub TellsRefused : Config → ℕ → FoundFiles → Held → VolumeFault → Type 0
TellsRefused config volume files held Failed = Unit {0}
TellsRefused config volume files held (Damaged d) = IsVolumeDamage config volume held d ⊎ (IsFineVolume config volume held × TellsRoom config volume files (HasContents config volume held) (Full d))
TellsRefused config volume files held NoMemory = Unit {0}

-- Nothing is written of a volume that is lost, nor where the call is refused other than by a device that failed. Else no file is but the label's and those of the volume; where its blocks are known
-- to be fine, or none is taken to be, not those of whose keys no change was found.
pub record LeavesFiles (config : Config) (volume : ℕ) (is_fine : Bool) (files : FoundFiles) (old new : Held) (result : Result Bool VolumeFault) : Type 0 where
  pub lost : IsLost old → new ≡ old
  pub refused : IfErr result (λ e. e ≢ Failed → new ≡ old)
  pub others : OffVolume (files_on volume 1 config.files) old new
  pub unchanged : (is_fine ≡ true → HasFineBlocks config volume old) → KeepsUnchanged config volume files old new
