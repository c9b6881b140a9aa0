-- What is made of a volume's blocks, and what a recovery leaves of them.
use Rattle.std.specs.Prelude.{◌≡◌, ℕ, ◌+◌, ◌-◌, ◌<◌, Bool, true, List, slice_get, Some, None, IsTrue}
use Rattle.disk_model.specs.declared.disk.Disk as disk
use Rattle.disk_model.specs.Frame.{IsLater}
use Rattle.disk_model.specs.Held.{Held, Rose}
use Rattle.tmf_model.specs.Place.{block_of}
use Rattle.keyed_file.specs.declared.home.Home.{Home}
use Rattle.keyed_file.specs.Block.{KeyedBlock, value_at}
use Rattle.keyed_file.specs.Volume.{Contents, files_on}
use Rattle.trail_files.specs.declared.damage.Damage.{Damage}
use Rattle.trail_files.specs.declared.damage.DamageKind.TheVariants.{BadBlock}
use Rattle.block_cache.specs.Blocks.{IsBlocks, View, with_low}
use Rattle.block_cache.specs.Created.{OffVolume}
use Rattle.block_cache.specs.Rest.{LeavesSettled}
use Rattle.block_cache.specs.declared.pair.PairPhase.TheVariants.{Settled}
use Rattle.block_cache.specs.declared.fault.BlockFault as of_block
use Rattle.block_cache.specs.declared.fault.BlockFault.TheVariants as fault
use Rattle.trail_replay.specs.declared.replay.FoundFiles.{FoundFiles}
use Rattle.trail_replay.specs.Replay.{maps_of}
use Rattle.tmf_model.specs.declared.config.Config.{Config}
use Rattle.volume_restore.specs.Changed.{Changes, HasRoomIn, IsFoundIn, IsOverfull, IsUnchanged, change_of, changed_values}
use Rattle.volume_restore.specs.Damage.{AreBlocksFine, blocks_on}
use Rattle.volume_restore.specs.declared.fault.VolumeFault.{VolumeFault}
use Rattle.volume_restore.specs.declared.fault.VolumeFault.TheVariants.{Failed, Damaged, NoMemory}

-- these changes were found of the keys of a file
abbrev pub WereFound : FoundFiles → ℕ → Changes → Type 0
WereFound files file found = slice_get (maps_of files) (file - 1) ≡ Some found

-- these changes were found of the keys that live in a block
abbrev pub WereFoundAt : FoundFiles → Home → Changes → Type 0
WereFoundAt files home changes = (found : Changes) → WereFound files home.file found → IsFoundIn found home.blocks home.number changes

-- The content has the values of what the block had, with the changes made; without changes it is what the block was, with its position.
pub record IsRestored (files : FoundFiles) (home : Home) (was content : KeyedBlock) : Type 0 where
  pub values : (found : Changes) (key : List ℕ) → WereFound files home.file found → block_of key home.blocks ≡ home.number → value_at content key ≡ changed_values found was key
  pub same : (found : Changes) → WereFound files home.file found → IsUnchanged home.blocks home.number found → content ≡ was

-- the block would hold too much with the changes made
abbrev pub IsFullBlock : FoundFiles → Home → KeyedBlock → Damage → Type 0
IsFullBlock files home was damage =
    (damage ≡ record { file = 1 + home.file; at = home.number; kind = BadBlock }) × ((found : Changes) → WereFound files home.file found → IsOverfull home.blocks home.number (changed_values found was))

-- the block has room for what it would hold with the changes made
abbrev pub HasRoomFor : FoundFiles → Home → KeyedBlock → Type 0
HasRoomFor files home was = (found : Changes) → WereFound files home.file found → HasRoomIn home.blocks home.number (changed_values found was)

-- so do the blocks of a file below a number
abbrev pub HaveRoomBelow : FoundFiles → ℕ → ℕ → Contents → ℕ → Type 0
HaveRoomBelow files file blocks was number = (n : ℕ) → n < number → HasRoomFor files (record { file = file; number = n; blocks = blocks }) (was file n)

-- The first block of a volume that would hold too much with the changes made.
pub record IsFirstFull (config : Config) (volume : ℕ) (files : FoundFiles) (was : Contents) (damage : Damage) : Type 0 where
  pub file : ℕ
  pub number : ℕ
  pub within : number < blocks_on config volume file
  pub here : IsFullBlock files (record { file = file; number = number; blocks = blocks_on config volume file }) (was file number) damage
  pub below : HaveRoomBelow files file (blocks_on config volume file) was number
  pub before : (f : ℕ) → f < file → HaveRoomBelow files f (blocks_on config volume f) was (blocks_on config volume f)

-- no change was found of the keys of a file
abbrev pub HasNoChange : FoundFiles → ℕ → Type 0
HasNoChange files file = (found : Changes) × WereFound files file found × ((key : List ℕ) → change_of found key ≡ None)

-- each data file of the volume is as it was of whose keys no change was found
abbrev pub KeepsUnchanged : Config → ℕ → FoundFiles → Held → Held → Type 0
KeepsUnchanged config volume files old new = (file : ℕ) → 0 < blocks_on config volume file → HasNoChange files file → new (1 + file) ≡ old (1 + file)

-- A call that recovers a volume works on its device, and writes of it no file but the label's and those of the volume; where its blocks are known to be fine, or none is taken to be, not those
-- of whose keys no change was found.
pub record WritesChanged {D : Type 0} (kind : disk.Ghosts D) (config : Config) (volume : ℕ) (is_fine : Bool) (files : FoundFiles) (old new : View D) : Type 0 where
  pub valid : IsBlocks kind.tells kind.held new
  pub works : IsLater kind old.device new.device
  pub others : IsTrue (kind.tells old.device) → OffVolume (files_on volume 1 config.files) (kind.held old.device) (kind.held new.device)
  pub unchanged : IsTrue (kind.tells old.device) → (is_fine ≡ true → AreBlocksFine config volume (kind.held old.device)) → KeepsUnchanged config volume files (kind.held old.device) (kind.held new.device)

-- a device is told to have failed where its count of faults rose
abbrev pub VolumeCause : ℕ → ℕ → VolumeFault → Type 0
VolumeCause before now Failed = Rose before now
VolumeCause before now (Damaged d) = Unit {0}
VolumeCause before now NoMemory = Unit {0}

-- what a fault of a block is to its volume
abbrev pub block_fault : of_block.BlockFault → VolumeFault
block_fault fault.Failed = Failed
block_fault (fault.Damaged d) = Damaged d
block_fault fault.NoMemory = NoMemory

-- A volume that was recovered has a settled label with the next low position, and no block to be drawn. Where nothing was at risk of its files, nothing is.
pub record IsRecoveredAt {D : Type 0} (kind : disk.Ghosts D) (old new : View D) (next : ℕ) : Type 0 where
  pub label : new.label ≡ with_low old.label next
  pub settled : new.label_phase ≡ Settled
  pub leaves : LeavesSettled kind old new
