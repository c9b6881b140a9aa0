-- The records that a rollforward makes of a dump's blocks and the changes that were found of their keys.
use Rattle.std.specs.Prelude.{◌≡◌, ◌≢◌, ℕ, ◌-◌, ◌<◌, ◌≤◌, List, map, slice_get, Some, length}
use Rattle.tmf_model.specs.Config.{IsWithin}
use Rattle.tmf_model.specs.Place.{block_of}
use Rattle.keyed_file.specs.declared.home.Home.{Home}
use Rattle.keyed_file.specs.Block.{KeyedBlock, value_at}
use Rattle.trail_files.specs.declared.damage.Damage.{Damage}
use Rattle.trail_replay.specs.declared.replay.FoundFiles.{FoundFiles}
use Rattle.trail_replay.specs.Replay.{maps_of}
use Rattle.volume_restore.specs.Changed.{ArePartsOf, Changes, changed_values}
use Rattle.volume_restore.specs.Restored.{HasRoomFor, IsFullBlock, WereFound}
use Rattle.volume_restore.specs.declared.fault.VolumeFault.{VolumeFault}
use Rattle.volume_restore.specs.declared.fault.VolumeFault.TheVariants.{Failed, Damaged, NoMemory}
use Rattle.volume_recovery.specs.VolumeNode.{volume_device}
use Rattle.rollforward.specs.Filled.{Records, values_of}
use Rattle.rollforward.specs.declared.errors.RollError.{RollError}
use Rattle.rollforward.specs.declared.errors.RollError.TheVariants as roll

-- the records of a block of a file
abbrev pub entries_of : ℕ → List (List ℕ × List ℕ) → Records
entries_of file records = map (λ r. (file, r.0, r.1)) records

-- The block has the values of what it was, with the changes made.
abbrev pub IsRolledBlock : FoundFiles → Home → KeyedBlock → KeyedBlock → Type 0
IsRolledBlock files home was made = (found : Changes) (key : List ℕ) → WereFound files home.file found → block_of key home.blocks ≡ home.number → value_at made key ≡ changed_values found was key

-- the fault tells that the block would hold too much with the changes made
abbrev pub TellsFullBlock : FoundFiles → Home → KeyedBlock → VolumeFault → Type 0
TellsFullBlock files home was Failed = ⊥
TellsFullBlock files home was (Damaged damage) = IsFullBlock files home was damage
TellsFullBlock files home was NoMemory = Unit {0}

-- what was found is of the files of these places
abbrev pub HaveFound : List Home → FoundFiles → Type 0
HaveFound homes files = (n : ℕ) (home : Home) → slice_get homes n ≡ Some home → IsWithin 1 256 home.blocks × IsWithin 1 (length (maps_of files)) home.file

-- no two places are the same
abbrev pub AreApart : List Home → Type 0
AreApart homes = (n m : ℕ) (a b : Home) → slice_get homes n ≡ Some a → slice_get homes m ≡ Some b → a.file ≡ b.file → (a.blocks ≡ b.blocks) × (a.number ≡ b.number → n ≡ m)

-- Each place is that of one of its file's blocks, and behind the first one they stand one behind the other.
pub record IsInRow (homes : List Home) (n : ℕ) (home : Home) : Type 0 where
  pub within : home.number < home.blocks
  pub behind : home.number ≢ 0 → (before : Home) × (1 ≤ n) × (slice_get homes (n - 1) ≡ Some before) × (before.file ≡ home.file) × (before.blocks ≡ home.blocks)

abbrev pub AreInRow : List Home → Type 0
AreInRow homes = (n : ℕ) (home : Home) → slice_get homes n ≡ Some home → IsInRow homes n home

-- these are the changes that were found of the keys of a place's file, block by block
abbrev pub ArePartsAt : FoundFiles → Home → List Changes → Type 0
ArePartsAt files home parts = (found : Changes) → WereFound files home.file found → ArePartsOf found home.blocks parts

-- The records give each key of these places the value that its block had, with the changes made, and each block has room for them.
pub record AreRolled (homes : List Home) (blocks : List KeyedBlock) (files : FoundFiles) (records : Records) : Type 0 where
  pub values : (n : ℕ) (home : Home) (block : KeyedBlock) (found : Changes) (key : List ℕ) → slice_get homes n ≡ Some home → slice_get blocks n ≡ Some block
      → WereFound files home.file found → block_of key home.blocks ≡ home.number → values_of records home.file key ≡ changed_values found block key
  pub room : (n : ℕ) (home : Home) (block : KeyedBlock) → slice_get homes n ≡ Some home → slice_get blocks n ≡ Some block → HasRoomFor files home block

-- The first of the blocks that would hold too much with the changes made.
pub record IsFirstFullOf (homes : List Home) (blocks : List KeyedBlock) (files : FoundFiles) (damage : Damage) : Type 0 where
  pub index : ℕ
  pub home : Home
  pub block : KeyedBlock
  pub place : slice_get homes index ≡ Some home
  pub is : slice_get blocks index ≡ Some block
  pub here : IsFullBlock files home block damage
  pub before : (n : ℕ) (other : Home) (held : KeyedBlock) → n < index → slice_get homes n ≡ Some other → slice_get blocks n ≡ Some held → HasRoomFor files other held

-- the fault tells which block is the first that would hold too much
abbrev pub TellsFullOf : List Home → List KeyedBlock → FoundFiles → VolumeFault → Type 0
TellsFullOf homes blocks files Failed = ⊥
TellsFullOf homes blocks files (Damaged damage) = IsFirstFullOf homes blocks files damage
TellsFullOf homes blocks files NoMemory = Unit {0}

-- so does the error of a rollforward
abbrev pub TellsRolled : ℕ → List Home → List KeyedBlock → FoundFiles → RollError → Type 0
TellsRolled volume homes blocks files roll.NotLost = ⊥
TellsRolled volume homes blocks files roll.NoDump = ⊥
TellsRolled volume homes blocks files (roll.Failed device) = ⊥
TellsRolled volume homes blocks files (roll.Damaged device damage) = (device ≡ volume_device volume) × IsFirstFullOf homes blocks files damage
TellsRolled volume homes blocks files roll.NoMemory = Unit {0}
