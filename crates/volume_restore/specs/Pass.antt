-- What one pass over the blocks of a volume finds: which of them get another content.
use Rattle.std.specs.Prelude.{◌≡◌, ◌≢◌, ◌⊎◌, ℕ, ◌<◌, List, Option, Some, MatchOption, true}
use Rattle.disk_model.specs.Held.{Held}
use Rattle.tmf_model.specs.declared.config.Config.{Config}
use Rattle.tmf_model.specs.Place.{block_of}
use Rattle.keyed_file.specs.declared.home.Home.{Home}
use Rattle.keyed_file.specs.Block.{KeyedBlock, value_at}
use Rattle.keyed_file.specs.BlockFormat.{is_at_home}
use Rattle.keyed_file.specs.Volume.{Contents, files_on}
use Rattle.trail_files.specs.declared.damage.Damage.{Damage}
use Rattle.block_cache.specs.declared.contents.Change.{Change}
use Rattle.block_cache.specs.Changes.{AreChanges, AreNamed, Each, IsUnlisted}
use Rattle.block_cache.specs.Damage.{IsBadBlock}
use Rattle.block_cache.specs.Shows.{NamesSlot, SpellsContent, ShowsContent}
use Rattle.trail_replay.specs.declared.replay.FoundFiles.{FoundFiles}
use Rattle.volume_restore.specs.Changed.{Changes, IsOverfull, IsUnchanged, changed_values}
use Rattle.volume_restore.specs.Damage.{AreBlocksFine, IsFirstBad, blocks_on}
use Rattle.volume_restore.specs.Inspected.{HaveRoom}
use Rattle.volume_restore.specs.Restored.{HasRoomFor, IsFirstFull, IsRestored, WereFound}
use Rattle.volume_restore.specs.declared.fault.VolumeFault.{VolumeFault}
use Rattle.volume_restore.specs.declared.fault.VolumeFault.TheVariants.{Failed, Damaged, NoMemory}
use Rattle.volume_restore.specs.declared.find.Needed.{Needed}
use Rattle.volume_restore.specs.declared.find.Needed.TheVariants as of_volume
use Rattle.volume_restore.specs.declared.pass.Seen.{Seen}
use Rattle.volume_restore.specs.declared.pass.Seen.TheVariants.{Stays, Differs, Full}

-- a block of a file on a volume
abbrev pub home_on : Config → ℕ → ℕ → ℕ → Home
home_on config volume file number = record { file = file; number = number; blocks = blocks_on config volume file }

-- each block of a volume shows the one of these contents
abbrev pub AreShown : Config → ℕ → Held → Contents → Type 0
AreShown config volume held was = (file number : ℕ) → number < blocks_on config volume file → SpellsContent (home_on config volume file number) (was file number) held

-- The content has the values of what a block had, with the changes made that were found of its keys; without changes it is what the block was.
pub record IsChangedBlock (home : Home) (changes : Changes) (was content : KeyedBlock) : Type 0 where
  pub values : (key : List ℕ) → block_of key home.blocks ≡ home.number → value_at content key ≡ changed_values changes was key
  pub same : IsUnchanged home.blocks home.number changes → content ≡ was

-- the content is another one than the block had, so made, with this position, and lives in the block
pub record IsMadeAnew (home : Home) (changes : Changes) (position : ℕ) (was content : KeyedBlock) : Type 0 where
  pub made : IsChangedBlock home changes was content
  pub other : content ≢ was
  pub holds : content.position ≡ position
  pub lives : is_at_home (Some home) content ≡ true

-- of what its block had the change has what is restored, and that is another content
abbrev pub IsNeeded : Config → ℕ → FoundFiles → Contents → Change → Type 0
IsNeeded config volume files was change =
    IsRestored files (home_on config volume change.n.file change.n.number) (was change.n.file change.n.number) change.content × (change.content ≢ was change.n.file change.n.number)

-- a block has already what is restored of it
abbrev pub IsKept : Config → ℕ → FoundFiles → Contents → ℕ → ℕ → Type 0
IsKept config volume files was file number = IsRestored files (home_on config volume file number) (was file number) (was file number)

-- The changes of a volume that its recovery needs: each is restored from what its block shows, and another content, with the slot that the selector
-- names; each other block shows what it gets; and each block has room.
pub record AreNeeded (config : Config) (volume : ℕ) (files : FoundFiles) (held : Held) (row : List Change) : Type 0 where
  pub named : AreNamed (files_on volume 1 config.files) row held
  pub each : (was : Contents) → AreShown config volume held was → Each (IsNeeded config volume files was) row
  pub rest : (was : Contents) → AreShown config volume held was → (file number : ℕ) → number < blocks_on config volume file → IsUnlisted row file number → IsKept config volume files was file number
  pub room : (was : Contents) → AreShown config volume held was → HaveRoom config volume files was

-- what is found of a volume none of whose blocks is wrong: the changes that it needs, or the first block that would hold too much
abbrev pub TellsNeeded : Config → ℕ → FoundFiles → Held → Needed → Type 0
TellsNeeded config volume files held (of_volume.Changes row) = AreNeeded config volume files held row.items
TellsNeeded config volume files held (of_volume.Full d) = (was : Contents) → AreShown config volume held was → IsFirstFull config volume files was d

-- this is said of the changes that were found, where they were
abbrev pub IfChanges : (List Change → Type 0) → Needed → Type 0
IfChanges P (of_volume.Changes row) = P row.items
IfChanges P (of_volume.Full d) = Unit {0}

-- why a volume was not recovered: a block is wrong, and this is the first, or none is, and this is the first that would hold too much
abbrev pub TellsVolume : Config → ℕ → FoundFiles → Held → VolumeFault → Type 0
TellsVolume config volume files held Failed = Unit {0}
TellsVolume config volume files held (Damaged d) = IsFirstBad config volume held d ⊎ (AreBlocksFine config volume held × TellsNeeded config volume files held (of_volume.Full d))
TellsVolume config volume files held NoMemory = Unit {0}

-- one block stands before another, in the order of their files and of their numbers
abbrev pub IsBefore : ℕ → ℕ → ℕ → ℕ → Type 0
IsBefore file number g n = (file < g) ⊎ ((file ≡ g) × (number < n))

-- the contents of the changes have this position
abbrev pub HavePosition : ℕ → List Change → Type 0
HavePosition position row = Each (λ change. change.content.position ≡ position) row

-- the changes are of blocks before this one, and their contents have this position
pub record AreBefore (config : Config) (volume file number position : ℕ) (row : List Change) : Type 0 where
  pub changes : AreChanges (files_on volume 1 config.files) row
  pub hold : HavePosition position row
  pub before : Each (λ change. IsBefore change.n.file change.n.number file number) row

-- of the blocks before this one these are the changes that are needed
pub record AreFoundBefore (config : Config) (volume : ℕ) (files : FoundFiles) (was : Contents) (file number : ℕ) (row : List Change) : Type 0 where
  pub each : Each (IsNeeded config volume files was) row
  pub rest : (f n : ℕ) → n < blocks_on config volume f → IsBefore f n file number → IsUnlisted row f n → IsKept config volume files was f n
  pub room : (f n : ℕ) → n < blocks_on config volume f → IsBefore f n file number → HasRoomFor files (home_on config volume f n) (was f n)

-- A pass that has gone over the blocks before this one: each shows its content, and either each has room, and the changes are those that are needed,
-- or the first block was found that would hold too much.
pub record HasPassed (config : Config) (volume : ℕ) (files : FoundFiles) (held : Held) (file number : ℕ) (full : Option Damage) (row : List Change) : Type 0 where
  pub shown : (f n : ℕ) → n < blocks_on config volume f → IsBefore f n file number → ShowsContent (home_on config volume f n) held
  pub named : AreNamed (files_on volume 1 config.files) row held
  pub found : (was : Contents) → AreShown config volume held was → MatchOption full (AreFoundBefore config volume files was file number row) (IsFirstFull config volume files was)

-- a change that was seen of a block is of it, and its content has this position and lives there
pub record IsChangeAt (home : Home) (position : ℕ) (change : Change) : Type 0 where
  pub file : change.n.file ≡ home.file
  pub number : change.n.number ≡ home.number
  pub holds : change.content.position ≡ position
  pub lives : is_at_home (Some home) change.content ≡ true
  pub slot : change.slot < 2

-- so is one that was seen, where one was
abbrev pub IfDiffers : (Change → Type 0) → Seen → Type 0
IfDiffers P Stays = Unit {0}
IfDiffers P (Differs change) = P change
IfDiffers P Full = Unit {0}

-- what is to be seen of a block that showed this content
abbrev pub IsSeen : FoundFiles → Home → Held → KeyedBlock → Seen → Type 0
IsSeen files home held was Stays = IsRestored files home was was × HasRoomFor files home was
IsSeen files home held was (Differs change) = IsRestored files home was change.content × (change.content ≢ was) × HasRoomFor files home was × NamesSlot home change.slot held
IsSeen files home held was Full = (found : Changes) → WereFound files home.file found → IsOverfull home.blocks home.number (changed_values found was)

-- the fault tells where the bytes of a block are wrong first
abbrev pub TellsWrong : Home → Held → VolumeFault → Type 0
TellsWrong home held Failed = ⊥
TellsWrong home held (Damaged d) = IsBadBlock home held d
TellsWrong home held NoMemory = Unit {0}
