-- What the listing of one file finds on its volume.
use Rattle.std.specs.Prelude.{◌≡◌, ◌⊎◌, ℕ, ◌+◌, ◌<◌, ◌≤◌, List, Option, None, IsSome}
use Rattle.std.specs.BTreeMap.{BTreeMap, get}
use Rattle.std.specs.Cmp.Lexicographic.{slice_cmp}
use Rattle.std.specs.Ordering.{nat_cmp}
use Rattle.disk_model.specs.Held.{Held, Rose}
use Rattle.tmf_model.specs.declared.config.Config.{Config}
use Rattle.tmf_model.specs.Place.{block_of}
use Rattle.tmf_model.specs.RecordMap.{RecordMap, IsListing}
use Rattle.keyed_file.specs.Block.{KeyedBlock, value_at}
use Rattle.keyed_file.specs.Volume.{Contents, IsLost, files_on, label_of, map_of}
use Rattle.block_cache.specs.Damage.{bad_data_in}
use Rattle.block_cache.specs.LabelDamage.{IsFineLabel, TellsAttach}
use Rattle.block_cache.specs.Shows.{SpellsContent, ShowsContent}
use Rattle.block_cache.specs.declared.fault.AttachFault as of_opening
use Rattle.block_cache.specs.declared.fault.AttachFault.TheVariants as opening
use Rattle.block_cache.specs.declared.fault.BlockFault as of_block
use Rattle.block_cache.specs.declared.fault.BlockFault.TheVariants as fault
use Rattle.volume_restore.specs.Damage.{IsFileFine, IsFirstOfFile, blocks_on}
use Rattle.volume_restore.specs.declared.list.ListFault.{ListFault}
use Rattle.volume_restore.specs.declared.list.ListFault.TheVariants.{Lost, Damaged, Failed, NoMemory}

-- the records that were read of a file
abbrev pub Records : Type 0
Records = BTreeMap (List ℕ) (List ℕ)

-- the value, if any, that was read of a key
abbrev pub value_in : Records → List ℕ → Option (List ℕ)
value_in records key = get (slice_cmp nat_cmp) records key

-- the records of a block were added
pub record HasAdded (block : KeyedBlock) (old new : Records) : Type 0 where
  pub added : (key : List ℕ) → IsSome (value_at block key) → value_in new key ≡ value_at block key
  pub others : (key : List ℕ) → value_at block key ≡ None → value_in new key ≡ value_in old key

-- The records are those of the first so many blocks of a file: each of these shows a content, and a key has the value that it has in what its block shows.
pub record AreRead (file blocks number : ℕ) (held : Held) (records : Records) : Type 0 where
  pub shown : (n : ℕ) → n < number → ShowsContent (record { file = file; number = n; blocks = blocks }) held
  pub read : (key : List ℕ) (content : KeyedBlock) → block_of key blocks < number → SpellsContent (record { file = file; number = block_of key blocks; blocks = blocks }) content held → value_in records key ≡ value_at content key
  pub left : (key : List ℕ) → number ≤ block_of key blocks → value_in records key ≡ None

-- a key of the file has the value in the map that it has in what its block shows
abbrev pub ShowsRecords : RecordMap → ℕ → ℕ → Held → Type 0
ShowsRecords map file blocks held =
    (key : List ℕ) (content : KeyedBlock) → SpellsContent (record { file = file; number = block_of key blocks; blocks = blocks }) content held → value_at content key ≡ map file key

-- The entries are the records of a file that its own blocks show, in the order of their keys.
pub record IsFileListing (config : Config) (volume file : ℕ) (held : Held) (entries : List (List ℕ × List ℕ)) : Type 0 where
  pub contents : Contents
  pub shown : (number : ℕ) → number < blocks_on config volume file → SpellsContent (record { file = file; number = number; blocks = blocks_on config volume file }) (contents file number) held
  pub listing : IsListing (map_of (files_on volume 1 config.files) contents) file entries

-- the blocks of a file before this one are fine
abbrev pub AreFine : ℕ → ℕ → ℕ → Held → Type 0
AreFine file blocks number held = (n : ℕ) → n < number → bad_data_in (record { file = file; number = n; blocks = blocks }) (held (1 + file)) ≡ None

-- the fault tells the first damage of a file's blocks, or none
abbrev pub TellsFile : ℕ → ℕ → Held → ListFault → Type 0
TellsFile file blocks held Lost = ⊥
TellsFile file blocks held (Damaged d) = IsFirstOfFile file blocks held d
TellsFile file blocks held Failed = Unit {0}
TellsFile file blocks held NoMemory = Unit {0}

-- the label of a volume is fine, and so is each block of the file on it
pub record IsFineFile (config : Config) (volume file : ℕ) (held : Held) : Type 0 where
  pub label : IsFineLabel (label_of config volume 1) held
  pub blocks : IsFileFine file (blocks_on config volume file) held

-- The fault tells why a file of a volume was not listed: no label stands, the label is damaged here first, or the label is fine and the file is
-- damaged here first.
abbrev pub TellsListing : Config → ℕ → ℕ → Held → ListFault → Type 0
TellsListing config volume file held Lost = IsLost held
TellsListing config volume file held (Damaged d) = TellsAttach (label_of config volume 1) held (opening.Damaged d) ⊎ (IsFineLabel (label_of config volume 1) held × IsFirstOfFile file (blocks_on config volume file) held d)
TellsListing config volume file held Failed = Unit {0}
TellsListing config volume file held NoMemory = Unit {0}

-- a device is told to have failed where its count of faults rose
abbrev pub ListCause : ℕ → ℕ → ListFault → Type 0
ListCause before now Lost = Unit {0}
ListCause before now (Damaged d) = Unit {0}
ListCause before now Failed = Rose before now
ListCause before now NoMemory = Unit {0}

-- what a fault of a block is to the listing of its file
abbrev pub list_fault : of_block.BlockFault → ListFault
list_fault fault.Failed = Failed
list_fault (fault.Damaged d) = Damaged d
list_fault fault.NoMemory = NoMemory

-- what a fault of the opening of a volume is to the listing of a file
abbrev pub opening_fault : of_opening.AttachFault → ListFault
opening_fault opening.Lost = Lost
opening_fault (opening.Damaged d) = Damaged d
opening_fault opening.Failed = Failed
opening_fault opening.NoMemory = NoMemory
