-- Which blocks of a volume get another content, and what that makes of the volume.
use Rattle.std.specs.Prelude.{◌≡◌, ◌≢◌, ◌⊎◌, ℕ, ◌+◌, ◌<◌, true, List, slice_get, Some, None, IsTrue}
use Rattle.disk_model.specs.Held.{Held}
use Rattle.disk_model.specs.declared.disk.Disk as disk
use Rattle.tmf_model.specs.RecordMap.{RecordMap}
use Rattle.keyed_file.specs.declared.home.Home.{Home}
use Rattle.keyed_file.specs.Block.{KeyedBlock}
use Rattle.keyed_file.specs.BlockFormat.{is_at_home}
use Rattle.keyed_file.specs.Volume.{Contents, blocks_of}
use Rattle.block_cache.specs.declared.contents.Change.{Change}
use Rattle.block_cache.specs.Blocks.{Holds, IsBlocks, SameLabel, View}
use Rattle.block_cache.specs.Cache.{entry_at}
use Rattle.block_cache.specs.Damage.{bad_data_in}
use Rattle.block_cache.specs.Drawn.{WritesPair}
use Rattle.block_cache.specs.Rewrite.{AreContentsOf, IsContentOf}
use Rattle.block_cache.specs.Shows.{NamesSlot, SpellsContent}

-- this is said of each change in a row
abbrev pub Each : (Change → Type 0) → List Change → Type 0
Each P row = (i : ℕ) (change : Change) → slice_get row i ≡ Some change → P change

-- the home of a change, among the files of its volume
abbrev pub change_home : List (ℕ × ℕ) → Change → Home
change_home files change = record { file = change.n.file; number = change.n.number; blocks = blocks_of files change.n.file }

-- a change is of a block of the volume, and its content may stand there
pub record IsChange (files : List (ℕ × ℕ)) (change : Change) : Type 0 where
  pub within : change.n.number < blocks_of files change.n.file
  pub home : is_at_home (Some (change_home files change)) change.content ≡ true
  pub slot : change.slot < 2

-- each of a row is a change of another block
pub record AreChanges (files : List (ℕ × ℕ)) (row : List Change) : Type 0 where
  pub each : Each (IsChange files) row
  pub once : (i j : ℕ) (one other : Change) → slice_get row i ≡ Some one → slice_get row j ≡ Some other → one.n.file ≡ other.n.file → one.n.number ≡ other.n.number → i ≡ j

-- each change has the slot that its block's selector names
abbrev pub AreNamed : List (ℕ × ℕ) → List Change → Held → Type 0
AreNamed files row held = Each (λ change. NamesSlot (change_home files change) change.slot held) row

-- none of these changes is the block's
abbrev pub IsUnlisted : List Change → ℕ → ℕ → Type 0
IsUnlisted row file number = Each (λ change. ¬ ((change.n.file ≡ file) × (change.n.number ≡ number))) row

-- what the row gives is the map's, and each block that is not in it has that already
pub record MakeMap (map : RecordMap) (files : List (ℕ × ℕ)) (was : Contents) (row : List Change) : Type 0 where
  pub given : Each (λ change. IsContentOf map change.n.file (blocks_of files change.n.file) change.n.number change.content) row
  pub kept : (file number : ℕ) → number < blocks_of files file → IsUnlisted row file number → IsContentOf map file (blocks_of files file) number (was file number)

-- The volume holds contents of which each block has the map's.
pub record HoldsMap {D : Type 0} (held : D → Held) (view : View D) (map : RecordMap) : Type 0 where
  pub now : Contents
  pub later : Contents
  pub holds : Holds held view now later
  pub done : AreContentsOf view.label.files map now

-- each file is as it was but the label's and the data files of the blocks in the row
abbrev pub OffRow : List Change → Held → Held → Type 0
OffRow row old new = (q : ℕ) → q ≢ 1 → Each (λ change. q ≢ 1 + change.n.file) row → new q ≡ old q

-- nothing is wrong in a block that is in the row, or in which nothing was
abbrev pub AreFineBut : List (ℕ × ℕ) → List Change → Held → Held → Type 0
AreFineBut files row old new = (file number : ℕ) → number < blocks_of files file
    → (IsUnlisted row file number → bad_data_in (record { file = file; number = number; blocks = blocks_of files file }) (old (1 + file)) ≡ None)
    → bad_data_in (record { file = file; number = number; blocks = blocks_of files file }) (new (1 + file)) ≡ None

-- each block that is not in the row shows what it showed
abbrev pub ShowsUnlisted : List (ℕ × ℕ) → List Change → Held → Held → Type 0
ShowsUnlisted files row old new = (file number : ℕ) (content : KeyedBlock) → number < blocks_of files file → IsUnlisted row file number
    → SpellsContent (record { file = file; number = number; blocks = blocks_of files file }) content old → SpellsContent (record { file = file; number = number; blocks = blocks_of files file }) content new

-- Each block of the row shows the content that it was given, each other one what it showed; and nothing is wrong in a block that is in the row, or in which nothing was.
pub record ShowsRow (files : List (ℕ × ℕ)) (row : List Change) (old new : Held) : Type 0 where
  pub given : Each (λ change. SpellsContent (change_home files change) change.content new) row
  pub kept : ShowsUnlisted files row old new
  pub fine : AreFineBut files row old new

-- A call that gives a block another content keeps the label's pair and writes the block's own pair alone; no other block is in the cache that was not.
pub record ChangesBlock {D : Type 0} (kind : disk.Ghosts D) (old new : View D) (file number : ℕ) : Type 0 where
  pub label : SameLabel old new
  pub valid : IsBlocks kind.tells kind.held new
  pub others : IsTrue (kind.tells old.device) → WritesPair old.label.files file number (kind.held old.device) (kind.held new.device)
  pub uncached : (g n : ℕ) → n < blocks_of old.label.files g → (g ≢ file) ⊎ (n ≢ number) → entry_at old.cache g n ≡ None → entry_at new.cache g n ≡ None

-- A call that gives the blocks of a row other contents keeps the label's pair, and writes their data files alone.
pub record ChangesBlocks {D : Type 0} (kind : disk.Ghosts D) (old new : View D) (row : List Change) : Type 0 where
  pub label : SameLabel old new
  pub valid : IsBlocks kind.tells kind.held new
  pub others : IsTrue (kind.tells old.device) → OffRow row (kind.held old.device) (kind.held new.device)
