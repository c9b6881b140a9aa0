-- What a step of a draw keeps, and what a draw leaves that is done.
use Rattle.std.specs.Prelude.{◌≡◌, ◌≢◌, ◌⊎◌, ℕ, ◌+◌, ◌<◌, List, false, None, IsTrue}
use Rattle.disk_model.specs.Held.{Elsewhere, Held}
use Rattle.disk_model.specs.declared.disk.Disk as disk
use Rattle.keyed_file.specs.Block.{KeyedBlock}
use Rattle.keyed_file.specs.Volume.{blocks_of}
use Rattle.block_cache.specs.Blocks.{IfCached, IsBlocks, SameLabel, View, home_of}
use Rattle.block_cache.specs.Cache.{KeepsFrames}
use Rattle.block_cache.specs.Damage.{bad_data_in}
use Rattle.block_cache.specs.Rest.{KeepsRest}
use Rattle.block_cache.specs.Shows.{NamesSlot, SpellsContent}

-- each other block of the volume is wrong where it was, or nowhere
abbrev pub ReadsOthers : List (ℕ × ℕ) → ℕ → ℕ → Held → Held → Type 0
ReadsOthers files file number old new = (g n : ℕ) → n < blocks_of files g → (g ≢ file) ⊎ (n ≢ number)
    → bad_data_in (record { file = g; number = n; blocks = blocks_of files g }) (new (1 + g)) ≡ bad_data_in (record { file = g; number = n; blocks = blocks_of files g }) (old (1 + g))

-- the selector of each other block of the volume names the slot that it named
abbrev pub NamesOthers : List (ℕ × ℕ) → ℕ → ℕ → Held → Held → Type 0
NamesOthers files file number old new = (g n slot : ℕ) → n < blocks_of files g → (g ≢ file) ⊎ (n ≢ number)
    → NamesSlot (record { file = g; number = n; blocks = blocks_of files g }) slot old → NamesSlot (record { file = g; number = n; blocks = blocks_of files g }) slot new

-- each other block of the volume that shows a content still shows it
abbrev pub ShowsOthers : List (ℕ × ℕ) → ℕ → ℕ → Held → Held → Type 0
ShowsOthers files file number old new = (g n : ℕ) (content : KeyedBlock) → n < blocks_of files g → (g ≢ file) ⊎ (n ≢ number)
    → SpellsContent (record { file = g; number = n; blocks = blocks_of files g }) content old → SpellsContent (record { file = g; number = n; blocks = blocks_of files g }) content new

-- what is written is of one block's pair: each other file stays, and each other block shows what it showed, is wrong where it was, and has its slot named that was named before
pub record WritesPair (files : List (ℕ × ℕ)) (file number : ℕ) (old new : Held) : Type 0 where
  pub elsewhere : Elsewhere (1 + file) old new
  pub reads : ReadsOthers files file number old new
  pub names : NamesOthers files file number old new
  pub shows : ShowsOthers files file number old new

-- The block shows a content, the one in its frame where that was not put since its draw began. Nothing is wrong in the block, and where nothing was at risk of the
-- volume's own files, nothing is.
pub record EndsDraw {D : Type 0} (held : D → Held) (old new : View D) (file number : ℕ) : Type 0 where
  pub content : KeyedBlock
  pub shows : SpellsContent (home_of old file number) content (held new.device)
  pub latest : IfCached old.cache file number (λ f. f.dirty ≡ false → f.block ≡ content)
  pub fine : bad_data_in (home_of old file number) (held new.device (1 + file)) ≡ None
  pub rests : KeepsRest old.label (held old.device) (held new.device)

-- A step of a draw keeps the label's pair and the frame of each block, and writes the block's own pair alone.
pub record KeepsOthers {D : Type 0} (kind : disk.Ghosts D) (old new : View D) (file number : ℕ) : Type 0 where
  pub label : SameLabel old new
  pub frames : KeepsFrames old.cache new.cache
  pub valid : IsBlocks kind.tells kind.held new
  pub others : IsTrue (kind.tells old.device) → WritesPair old.label.files file number (kind.held old.device) (kind.held new.device)
