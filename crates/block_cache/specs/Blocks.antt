-- What the blocks of a volume hold: on its device, in every image, and in the cache over it.
use Rattle.std.specs.Prelude.{◌≡◌, ◌⊎◌, ℕ, ◌+◌, ◌-◌, ◌<◌, ◌≤◌, ◌==◌, ◌&&◌, Bool, true, false, not, if◌then◌else◌, List, [], ◌∷◌, length, Option, Some, None, IsTrue}
use Rattle.disk_model.specs.Frame.{IsLater}
use Rattle.disk_model.specs.Held.{Held, File, IsThere, Elsewhere}
use Rattle.disk_model.specs.declared.disk.Disk as disk
use Rattle.keyed_file.specs.declared.home.Home.{Home}
use Rattle.keyed_file.specs.declared.label.Label.{Label}
use Rattle.keyed_file.specs.Block.{KeyedBlock}
use Rattle.keyed_file.specs.BlockFormat.{block_text, is_at_home}
use Rattle.keyed_file.specs.LabelFormat.{IsLabel, label_text}
use Rattle.tmf_model.specs.Config.{IsWithin}
use Rattle.block_cache.specs.declared.frame.Frame.{Frame}
use Rattle.keyed_file.specs.Layout.{Pair, IsSpelledAt, block_pair, label_pair, label_length, data_length, slot_at}
use Rattle.block_cache.specs.declared.pair.PairPhase.{PairPhase}
use Rattle.block_cache.specs.declared.pair.PairPhase.TheVariants.{Settled, Written, Offered}
use Rattle.block_cache.specs.Cache.{CacheView, IsCache, Loads, Serves, entry_at, is_settled}
use Rattle.block_cache.specs.Pairs.{StandsAt, HoldsPair}
use Rattle.keyed_file.specs.Volume.{Contents, IsContent, blocks_of}

-- what callers see of a volume's blocks
pub record View (D : Type 0) : Type 0 where
  pub device : D
  -- the label that has landed, in this slot of its pair, and how the pair stands
  pub label : Label
  pub label_slot : ℕ
  pub label_phase : PairPhase
  -- the low position under way, where one is
  pub next_low : ℕ
  pub cache : CacheView

-- the home of a block, among those of the volume's label
abbrev pub home_of : {D : Type 0} → View D → ℕ → ℕ → Home
home_of view file number = record { file = file; number = number; blocks = blocks_of view.label.files file }

-- the label with another low position
abbrev pub with_low : Label → ℕ → Label
with_low label low = record label { low = low }

-- the contents with another one in one block
abbrev pub with_content : Contents → ℕ → ℕ → KeyedBlock → Contents
with_content contents file number content = λ f n. if (f == file) && (n == number) then content else contents f n

-- what holds of each cached block: it is one of the volume's, and its keys live in it
pub record IsCached (files : List (ℕ × ℕ)) (file number : ℕ) (f : Frame) : Type 0 where
  pub within : number < blocks_of files file
  pub home : is_at_home (Some (record { file = file; number = number; blocks = blocks_of files file })) f.block ≡ true

-- The other slot of a block's pair spells a content that may stand there: the one in the frame, where that was not put since.
pub record IsNextContent (files : List (ℕ × ℕ)) (file number : ℕ) (f : Frame) (bytes : List ℕ) : Type 0 where
  pub content : KeyedBlock
  pub valid : IsContent file (blocks_of files file) number content
  pub spelled : IsSpelledAt bytes (slot_at (block_pair file number) (1 - f.slot)) (block_text content)
  pub latest : f.dirty ≡ false → f.block ≡ content

-- What holds of the blocks of each volume. Where the device tells what it holds, the calls write within its files, and the next content of a block that is half
-- drawn is there.
pub record IsBlocks {D : Type 0} (tells : D → Bool) (held : D → Held) (view : View D) : Type 0 where
  pub label : IsLabel view.label
  pub slot : view.label_slot < 2
  pub next_low : IsWithin 1 4611686018427387904 view.next_low
  pub frames : IsCache view.cache
  pub cached : (file number : ℕ) (f : Frame) → number < 256 → entry_at view.cache file number ≡ Some f → IsCached view.label.files file number f
  pub label_there : IsTrue (tells view.device) → IsThere (held view.device) 1 (λ f. label_length ≤ length f.bytes)
  pub file_there : IsTrue (tells view.device) → (file number : ℕ) (f : Frame) → number < 256 → entry_at view.cache file number ≡ Some f
      → IsThere (held view.device) (1 + file) (λ d. data_length (blocks_of view.label.files file) ≤ length d.bytes)
  pub next_there : IsTrue (tells view.device) → (file number : ℕ) (f : Frame) → number < 256 → entry_at view.cache file number ≡ Some f → is_settled f.phase ≡ false
      → IsThere (held view.device) (1 + file) (λ d. IsNextContent view.label.files file number f d.bytes)

-- The label's file is whole and its gate is open, and its pair has the landed label and the next one, in every image.
pub record HoldsLabel (old : Label) (slot : ℕ) (phase : PairPhase) (low : ℕ) (file : File) : Type 0 where
  pub whole : label_length ≤ file.synced
  pub sound : file.synced ≤ length file.bytes
  pub gate : StandsAt file 0 (1 ∷ [])
  pub pair : HoldsPair file label_pair phase slot (label_text old) (label_text (with_low old low))

-- the content that was written last
abbrev pub newest : {A : Type 0} → PairPhase → A → A → A
newest Settled old new = old
newest Written old new = new
newest Offered old new = new

-- The pair of a block has its landed content and, where it is half drawn, the next one. A block in the cache that was not put since
-- has the one that was written last.
abbrev pub HoldsEntry : File → Pair → Option Frame → KeyedBlock → KeyedBlock → Type 0
HoldsEntry file pair None old new = (slot : ℕ) × HoldsPair file pair Settled slot (block_text old) (block_text new)
HoldsEntry file pair (Some f) old new = HoldsPair file pair f.phase f.slot (block_text old) (block_text new) × (f.dirty ≡ false → f.block ≡ newest f.phase old new)

-- The data file is whole, and each of its blocks has its landed content and the one under way, in every image.
pub record HoldsFile (cache : CacheView) (landed next : Contents) (file blocks : ℕ) (f : File) : Type 0 where
  pub whole : data_length blocks ≤ f.synced
  pub sound : f.synced ≤ length f.bytes
  pub each : (number : ℕ) → number < blocks → HoldsEntry f (block_pair file number) (entry_at cache file number) (landed file number) (next file number)

-- The device holds these landed contents, and these contents under way where blocks are half drawn.
pub record Holds {D : Type 0} (held : D → Held) (view : View D) (landed next : Contents) : Type 0 where
  pub label_file : IsThere (held view.device) 1 (HoldsLabel view.label view.label_slot view.label_phase view.next_low)
  pub files : (file : ℕ) → 0 < blocks_of view.label.files file → IsThere (held view.device) (1 + file) (HoldsFile view.cache landed next file (blocks_of view.label.files file))
  pub are_contents : (file number : ℕ) → number < blocks_of view.label.files file → IsContent file (blocks_of view.label.files file) number (landed file number)
  pub are_next : (file number : ℕ) → number < blocks_of view.label.files file → IsContent file (blocks_of view.label.files file) number (next file number)

-- the content of a block: what was last put, or else what has landed
abbrev pub content_in : Option Frame → KeyedBlock → KeyedBlock
content_in None old = old
content_in (Some f) old = f.block

-- what an image may show where a pair stands so
abbrev pub MayShow : {A : Type 0} → PairPhase → A → A → A → Type 0
MayShow Settled old new shown = shown ≡ old
MayShow Written old new shown = shown ≡ old
MayShow Offered old new shown = (shown ≡ old) ⊎ (shown ≡ new)

-- what an image may show of a block
abbrev pub MayShowEntry : Option Frame → KeyedBlock → KeyedBlock → KeyedBlock → Type 0
MayShowEntry None old new shown = shown ≡ old
MayShowEntry (Some f) old new shown = MayShow f.phase old new shown

-- an image shows the landed content of each block or, where its selector was offered the other slot, the one under way
abbrev pub MayShowContents : {D : Type 0} → View D → Contents → Contents → Contents → Type 0
MayShowContents view landed next shown = (file number : ℕ) → number < blocks_of view.label.files file → MayShowEntry (entry_at view.cache file number) (landed file number) (next file number) (shown file number)

-- the block is in the cache, and this is said of its frame
abbrev pub InCache : CacheView → ℕ → ℕ → (Frame → Type 0) → Type 0
InCache cache file number P = (number < 256) × ((f : Frame) × (entry_at cache file number ≡ Some f) × P f)

-- this is said of the frame of the block, where it is in the cache
abbrev pub IfCached : CacheView → ℕ → ℕ → (Frame → Type 0) → Type 0
IfCached cache file number P = (f : Frame) → entry_at cache file number ≡ Some f → P f

-- the label's pair stands as before
pub record SameLabel {D : Type 0} (old new : View D) : Type 0 where
  pub same : new.label ≡ old.label
  pub slot : new.label_slot ≡ old.label_slot
  pub phase : new.label_phase ≡ old.label_phase
  pub low : new.next_low ≡ old.next_low

-- A call that only reads keeps the device, what it holds, and the label's pair.
pub record OnlyReads {D : Type 0} (kind : disk.Ghosts D) (old new : View D) : Type 0 where
  pub works : IsLater kind old.device new.device
  pub same : kind.held new.device ≡ kind.held old.device
  pub label : SameLabel old new
  pub valid : IsBlocks kind.tells kind.held new

-- A call that moves the low position keeps the cache, and writes the label's file alone.
pub record WritesLabel {D : Type 0} (kind : disk.Ghosts D) (old new : View D) : Type 0 where
  pub cache : new.cache ≡ old.cache
  pub valid : IsBlocks kind.tells kind.held new
  pub others : IsTrue (kind.tells old.device) → Elsewhere 1 (kind.held old.device) (kind.held new.device)

-- The block is in the cache, in the frame that serves it; what becomes of the other entries is told too.
pub record IsLoaded (old new : CacheView) (file number : ℕ) : Type 0 where
  pub there : InCache new file number (λ f. Unit {0})
  pub loads : Loads old new file number
  pub serves : Serves old new file number

-- whether a block was put since its content was written last
abbrev pub is_changed : Option Frame → Bool
is_changed None = false
is_changed (Some f) = f.dirty

-- whether a block's next content is written, and its selector has not named it yet
abbrev pub is_half_drawn : Option Frame → Bool
is_half_drawn None = false
is_half_drawn (Some f) = not (is_settled f.phase)
