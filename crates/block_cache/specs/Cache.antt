-- A bounded cache of blocks: frames in the order of their last use.
use Rattle.std.specs.Prelude.{◌≡◌, ◌==◌, if◌then◌else◌, ◌≢◌, ◌⊎◌, ℕ, ◌+◌, ◌*◌, ◌<◌, ◌≤◌, Bool, true, false, not, ◌||◌, List, [], ◌∷◌, length, slice_get, find, reverse, Option, Some, None, nat_eq, nat_lt}
use Rattle.std.specs.Option.{option_and_then, option_map_or}
use Rattle.std.specs.List.{list_any}
use Rattle.keyed_file.specs.declared.home.Home.{Home}
use Rattle.keyed_file.specs.Block.{KeyedBlock, IsBlock}
use Rattle.keyed_file.specs.BlockFormat.{block_text, is_at_home}
use Rattle.block_cache.specs.declared.frame.Frame.{Frame}
use Rattle.block_cache.specs.declared.pair.PairPhase.{PairPhase}
use Rattle.block_cache.specs.declared.pair.PairPhase.TheVariants.{Settled, Written, Offered}

-- which frame has the block of each place, the frames, and their numbers in the order of their last use, the latest last
pub record CacheView : Type 0 where
  pub table : List (Option ℕ)
  pub frames : List Frame
  pub order : List ℕ

-- the place of a block among those of its volume
abbrev pub place_of : ℕ → ℕ → ℕ
place_of file number = 256 * file + number

-- the frame of the block at a place
abbrev pub frame_at : CacheView → ℕ → Option ℕ
frame_at cache place = option_and_then (λ frame. frame) (slice_get cache.table place)

-- the frame that holds a block, if one does
abbrev pub entry_at : CacheView → ℕ → ℕ → Option Frame
entry_at cache file number = option_and_then (λ frame. slice_get cache.frames frame) (frame_at cache (place_of file number))

-- the pair has one content
abbrev pub is_settled : PairPhase → Bool
is_settled Settled = true
is_settled Written = false
is_settled Offered = false

-- the block is to be drawn, or its draw is to be ended
abbrev pub is_dirty : Frame → Bool
is_dirty f = f.dirty || not (is_settled f.phase)

-- the block of a frame need not be drawn
abbrev pub is_clean : List Frame → ℕ → Bool
is_clean frames frame = option_map_or (λ f. not (is_dirty f)) (slice_get frames frame) false

-- the frame that gives way: the least recently used one of those whose block need not be drawn
abbrev pub victim_of : CacheView → Option ℕ
victim_of cache = find (is_clean cache.frames) cache.order

-- a frame without a block has nothing to draw
pub record IsFrame (f : Frame) : Type 0 where
  pub free : f.place ≡ None → is_dirty f ≡ false
  pub slot : f.slot < 2

-- The table and the frames agree, and each frame stands in the order of use.
pub record IsCache (cache : CacheView) : Type 0 where
  pub places : length cache.table ≡ 4352
  pub some : 0 < length cache.frames
  pub few : length cache.frames ≤ 4096
  pub each : (n : ℕ) (f : Frame) → slice_get cache.frames n ≡ Some f → IsFrame f
  pub held : (place n : ℕ) → frame_at cache place ≡ Some n → (f : Frame) × (slice_get cache.frames n ≡ Some f) × (f.place ≡ Some place)
  pub placed : (n : ℕ) (f : Frame) (place : ℕ) → slice_get cache.frames n ≡ Some f → f.place ≡ Some place → frame_at cache place ≡ Some n
  pub ordered : (n : ℕ) → list_any (nat_eq n) cache.order ≡ nat_lt n (length cache.frames)

-- one block's entry of the cache is this frame, and all else of the cache is as it was
pub record SetsEntry (old new : CacheView) (file number : ℕ) (f : Frame) : Type 0 where
  pub entry : entry_at new file number ≡ Some f
  pub others : (g n : ℕ) → n < 256 → (g ≢ file) ⊎ (n ≢ number) → entry_at new g n ≡ entry_at old g n

-- of each block the entry is as it was, or it is gone, and was of a block that need not be drawn
abbrev pub Evicts : CacheView → CacheView → Type 0
Evicts old new = (file number : ℕ) → number < 256 → (entry_at new file number ≡ entry_at old file number) ⊎ ((entry_at new file number ≡ None) × ((f : Frame) → entry_at old file number ≡ Some f → is_dirty f ≡ false))

-- the frames of a cache over so many blocks that may have so many: as many as there are blocks, if it may, and at least one
abbrev pub frames_of : ℕ → ℕ → ℕ
frames_of blocks cache = if blocks == 0 then 1 else (if nat_lt cache blocks then cache else blocks)

-- a frame that has the block which the bytes spell at a place, and nothing to draw
pub record IsTaken (home : Home) (slot : ℕ) (bytes : List ℕ) (f : Frame) : Type 0 where
  pub valid : IsBlock f.block
  pub at_home : is_at_home (Some home) f.block ≡ true
  pub spelled : bytes ≡ block_text f.block
  pub only : (block : KeyedBlock) → IsBlock block → is_at_home (Some home) block ≡ true → bytes ≡ block_text block → f.block ≡ block
  pub clean : f.dirty ≡ false
  pub settled : f.phase ≡ Settled
  pub slot_is : f.slot ≡ slot

-- a frame that has a content which is to be drawn, and whose pair is settled in a slot
pub record IsPlaced (slot : ℕ) (content : KeyedBlock) (f : Frame) : Type 0 where
  pub block : f.block ≡ content
  pub dirty : f.dirty ≡ true
  pub settled : f.phase ≡ Settled
  pub slot_is : f.slot ≡ slot

-- one block's entry is this frame; of each other block the entry is as it was, or it is gone, and was of a block that need not be drawn
pub record Replaces (old new : CacheView) (file number : ℕ) (f : Frame) : Type 0 where
  pub entry : entry_at new file number ≡ Some f
  pub others : (g n : ℕ) → n < 256 → (g ≢ file) ⊎ (n ≢ number) → (entry_at new g n ≡ entry_at old g n) ⊎ ((entry_at new g n ≡ None) × ((x : Frame) → entry_at old g n ≡ Some x → is_dirty x ≡ false))

-- the numbers without the first one that is n
abbrev pub remove_first : ℕ → List ℕ → List ℕ
remove_first n [] = []
remove_first n (m ∷ ms) = if nat_eq n m then ms else m ∷ remove_first n ms

-- the order of use, where a frame was used just now: it stands last, and of the others nothing changes
abbrev pub used_last : ℕ → List ℕ → List ℕ
used_last frame order = reverse (frame ∷ remove_first frame (reverse order))

-- Which frame serves a block, and which block gives way: a block that was in the cache keeps its frame, another one takes the frame that gives way. Each
-- other block keeps its frame, but the one that had the frame that gives way. The frame was used just now.
pub record Serves (old new : CacheView) (file number : ℕ) : Type 0 where
  pub frame : ℕ
  pub at : frame_at new (place_of file number) ≡ Some frame
  pub hit : (n : ℕ) → frame_at old (place_of file number) ≡ Some n → n ≡ frame
  pub missed : frame_at old (place_of file number) ≡ None → victim_of old ≡ Some frame
  pub others : (place : ℕ) → place ≢ place_of file number → frame_at old place ≢ Some frame → frame_at new place ≡ frame_at old place
  pub order : new.order ≡ used_last frame old.order

-- each block keeps its frame, and the order of use stays
pub record KeepsFrames (old new : CacheView) : Type 0 where
  pub table : new.table ≡ old.table
  pub order : new.order ≡ old.order

-- A block was loaded: where it was in the cache its entry stays, else its frame has nothing to draw. Of each other block the entry is as it was, or it is
-- gone, and was of a block that need not be drawn.
pub record Loads (old new : CacheView) (file number : ℕ) : Type 0 where
  pub stays : (f : Frame) → entry_at old file number ≡ Some f → entry_at new file number ≡ Some f
  pub fresh : entry_at old file number ≡ None → (f : Frame) → entry_at new file number ≡ Some f → is_dirty f ≡ false
  pub others : (g n : ℕ) → n < 256 → (g ≢ file) ⊎ (n ≢ number) → (entry_at new g n ≡ entry_at old g n) ⊎ ((entry_at new g n ≡ None) × ((x : Frame) → entry_at old g n ≡ Some x → is_dirty x ≡ false))
