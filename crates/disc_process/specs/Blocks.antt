-- What a disc says of the blocks of its volume.
use Rattle.std.specs.Prelude.{◌≡◌, ◌≢◌, ◌⊎◌, ℕ, ◌<◌, ◌-◌, Bool, true, false, List, Option, Some, None, slice_get, unwrap_or}
use Rattle.std.specs.Option.{option_map}
use Rattle.keyed_file.specs.Block.{KeyedBlock, has_key}
use Rattle.keyed_file.specs.Search.{with_record}
use Rattle.keyed_file.specs.Volume.{Contents}
use Rattle.tmf_model.specs.Place.{block_of}
use Rattle.block_cache.specs.declared.frame.Frame.{Frame}
use Rattle.block_cache.specs.declared.pair.PairPhase.TheVariants.{Offered, Settled, Written}
use Rattle.block_cache.specs.Blocks.{View, is_changed, is_half_drawn}
use Rattle.block_cache.specs.Cache.{CacheView, KeepsFrames, entry_at, frame_at, place_of, victim_of}

-- the block that is in the cache
abbrev pub cached : {D : Type 0} → View D → ℕ → ℕ → Option KeyedBlock
cached view file number = option_map (λ f. f.block) (entry_at view.cache file number)

-- the content of a block: what was last put, or else what has landed
abbrev pub content : {D : Type 0} → View D → Contents → ℕ → ℕ → KeyedBlock
content view landed file number = unwrap_or (cached view file number) (landed file number)

-- the keys of the block live in it, among so many blocks of its file
abbrev pub IsHome : ℕ → ℕ → KeyedBlock → Type 0
IsHome blocks number block = (key : List ℕ) → has_key block key ≡ true → block_of key blocks ≡ number

-- the block with a change
abbrev pub with_change : List ℕ → Option (List ℕ) → ℕ → KeyedBlock → KeyedBlock
with_change key value position block = record block { records = with_record key value block.records; position = position }

-- its position, whether it is to be drawn, and whether its draw is half done; what is not in the cache is neither
abbrev pub position_in : Option Frame → ℕ
position_in None = 0
position_in (Some f) = f.block.position

abbrev pub dirty_in : Option Frame → Bool
dirty_in entry = is_changed entry

abbrev pub half_in : Option Frame → Bool
half_in entry = is_half_drawn entry

-- it is as far drawn as before
pub record SameDraws (old new : Option Frame) : Type 0 where
  pub dirty : dirty_in new ≡ dirty_in old
  pub half : half_in new ≡ half_in old
  pub position : dirty_in old ≡ true → position_in new ≡ position_in old

-- the frame of a block with a change, which is then to be drawn
abbrev pub set_in : List ℕ → Option (List ℕ) → ℕ → Frame → Frame
set_in key value position f = record f { block = with_change key value position f.block; dirty = true }

-- as its body is written, and as its selector is
abbrev pub begun_in : Frame → Frame
begun_in f = record f { dirty = false; phase = Written }

abbrev pub ended_in : Frame → Frame
ended_in f = record f { phase = Settled; slot = 1 - f.slot }

-- whose selector may name either slot
abbrev pub offered_in : Frame → Frame
offered_in f = record f { phase = Offered }

-- one entry of the cache was changed, and nothing else
pub record HasMarked {D : Type 0} (old new : View D) (file number : ℕ) (change : Frame → Frame) : Type 0 where
  pub entry : entry_at new.cache file number ≡ option_map change (entry_at old.cache file number)
  pub others : (g n : ℕ) → n < 256 → (g ≢ file) ⊎ (n ≢ number) → entry_at new.cache g n ≡ entry_at old.cache g n
  pub label : new.label ≡ old.label
  pub frames : KeepsFrames old.cache new.cache

-- each block has the content that it had, and each but this one is as far drawn; the frames and the label are as before
pub record KeepsContents {D : Type 0} (old new : View D) (file number : ℕ) : Type 0 where
  pub content : cached new file number ≡ cached old file number
  pub others : (g n : ℕ) → n < 256 → (g ≢ file) ⊎ (n ≢ number) → entry_at new.cache g n ≡ entry_at old.cache g n
  pub label : new.label ≡ old.label
  pub frames : KeepsFrames old.cache new.cache

-- the block is as it was, or a draw of it is under way
abbrev pub IsHeldUp : Option Frame → Option Frame → Type 0
IsHeldUp old new = (new ≡ old) ⊎ (half_in new ≡ true)

-- the first, or where there is none the second
abbrev pub or_else : Option ℕ → Option ℕ → Option ℕ
or_else (Some n) other = Some n
or_else None other = other

-- The frame that gives way for a block which no frame has: that of the least recently used block which need not be drawn, or where there is none, of the least
-- recently used one, which is drawn first. A frame without a block may give way, too.
abbrev pub frame_giving_way : CacheView → Option ℕ
frame_giving_way cache = or_else (victim_of cache) (slice_get cache.order 0)

-- a block has gone from the cache, where another one was to be brought in, which no frame had: the frame that gives way had it
pub record HasGivenWay {D : Type 0} (old new : View D) (file number gone_file gone_number : ℕ) : Type 0 where
  pub gone : cached new gone_file gone_number ≡ None
  pub missed : frame_at old.cache (place_of file number) ≡ None
  pub frame : frame_at old.cache (place_of gone_file gone_number) ≡ frame_giving_way old.cache

-- each block but this one is in the cache as it was, or has given way where this one was to be brought in
abbrev pub KeepsOtherBlocks : {D : Type 0} → View D → View D → ℕ → ℕ → Type 0
KeepsOtherBlocks old new file number = (g n : ℕ) → n < 256 → (g ≢ file) ⊎ (n ≢ number) → (cached new g n ≡ cached old g n) ⊎ HasGivenWay old new file number g n

-- the cache has each block that it had
abbrev pub SameCached : {D : Type 0} → View D → View D → Type 0
SameCached old new = (file number : ℕ) → number < 256 → cached new file number ≡ cached old file number

-- A block may have been brought into the cache: it was not there, or is as it was. Each other one is as it was, or has given way where it was to be brought in.
pub record BringsIn {D : Type 0} (old new : View D) (file number : ℕ) : Type 0 where
  pub was : number < 256 → (cached old file number ≡ None) ⊎ (cached new file number ≡ cached old file number)
  pub others : KeepsOtherBlocks old new file number
