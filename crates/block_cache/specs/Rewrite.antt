-- What a rewriting makes of a volume's blocks, at each of its moments.
use Rattle.std.specs.Prelude.{◌≡◌, ◌⊎◌, ℕ, ◌<◌, true, false, slice_get, List, Some}
use Rattle.disk_model.specs.Held.{Held, Leaves}
use Rattle.tmf_model.specs.Place.{block_of}
use Rattle.tmf_model.specs.RecordMap.{RecordMap}
use Rattle.keyed_file.specs.declared.label.Label.{Label}
use Rattle.keyed_file.specs.Block.{KeyedBlock, value_at}
use Rattle.keyed_file.specs.BlockFormat.{is_at_home}
use Rattle.keyed_file.specs.Volume.{Contents, SpellsVolume, blocks_of}
use Rattle.block_cache.specs.declared.frame.Frame.{Frame}
use Rattle.block_cache.specs.Blocks.{View, with_low}
use Rattle.block_cache.specs.Cache.{CacheView, entry_at, is_dirty}

-- the content has at each key of its block the value of the map
abbrev pub IsContentOf : RecordMap → ℕ → ℕ → ℕ → KeyedBlock → Type 0
IsContentOf map file blocks number content = (key : List ℕ) → block_of key blocks ≡ number → value_at content key ≡ map file key

-- each block has what it had, or the content of the map
abbrev pub AreMixed : List (ℕ × ℕ) → Contents → RecordMap → Contents → Type 0
AreMixed files was map shown = (file number : ℕ) → number < blocks_of files file → (shown file number ≡ was file number) ⊎ IsContentOf map file (blocks_of files file) number (shown file number)

-- each block has the content of the map
abbrev pub AreContentsOf : List (ℕ × ℕ) → RecordMap → Contents → Type 0
AreContentsOf files map contents = (file number : ℕ) → number < blocks_of files file → IsContentOf map file (blocks_of files file) number (contents file number)

-- no block in the cache is to be drawn
abbrev pub IsCalm : CacheView → Type 0
IsCalm cache = (file number : ℕ) (f : Frame) → number < 256 → entry_at cache file number ≡ Some f → is_dirty f ≡ false

-- each block has what has landed, but for one, which may have this content
abbrev pub ShowsEither : List (ℕ × ℕ) → Contents → ℕ → ℕ → KeyedBlock → Contents → Type 0
ShowsEither files landed file number content shown =
    (g n : ℕ) → n < blocks_of files g → (shown g n ≡ landed g n) ⊎ ((g ≡ file) × (n ≡ number) × (shown g n ≡ content))

-- every image of the volume has its label, and contents of which this is said
abbrev pub EveryShows : {D : Type 0} → (D → Held) → View D → (Contents → Type 0) → Type 0
EveryShows held view P = (image : Held) → Leaves (held view.device) image → (shown : Contents) × SpellsVolume view.label image shown × P shown

-- every image of the volume has the label with its low position or this one, and the contents that have landed
abbrev pub EveryLowers : {D : Type 0} → (D → Held) → View D → Label → ℕ → Contents → Type 0
EveryLowers held view label low landed = (image : Held) → Leaves (held view.device) image
    → (at : ℕ) × (shown : Contents) × SpellsVolume (with_low label at) image shown × ((at ≡ label.low) ⊎ (at ≡ low))
    × ((file number : ℕ) → number < blocks_of label.files file → shown file number ≡ landed file number)

-- each lives in its block
abbrev pub AreAtHome : ℕ → ℕ → List KeyedBlock → Type 0
AreAtHome file blocks contents = (number : ℕ) (content : KeyedBlock) → slice_get contents number ≡ Some content → is_at_home (Some (record { file = file; number = number; blocks = blocks })) content ≡ true
