-- What a pair of slots holds between calls, in every image.
use Rattle.std.specs.Prelude.{◌≡◌, ℕ, ◌+◌, ◌-◌, ◌<◌, ◌≤◌, List, length, slice_index}
use Rattle.disk_model.specs.Held.{File}
use Rattle.trail_files.specs.Landed.{IsPinned}
use Rattle.keyed_file.specs.Layout.{Pair, IsSpelledAt, selected_by, slot_at}
use Rattle.block_cache.specs.declared.pair.PairPhase.{PairPhase}
use Rattle.block_cache.specs.declared.pair.PairPhase.TheVariants.{Settled, Written, Offered}

-- the text stands from an offset on, in every image
pub record StandsAt (file : File) (at : ℕ) (text : List ℕ) : Type 0 where
  pub within : at + length text ≤ length file.bytes
  pub spelled : IsSpelledAt file.bytes at text
  pub pinned : (i : ℕ) → at ≤ i → i < at + length text → IsPinned file i

-- the selector byte names the slot, in every image
pub record IsSelected (file : File) (at slot : ℕ) : Type 0 where
  pub pinned : IsPinned file at
  pub named : selected_by (slice_index file.bytes at) ≡ slot

-- the next content stands in its slot, where one was written
abbrev pub StandsNext : PairPhase → File → ℕ → ℕ → List ℕ → Type 0
StandsNext Settled file at size text = Unit {0}
StandsNext Written file at size text = (length text ≡ size) × StandsAt file at text
StandsNext Offered file at size text = (length text ≡ size) × StandsAt file at text

-- the selector names the slot, where it was not offered another
abbrev pub IsNamed : PairPhase → File → ℕ → ℕ → Type 0
IsNamed Settled file at slot = IsSelected file at slot
IsNamed Written file at slot = IsSelected file at slot
IsNamed Offered file at slot = Unit {0}

-- the pair's slot has the landed content, and its other one the next content, where that was written
pub record HoldsPair (file : File) (pair : Pair) (phase : PairPhase) (slot : ℕ) (old new : List ℕ) : Type 0 where
  pub is_slot : slot < 2
  pub size : length old ≡ pair.size
  pub landed : StandsAt file (slot_at pair slot) old
  pub next : StandsNext phase file (slot_at pair (1 - slot)) pair.size new
  pub named : IsNamed phase file pair.selector slot
