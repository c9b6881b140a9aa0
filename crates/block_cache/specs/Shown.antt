-- What an image shows of a volume's blocks: of each pair the landed content, or the one under way where its selector was offered.
use Rattle.std.specs.Prelude.{ℕ, ◌+◌, ◌==◌, Bool, if◌then◌else◌, Option, Some, None, slice_index}
use Rattle.disk_model.specs.Held.{Held, File}
use Rattle.keyed_file.specs.Block.{KeyedBlock}
use Rattle.block_cache.specs.declared.frame.Frame.{Frame}
use Rattle.block_cache.specs.declared.pair.PairPhase.{PairPhase}
use Rattle.block_cache.specs.declared.pair.PairPhase.TheVariants.{Settled, Written, Offered}
use Rattle.block_cache.specs.Blocks.{View}
use Rattle.block_cache.specs.Cache.{entry_at}
use Rattle.keyed_file.specs.Layout.{selected_by}
use Rattle.keyed_file.specs.Volume.{Contents}

-- of a pair in this phase: the one under way where its selector was offered and names another slot
abbrev pub shown_pair : {A : Type 0} → PairPhase → Bool → A → A → A
shown_pair Settled same old new = old
shown_pair Written same old new = old
shown_pair Offered same old new = if same then old else new

-- a byte of a file, where it is there
abbrev pub byte_at : Option File → ℕ → ℕ
byte_at None at = 0
byte_at (Some file) at = slice_index file.bytes at

abbrev pub shown_entry : ℕ → Option Frame → KeyedBlock → KeyedBlock → KeyedBlock
shown_entry byte None old new = old
shown_entry byte (Some f) old new = shown_pair f.phase (selected_by byte == f.slot) old new

-- the contents that an image shows
abbrev pub shown_in : {D : Type 0} → Held → View D → Contents → Contents → Contents
shown_in image view landed next = λ file number. shown_entry (byte_at (image (1 + file)) number) (entry_at view.cache file number) (landed file number) (next file number)

-- the low position that an image shows
abbrev pub shown_low : {D : Type 0} → Held → View D → ℕ
shown_low image view = shown_pair view.label_phase (selected_by (byte_at (image 1) 1) == view.label_slot) view.label.low view.next_low
