-- What a block shows that is read.
use Rattle.std.specs.Prelude.{◌≡◌, ℕ, ◌+◌, ◌≤◌, length, slice_index}
use Rattle.disk_model.specs.Held.{Held, IsThere}
use Rattle.keyed_file.specs.declared.home.Home.{Home}
use Rattle.keyed_file.specs.Block.{KeyedBlock}
use Rattle.keyed_file.specs.BlockFormat.{block_text}
use Rattle.keyed_file.specs.Layout.{ShowsPair, block_pair, data_length, selected_by}
use Rattle.keyed_file.specs.Volume.{IsContent}

-- The data file is whole, and the slot that a block's selector names spells this content, which may stand there.
pub record SpellsContent (home : Home) (content : KeyedBlock) (held : Held) : Type 0 where
  pub valid : IsContent home.file home.blocks home.number content
  pub spelled : IsThere held (1 + home.file) (λ f. (data_length home.blocks ≤ length f.bytes) × ShowsPair f.bytes (block_pair home.file home.number) (block_text content))

-- a block shows some content
abbrev pub ShowsContent : Home → Held → Type 0
ShowsContent home held = (content : KeyedBlock) × SpellsContent home content held

-- the data file of a block is whole, and the block's selector names this slot
abbrev pub NamesSlot : Home → ℕ → Held → Type 0
NamesSlot home slot held = IsThere held (1 + home.file) (λ f. (data_length home.blocks ≤ length f.bytes) × (slot ≡ selected_by (slice_index f.bytes home.number)))
