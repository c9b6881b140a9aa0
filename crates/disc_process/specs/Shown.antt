-- What the images of a volume show of its disc.
use Rattle.std.specs.Prelude.{◌≡◌, ◌⊎◌, ◌<◌, ℕ, Some, List}
use Rattle.disk_model.specs.Held.{Held, Leaves}
use Rattle.disk_model.specs.declared.disk.Disk as disk
use Rattle.tmf_model.specs.RecordMap.{RecordMap}
use Rattle.keyed_file.specs.Block.{value_at}
use Rattle.keyed_file.specs.Volume.{Contents, SpellsVolume}
use Rattle.block_cache.specs.Blocks.{with_low}
use Rattle.node_machine.specs.Made.{blocks_of, drawing, home_block, lowered, lowering, values_at, volume_of}
use Rattle.node_machine.specs.Parts.{DiscPart}
use Rattle.disc_process.specs.Disc.{DiscView, ToldBy, drawn_to}

-- the low position of the part, that which is written last, or that which is under way
abbrev pub MayBeLow : DiscPart → ℕ → Type 0
MayBeLow s low = (low ≡ lowered s.low s.events) ⊎ (lowering s.events ≡ Some low)

-- the position that the block has reached by its last draw, or that of the draw under way
abbrev pub MayBeDrawn : DiscPart → ℕ → ℕ → ℕ → Type 0
MayBeDrawn s f n position = (position ≡ drawn_to s f n) ⊎ (drawing s.events f n ≡ Some position)

-- The image is a volume with a low position of the part, and each block of it has, at all its keys, the values at one position that it may have reached.
pub record ShowsDisc {D : Type 0} (disc : DiscView D) (base : RecordMap) (image : Held) : Type 0 where
  pub low : ℕ
  pub low_is : MayBeLow disc.part low
  pub contents : Contents
  pub spells : SpellsVolume (with_low disc.blocks.label low) image contents
  pub values : (f n : ℕ) → volume_of disc.part.config f ≡ disc.part.number → n < blocks_of disc.part.config f
      → (position : ℕ) × MayBeDrawn disc.part f n position
      × ((k : List ℕ) → home_block disc.part.config f k ≡ n → value_at (contents f n) k ≡ values_at base disc.part.events position f k)

-- where the volume tells its values, each image of it shows the disc
abbrev pub IsShown : {D : Type 0} → disk.Ghosts D → DiscView D → Type 0
IsShown kind disc = ToldBy disc.part.base (λ base. (image : Held) → Leaves (kind.held disc.blocks.device) image → ShowsDisc disc base image)
