-- What the blocks of a volume are once it is opened.
use Rattle.std.specs.Prelude.{◌≡◌, ℕ, Bool, length, None}
use Rattle.disk_model.specs.Held.{Held, IsThere}
use Rattle.tmf_model.specs.declared.config.Config.{Config}
use Rattle.keyed_file.specs.Dump.{blocks_in_all}
use Rattle.keyed_file.specs.declared.label.Label.{Label}
use Rattle.keyed_file.specs.Volume.{Contents, SpellsLabel, SpellsVolume, label_of}
use Rattle.block_cache.specs.declared.pair.PairPhase.TheVariants.{Settled}
use Rattle.block_cache.specs.Blocks.{Holds, IsBlocks, View}
use Rattle.block_cache.specs.Cache.{entry_at, frames_of}
use Rattle.block_cache.specs.LabelDamage.{IsFineLabel}
use Rattle.block_cache.specs.Volume.{RestsFor}

-- the label is the volume's, with some low position, and its pair is settled; no block is in the cache, which has its frames
pub record IsOpened {D : Type 0} (tells : D → Bool) (held : D → Held) (config : Config) (volume cache : ℕ) (view : View D) : Type 0 where
  pub label : view.label ≡ label_of config volume view.label.low
  pub settled : view.label_phase ≡ Settled
  pub empty : (file number : ℕ) → entry_at view.cache file number ≡ None
  pub room : length view.cache.frames ≡ frames_of (blocks_in_all view.label.files) cache
  pub valid : IsBlocks tells held view

-- The label stands on the device, and nothing of it is wrong. Where the volume's files are at rest and spell contents, they have landed.
pub record StandsOpened {D : Type 0} (held : D → Held) (wanted : Label) (view : View D) : Type 0 where
  pub spelled : IsThere (held view.device) 1 (λ f. SpellsLabel view.label f.bytes)
  pub fine : IsFineLabel wanted (held view.device)
  pub holds : (contents : Contents) → SpellsVolume view.label (held view.device) contents → RestsFor view.label (held view.device) → Holds held view contents contents
