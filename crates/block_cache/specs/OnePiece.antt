-- A data file that is read in one piece, and what a block shows in its bytes.
use Rattle.std.specs.Prelude.{◌≡◌, ℕ, ◌+◌, ◌≤◌, List, Option, Some, length, take}
use Rattle.disk_model.specs.Held.{Held, IsThere}
use Rattle.keyed_file.specs.declared.home.Home.{Home}
use Rattle.keyed_file.specs.Block.{KeyedBlock}
use Rattle.keyed_file.specs.BlockFormat.{block_text}
use Rattle.keyed_file.specs.Layout.{ShowsPair, block_pair, data_length}
use Rattle.keyed_file.specs.Volume.{IsContent}
use Rattle.trail_files.specs.declared.damage.DamageKind.TheVariants.{BadBlock}
use Rattle.block_cache.specs.declared.fault.BlockFault.{BlockFault}
use Rattle.block_cache.specs.declared.fault.BlockFault.TheVariants.{Failed, Damaged, NoMemory}

-- the block's data file is whole, and these are its bytes, as far as its blocks reach
abbrev pub AreFileBytes : Home → Held → List ℕ → Type 0
AreFileBytes home held bytes = IsThere held (1 + home.file) (λ f. (data_length home.blocks ≤ length f.bytes) × (bytes ≡ take (data_length home.blocks) f.bytes))

-- The slot that the block's selector names in the bytes of its data file spells this content, which may stand there.
pub record SpellsIn (home : Home) (content : KeyedBlock) (bytes : List ℕ) : Type 0 where
  pub valid : IsContent home.file home.blocks home.number content
  pub spelled : ShowsPair bytes (block_pair home.file home.number) (block_text content)

-- why no block was taken out of the bytes of its data file, in which it is wrong first here, if it is
abbrev pub TellsIn : Home → Option ℕ → BlockFault → Type 0
TellsIn home bad Failed = ⊥
TellsIn home bad (Damaged d) = (d.file ≡ 1 + home.file) × (d.kind ≡ BadBlock) × (bad ≡ Some d.at)
TellsIn home bad NoMemory = Unit {0}
