-- What the copy of a block says.
use Rattle.std.specs.Prelude.{◌≡◌, ℕ, ◌+◌, true, List, Some}
use Rattle.keyed_file.specs.Block.{IsBlock, KeyedBlock, value_at}
use Rattle.keyed_file.specs.BlockFormat.{block_text, is_at_home}
use Rattle.block_cache.specs.Blocks.{InCache}
use Rattle.node_machine.specs.Made.{blocks_of, home_block, next_position, values_after}
use Rattle.disc_process.specs.Disc.{DiscView, ToldBy}

-- The bytes spell the block as it is in the cache, after all records of the disc, of which the last has this position. It is a block, and stands at its
-- place: it has the number of its file and its own, and its keys live there. Where the volume tells its values, each key of the block has the value
-- after all records.
pub record HasCopied {D : Type 0} (disc : DiscView D) (f n : ℕ) (bytes : List ℕ) (position : ℕ) : Type 0 where
  pub last : position + 1 ≡ next_position disc.part
  pub block : KeyedBlock
  pub cached : InCache disc.blocks.cache f n (λ x. x.block ≡ block)
  pub valid : IsBlock block
  pub home : is_at_home (Some (record { file = f; number = n; blocks = blocks_of disc.part.config f })) block ≡ true
  pub spelled : bytes ≡ block_text block
  pub values : ToldBy disc.part.base (λ base. (k : List ℕ) → home_block disc.part.config f k ≡ n → value_at block k ≡ values_after base disc.part.events f k)
