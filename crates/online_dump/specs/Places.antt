-- Where the blocks of a volume's files stand in the body of a dump.
use Rattle.std.specs.Prelude.{◌≡◌, ℕ, ◌+◌, ◌<◌, List}
use Rattle.keyed_file.specs.Dump.{blocks_before}
use Rattle.keyed_file.specs.Volume.{blocks_of}

-- the block is one of the files', and stands at this place
pub record StandsIn (files : List (ℕ × ℕ)) (place file block : ℕ) : Type 0 where
  pub within : block < blocks_of files file
  pub at : blocks_before files file + block ≡ place
