-- Where a volume's blocks are damaged first, file by file.
use Rattle.std.specs.Prelude.{◌≡◌, ℕ, ◌+◌, ◌<◌, None}
use Rattle.disk_model.specs.Held.{Held}
use Rattle.tmf_model.specs.declared.config.Config.{Config}
use Rattle.keyed_file.specs.Volume.{blocks_of, files_on}
use Rattle.trail_files.specs.declared.damage.Damage.{Damage}
use Rattle.block_cache.specs.Damage.{IsBadBlock, bad_data_in}
use Rattle.block_cache.specs.Shows.{ShowsContent}

-- how many blocks a file has on a volume
abbrev pub blocks_on : Config → ℕ → ℕ → ℕ
blocks_on config volume file = blocks_of (files_on volume 1 config.files) file

-- no block of a file is wrong
abbrev pub IsFileFine : ℕ → ℕ → Held → Type 0
IsFileFine file blocks image = (number : ℕ) → number < blocks → bad_data_in (record { file = file; number = number; blocks = blocks }) (image (1 + file)) ≡ None

-- each block of a file shows a content
abbrev pub ShowsFile : ℕ → ℕ → Held → Type 0
ShowsFile file blocks image = (number : ℕ) → number < blocks → ShowsContent (record { file = file; number = number; blocks = blocks }) image

-- The first block of a file that is wrong.
pub record IsFirstOfFile (file blocks : ℕ) (image : Held) (damage : Damage) : Type 0 where
  pub number : ℕ
  pub within : number < blocks
  pub before : (n : ℕ) → n < number → bad_data_in (record { file = file; number = n; blocks = blocks }) (image (1 + file)) ≡ None
  pub here : IsBadBlock (record { file = file; number = number; blocks = blocks }) image damage

-- No block of a volume is wrong, and each shows its content. The second says more: no law says of a device that its bytes are below 256, and those that were read are.
pub record AreBlocksFine (config : Config) (volume : ℕ) (image : Held) : Type 0 where
  pub fine : (file : ℕ) → IsFileFine file (blocks_on config volume file) image
  pub shown : (file number : ℕ) → number < blocks_on config volume file → ShowsContent (record { file = file; number = number; blocks = blocks_on config volume file }) image

-- The first block of a volume that is wrong.
pub record IsFirstBad (config : Config) (volume : ℕ) (image : Held) (damage : Damage) : Type 0 where
  pub file : ℕ
  pub first : IsFirstOfFile file (blocks_on config volume file) image damage
  pub before : (f : ℕ) → f < file → IsFileFine f (blocks_on config volume f) image
