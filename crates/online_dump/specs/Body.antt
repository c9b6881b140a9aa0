-- The body of a dump while it is written.
use Rattle.std.specs.Prelude.{◌≡◌, ℕ, ◌*◌, ◌<◌, List, [], ◌∷◌, length}
use Rattle.disk_model.specs.Held.{File}
use Rattle.keyed_file.specs.declared.block.TheConstants.{BLOCK_BYTES}
use Rattle.trail_files.specs.Landed.{IsSettled}

-- so many blocks are written, of these bytes, and the file ends behind them; a new file has one byte
pub record IsBodySoFar (blocks : ℕ) (text : List ℕ) (file : File) : Type 0 where
  pub long : length text ≡ blocks * BLOCK_BYTES
  pub begun : blocks ≡ 0 → file.bytes ≡ 0 ∷ []
  pub written : 0 < blocks → file.bytes ≡ text

-- it has these bytes, if there are any, and nothing of it is at risk
pub record IsWholeBody (text : List ℕ) (file : File) : Type 0 where
  pub bytes : 0 < length text → file.bytes ≡ text
  pub settled : IsSettled file
