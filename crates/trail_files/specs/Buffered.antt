-- What a device keeps of the files that it reads in large pieces.
use Rattle.std.specs.Prelude.{◌≡◌, ℕ, ◌≤◌, Bool, List, length, take, IsTrue}
use Rattle.disk_model.specs.Held.{Held, read_of}
use Rattle.trail_files.specs.declared.buffered.Piece.{Piece}

-- The front of the buffer is this piece of a file, where the device tells what it holds.
pub record IsPiece {D : Type 0} (tells : D → Bool) (held : D → Held) (device : D) (buffer : List ℕ) (piece : Piece) : Type 0 where
  pub within : piece.len ≤ length buffer
  pub has : IsTrue (tells device) → take piece.len buffer ≡ read_of (held device piece.file) piece.at piece.len
