-- What stands on a volume's device, or on a dump device, that was made anew.
use Rattle.std.specs.Prelude.{◌≡◌, ℕ, List, [], length, slice_get, Some, None}
use Rattle.disk_model.specs.Held.{Held}
use Rattle.tmf_model.specs.Config.{IsWithin}
use Rattle.keyed_file.specs.Block.{KeyedBlock}
use Rattle.keyed_file.specs.Volume.{Contents}
use Rattle.block_cache.specs.declared.contents.FileContents.{FileContents}

-- blocks without records
abbrev pub empty_contents : Contents
empty_contents = λ file number. record { file = file; number = number; position = 0; records = [] }

-- a file is given so many blocks without records, each in its place
pub record IsEmptyFile (file blocks : ℕ) (one : FileContents) : Type 0 where
  pub file_is : one.file ≡ file
  pub count : length one.blocks ≡ blocks
  pub each : (number : ℕ) (content : KeyedBlock) → slice_get one.blocks number ≡ Some content → content ≡ empty_contents file number

-- so is each of a label's files, in their order
pub record AreEmptyFiles (files : List (ℕ × ℕ)) (given : List FileContents) : Type 0 where
  pub count : length given ≡ length files
  pub each : (n : ℕ) (f : ℕ × ℕ) (one : FileContents) → slice_get files n ≡ Some f → slice_get given n ≡ Some one → IsEmptyFile f.0 f.1 one

-- no dump label stands, nor any body of a dump
abbrev pub IsCleared : Held → Type 0
IsCleared held = (file : ℕ) → IsWithin 1 3 file → held file ≡ None

-- the device has no file
abbrev pub IsEmptied : Held → Type 0
IsEmptied held = (file : ℕ) → held file ≡ None
