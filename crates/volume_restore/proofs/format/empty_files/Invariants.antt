use Rattle.std.proofs.Common.{◌≡◌, ◌≤◌, ℕ, Some, length}
use Rattle.std.specs.Prelude.{slice_get, vec_capacity}
use Rattle.block_cache.specs.declared.contents.FileContents.{FileContents}
use Rattle.volume_restore.specs.Formatted.{IsEmptyFile}
use Rattle.volume_restore.proofs.format.empty_files.Given as goal

abbrev pub invariant-loop-file : goal.invariant-loop-file
invariant-loop-file l = record {
  count : length l.given.items ≡ l.file-index;
  room : length l.files ≤ vec_capacity l.given;
  each : (n : ℕ) (one : FileContents) → slice_get l.given.items n ≡ Some one → (f : ℕ × ℕ) → slice_get l.files n ≡ Some f → IsEmptyFile f.0 f.1 one;
}
