-- The files of a label have numbers up to 16, and up to 256 blocks.
use Rattle.std.proofs.Common.{◌≡◌, ℕ, suc, ◌+◌, ◌*◌, ◌<◌, ◌≤◌, true, false, List, [], ◌∷◌, length, get_or, drop, refl, ap, arith, eqb-true}
use Rattle.std.proofs.Math.Seq.{drop-cons}
use Rattle.std.specs.Prelude.{nat_eq, nat_lt, ◌&&◌}
use Rattle.std.proofs.lemmas.Bool.Decides.{nat_tests}
use Rattle.tmf_model.specs.Transid.{is_between}
use Rattle.keyed_file.specs.declared.label.Label.{Label}
use Rattle.keyed_file.specs.Dump.{blocks_in_all}
use Rattle.keyed_file.specs.LabelFormat.{IsLabel, file_row}
use Rattle.keyed_file.specs.Row.{IsRow}
use Rattle.keyed_file.specs.Volume.{blocks_of}

fits_small : (previous file blocks : ℕ) → (nat_lt previous file && is_between 1 16 file) && is_between 1 256 blocks ≡ true → (1 ≤ file) × (file ≤ 16) × (blocks ≤ 256)
fits_small previous file blocks fits = (grind (arith, nat_tests), grind (arith, nat_tests), grind (arith, nat_tests))

row_small : (previous file : ℕ) (files : List (ℕ × ℕ)) → IsRow file_row previous files → 0 < blocks_of files file → (1 ≤ file) × (file ≤ 16) × (blocks_of files file ≤ 256)
row_small previous file [] row some = absurd (omega arith)
row_small previous file (entry ∷ files) row some = (elim (nat_eq file entry.0) as (λ y. nat_eq file entry.0 ≡ y → (1 ≤ file) × (file ≤ 16) × (blocks_of (entry ∷ files) file ≤ 256)) [
  | true ↦ λ t.
      let small = fits_small previous entry.0 entry.1 row.0 in
      let same : file ≡ entry.0 = eqb-true file entry.0 t in
      rw t (omega (arith, same, small.0), omega (arith, same, small.1), small.2)
  | false ↦ λ t. rw t (row_small entry.0 file files row.1 (rw t at some))
]) refl

pub label_small : (label : Label) (file : ℕ) → IsLabel label → 0 < blocks_of label.files file → (1 ≤ file) × (file ≤ 16) × (blocks_of label.files file ≤ 256)
label_small label file is some = row_small 0 file label.files is.files some

pub row_blocks : (previous : ℕ) (files : List (ℕ × ℕ)) → IsRow file_row previous files → blocks_in_all files ≤ 256 * length files
row_blocks previous [] row = omega arith
row_blocks previous (entry ∷ files) row = omega (arith, (fits_small previous entry.0 entry.1 row.0).2, row_blocks entry.0 files row.1)

pub label_blocks : (label : Label) → IsLabel label → blocks_in_all label.files ≤ 4096
label_blocks label is = omega (arith, row_blocks 0 label.files is.files, is.few)

-- the blocks from a file on are those of the file and those behind it
pub blocks_step : (files : List (ℕ × ℕ)) (i : ℕ) → i < length files → blocks_in_all (drop i files) ≡ (get_or files i (0, 0)).1 + blocks_in_all (drop (suc i) files)
blocks_step files i lt = ap blocks_in_all (drop-cons files i (0, 0) lt)
