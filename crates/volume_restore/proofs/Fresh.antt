-- The files of a label, each given its blocks without records.
use Rattle.std.proofs.Common.{◌≡◌, ℕ, zero, suc, ◌<◌, ◌≤◌, true, false, List, [], ◌∷◌, length, get_or, Option, Some, refl, sym, ap, subst, ◌∙◌, arith, eqb-true, eq-eqb}
use Rattle.std.specs.Prelude.{◌&&◌, nat_eq, nat_lt, slice_get}
use Rattle.std.proofs.lemmas.Bool.Decides.{nat_tests}
use Rattle.std.proofs.lemmas.Option.{slice_get-get_or, slice_get_within}
use Rattle.tmf_model.specs.Transid.{is_between}
use Rattle.keyed_file.specs.declared.label.Label.{Label}
use Rattle.keyed_file.specs.Block.{KeyedBlock}
use Rattle.keyed_file.specs.BlockFormat.{is_at_home}
use Rattle.keyed_file.specs.LabelFormat.{IsLabel, file_row}
use Rattle.keyed_file.specs.Row.{IsRow}
use Rattle.keyed_file.specs.Volume.{blocks_of}
use Rattle.block_cache.specs.declared.contents.FileContents.{FileContents}
use Rattle.block_cache.specs.Created.{AreAllFiles, AreGiven}
use Rattle.block_cache.specs.Whole.{FitsFile}
use Rattle.volume_restore.specs.Formatted.{AreEmptyFiles, IsEmptyFile, empty_contents}

some_is : {X : Type 0} (a b : X) → ◌≡◌ {A = Option X} (Some a) (Some b) → a ≡ b
some_is a b e = cc

fits_file : (previous file blocks : ℕ) → (nat_lt previous file && is_between 1 16 file) && is_between 1 256 blocks ≡ true → (previous < file) × (1 ≤ blocks) × (blocks ≤ 256)
fits_file previous file blocks fits = (grind (arith, nat_tests), grind (arith, nat_tests), grind (arith, nat_tests))

-- each file of a row stands behind those before it, and has the blocks that the row gives it
row_file : (previous : ℕ) (files : List (ℕ × ℕ)) (n : ℕ) (f : ℕ × ℕ) → IsRow file_row previous files → slice_get files n ≡ Some f → (previous < f.0) × (blocks_of files f.0 ≡ f.1) × (1 ≤ f.1) × (f.1 ≤ 256)
row_file previous [] n f row at = absurd (omega (arith, slice_get_within {A = ℕ × ℕ} [] n f at))
row_file previous (e ∷ files) zero f row at =
    let fits = fits_file previous e.0 e.1 row.0 in
    subst (λ (x : ℕ × ℕ). (previous < x.0) × (blocks_of (e ∷ files) x.0 ≡ x.1) × (1 ≤ x.1) × (x.1 ≤ 256)) (some_is e f at) (fits.0, rw (eq-eqb e.0 e.0 refl) refl, fits.1, fits.2)
row_file previous (e ∷ files) (suc n) f row at =
    let fits = fits_file previous e.0 e.1 row.0 in
    let behind = row_file e.0 files n f row.1 at in
    let here : blocks_of (e ∷ files) f.0 ≡ f.1 = (elim (nat_eq f.0 e.0) as (λ y. nat_eq f.0 e.0 ≡ y → blocks_of (e ∷ files) f.0 ≡ f.1) [
      | true ↦ λ t. absurd (omega (arith, behind.0, eqb-true f.0 e.0 t))
      | false ↦ λ t. rw t behind.1
    ]) refl in
    (omega (arith, fits.0, behind.0), here, behind.2, behind.3)

-- a file that has blocks stands in the row
row_has : (files : List (ℕ × ℕ)) (file : ℕ) → 0 < blocks_of files file → (n : ℕ) × (f : ℕ × ℕ) × (slice_get files n ≡ Some f) × (f.0 ≡ file)
row_has [] file some = absurd (omega (arith, some))
row_has (e ∷ files) file some = (elim (nat_eq file e.0) as (λ y. nat_eq file e.0 ≡ y → (n : ℕ) × (f : ℕ × ℕ) × (slice_get (e ∷ files) n ≡ Some f) × (f.0 ≡ file)) [
  | true ↦ λ t. (0, e, refl, sym (eqb-true file e.0 t))
  | false ↦ λ t. let more = row_has files file (rw t at some) in (suc more.0, more.1, more.2, more.3)
]) refl

empty_home : (file number blocks : ℕ) → is_at_home (Some (record { file = file; number = number; blocks = blocks })) (empty_contents file number) ≡ true
empty_home file number blocks = grind (arith, nat_tests)

-- what is given at a place is given to the file there
given_file : (files : List (ℕ × ℕ)) (given : List FileContents) → AreEmptyFiles files given → (n : ℕ) (one : FileContents) → slice_get given n ≡ Some one → (f : ℕ × ℕ) × (slice_get files n ≡ Some f) × IsEmptyFile f.0 f.1 one
given_file files given are n one at =
    let within : n < length files = omega (arith, slice_get_within given n one at, are.count) in
    let is = slice_get-get_or files n (0, 0) within in
    (get_or files n (0, 0), is, are.each n (get_or files n (0, 0)) one is at)

module _ (label : Label) (given : List FileContents) (valid : IsLabel label) (are : AreEmptyFiles label.files given) where
  fits : (n : ℕ) (one : FileContents) → slice_get given n ≡ Some one → FitsFile label.files one
  fits n one at =
      let there = given_file label.files given are n one at in
      let f : ℕ × ℕ = there.0 in
      let empty : IsEmptyFile f.0 f.1 one = there.2 in
      let row = row_file 0 label.files n f valid.files there.1 in
      record {
        count = empty.count ∙ sym row.1 ∙ ap (blocks_of label.files) (sym empty.file_is);
        few = omega (arith, empty.count, row.3);
        homes = λ number content is.
            let same : content ≡ empty_contents one.file number = empty.each number content is ∙ ap (λ (file : ℕ). empty_contents file number) (sym empty.file_is) in
            subst (λ (x : KeyedBlock). is_at_home (Some (record { file = one.file; number = number; blocks = blocks_of label.files one.file })) x ≡ true) (sym same) (empty_home one.file number (blocks_of label.files one.file));
      }

  has_one : (n : ℕ) (f : ℕ × ℕ) → slice_get label.files n ≡ Some f → (one : FileContents) × (slice_get given n ≡ Some one) × (one.file ≡ f.0)
  has_one n f at =
      let none : FileContents = record { file = 0; blocks = [] } in
      let within : n < length given = omega (arith, slice_get_within label.files n f at, are.count) in
      let is = slice_get-get_or given n none within in
      (get_or given n none, is, (are.each n f (get_or given n none) at is).file_is)

  -- each file of the label is given its blocks, and no other
  pub all_files : AreAllFiles label.files given
  all_files = record {
    whole = record {
      fit = fits;
      every = λ file some.
          let there = row_has label.files file some in
          let one = has_one there.0 there.1 there.2 in
          (there.0, one.0, one.1, one.2 ∙ there.3);
    };
    only = λ n one at.
        let there = given_file label.files given are n one at in
        let f : ℕ × ℕ = there.0 in
        let row = row_file 0 label.files n f valid.files there.1 in
        omega (arith, ap (blocks_of label.files) there.2.file_is, row.1, row.2);
  }

  pub given_empty : AreGiven empty_contents given
  given_empty n one at number content is =
      let there = given_file label.files given are n one at in
      ap (λ (file : ℕ). empty_contents file number) there.2.file_is ∙ sym (there.2.each number content is)
