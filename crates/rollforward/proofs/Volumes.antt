-- A volume that is filled, file by file and block by block.
use Rattle.std.specs.Prelude.{slice_get, Result, Ok, Err, OnOk, OnErr, ◌==◌, ◌&&◌, nat_eq, nat_lt}
use Rattle.std.proofs.Common.{zero, suc, ◌≡◌, ◌≢◌, ◌⊎◌, inl, inr, ℕ, ◌+◌, ◌<◌, ◌≤◌, true, false, cond, List, [], ◌∷◌, length, Option, None, Some, refl, sym, ap, subst, ◌∙◌, arith, eqb-true, eq-eqb}
use Rattle.std.proofs.lemmas.Bool.{cond-true, cond-false, false_from_ne_true}
use Rattle.std.proofs.lemmas.Bool.Decides.{nat_tests}
use Rattle.std.proofs.lemmas.Option.{slice_get_within}
use Rattle.disk_model.specs.Held.{File, Held, Leaves, LeavesAt, LeavesFile, Elsewhere, IsThere, created}
use Rattle.trail_files.specs.Landed.{IsSettled}
use Rattle.tmf_model.specs.RecordMap.{RecordMap}
use Rattle.tmf_model.specs.Transid.{is_between}
use Rattle.keyed_file.specs.declared.block.TheConstants.{BLOCK_BYTES}
use Rattle.keyed_file.specs.declared.label.Label.{Label}
use Rattle.keyed_file.specs.Block.{KeyedBlock}
use Rattle.keyed_file.specs.BlockFormat.{block_text}
use Rattle.keyed_file.specs.LabelFormat.{IsLabel, file_row}
use Rattle.keyed_file.specs.Layout.{IsSpelledAt, ShowsPair, block_pair, slot_at}
use Rattle.keyed_file.specs.Row.{IsRow}
use Rattle.keyed_file.specs.Volume.{Contents, IsContent, SpellsFile, SpellsLabel, SpellsVolume, blocks_of}
use Rattle.block_cache.specs.Created.{IsFinished, IsMade, IsPartFile, OffVolume}
use Rattle.block_cache.specs.Rewrite.{AreContentsOf, IsContentOf}
use Rattle.block_cache.specs.Volume.{HasNoLabel, RestsFor}
use Rattle.block_cache.proofs.Caches.{same_or_other}
use Rattle.block_cache.proofs.Places.{some_is}
use Rattle.rollforward.specs.Filling.{IsBeingFilled, IsFileFilled, IsPartFilled, IsVolumeFilled, SpellsMap}

fits_file : (previous file blocks : ℕ) → (nat_lt previous file && is_between 1 16 file) && is_between 1 256 blocks ≡ true → (previous < file) × (1 ≤ blocks) × (blocks ≤ 256)
fits_file previous file blocks fits = (grind (arith, nat_tests), grind (arith, nat_tests), grind (arith, nat_tests))

-- each file of a row stands behind those before it, and has the blocks that the row gives it
pub row_file : (previous : ℕ) (files : List (ℕ × ℕ)) (n : ℕ) (f : ℕ × ℕ) → IsRow file_row previous files → slice_get files n ≡ Some f → (previous < f.0) × (blocks_of files f.0 ≡ f.1) × (1 ≤ f.1) × (f.1 ≤ 256)
row_file previous [] n f row at = absurd (omega (arith, slice_get_within {A = ℕ × ℕ} [] n f at))
row_file previous (e ∷ files) zero f row at =
    let fits = fits_file previous e.0 e.1 row.0 in
    subst (λ (x : ℕ × ℕ). (previous < x.0) × (blocks_of (e ∷ files) x.0 ≡ x.1) × (1 ≤ x.1) × (x.1 ≤ 256)) (some_is e f at) (fits.0, rw (eq-eqb e.0 e.0 refl) refl, fits.1, fits.2)
row_file previous (e ∷ files) (suc n) f row at =
    let fits = fits_file previous e.0 e.1 row.0 in
    let behind = row_file e.0 files n f row.1 at in
    let here : blocks_of (e ∷ files) f.0 ≡ f.1 = (elim (nat_eq f.0 e.0) as (λ y. nat_eq f.0 e.0 ≡ y → blocks_of (e ∷ files) f.0 ≡ f.1) [
      | true ↦ λ t. absurd (omega (arith, behind.0, eqb-true f.0 e.0 t))
      | false ↦ λ t. rw t behind.1
    ]) refl in
    (omega (arith, fits.0, behind.0), here, behind.2, behind.3)

-- a file that has blocks stands in the row
pub row_has : (files : List (ℕ × ℕ)) (file : ℕ) → 0 < blocks_of files file → (n : ℕ) × (f : ℕ × ℕ) × (slice_get files n ≡ Some f) × (f.0 ≡ file)
row_has [] file some = absurd (omega (arith, some))
row_has (e ∷ files) file some = (elim (nat_eq file e.0) as (λ y. nat_eq file e.0 ≡ y → (n : ℕ) × (f : ℕ × ℕ) × (slice_get (e ∷ files) n ≡ Some f) × (f.0 ≡ file)) [
  | true ↦ λ t. (0, e, refl, sym (eqb-true file e.0 t))
  | false ↦ λ t. let more = row_has files file (rw t at some) in (suc more.0, more.1, more.2, more.3)
]) refl

-- a write to a file of the volume keeps the files of others
pub off_step : (files : List (ℕ × ℕ)) (before old new : Held) (file : ℕ) → 0 < blocks_of files file → OffVolume files before old → Elsewhere (1 + file) old new → OffVolume files before new
off_step files before old new file some off others = λ q apart free. others q (λ e. omega (arith, free file e, some)) ∙ off q apart free

-- so does one to the label's file
pub off_label : (files : List (ℕ × ℕ)) (before old new : Held) → OffVolume files before old → Elsewhere 1 old new → OffVolume files before new
off_label files before old new off others = λ q apart free. others q apart ∙ off q apart free

-- contents of which one block is this one
abbrev pub with_block : Contents → ℕ → KeyedBlock → Contents
with_block contents number block file n = cond (n == number) block (contents file n)

pub block_here : (contents : Contents) (number : ℕ) (block : KeyedBlock) (file : ℕ) → with_block contents number block file number ≡ block
block_here contents number block file = cond-true (number == number) block (contents file number) (eq-eqb number number refl)

pub block_there : (contents : Contents) (number : ℕ) (block : KeyedBlock) (file n : ℕ) → n ≢ number → with_block contents number block file n ≡ contents file n
block_there contents number block file n other = cond-false (n == number) block (contents file n) (false_from_ne_true (n == number) (λ e. other (eqb-true n number e)))

-- a part of a file that has the same blocks is the same
pub part_as : (file number : ℕ) (was now : Contents) (bytes : List ℕ) → ((n : ℕ) → n < number → was file n ≡ now file n) → IsPartFile file number was bytes → IsPartFile file number now bytes
part_as file number was now bytes same part = record {
  long = part.long;
  selectors = part.selectors;
  each = λ n below. subst (λ (b : KeyedBlock). (length (block_text b) ≡ BLOCK_BYTES) × IsSpelledAt bytes (slot_at (block_pair file n) 0) (block_text b)) (same n below) (part.each n below);
}

-- so is a file that is finished
pub finished_as : (file blocks : ℕ) (was now : Contents) (held : Held) → ((n : ℕ) → n < blocks → was file n ≡ now file n) → IsFinished file blocks was held → IsFinished file blocks now held
finished_as file blocks was now held same is = (
  is.0,
  is.1,
  (is.2.0, record { long = is.2.1.long; each = λ n below. subst (λ (b : KeyedBlock). IsContent file blocks n b × ShowsPair is.0.bytes (block_pair file n) (block_text b)) (same n below) (is.2.1.each n below) }),
)

-- one block more is written
module _ (map : RecordMap) (file blocks number : ℕ) (old new : Held) (block : KeyedBlock) (was : IsPartFilled map file blocks number old) where
  abbrev pub next_contents : Contents
  next_contents = with_block was.contents number block

  pub part_before : IsThere old (1 + file) (λ f. IsPartFile file number next_contents f.bytes)
  part_before =
      (was.part.0, was.part.1, part_as file number was.contents next_contents was.part.0.bytes (λ n below. sym (block_there was.contents number block file n (λ e. omega (arith, e, below)))) was.part.2)

  pub part_more : IsThere new (1 + file) (λ f. IsPartFile file (number + 1) next_contents f.bytes) → IsContent file blocks number block → IsContentOf map file blocks number block → IsPartFilled map file blocks (number + 1) new
  part_more part valid values = record {
    contents = next_contents;
    part = part;
    each = λ n below. elim (same_or_other n number) [
      | inl e ↦ subst (λ (k : ℕ). IsContent file blocks k (next_contents file k) × IsContentOf map file blocks k (next_contents file k)) (sym e)
          (subst (λ (b : KeyedBlock). IsContent file blocks number b × IsContentOf map file blocks number b) (sym (block_here was.contents number block file)) (valid, values))
      | inr other ↦ subst (λ (b : KeyedBlock). IsContent file blocks n b × IsContentOf map file blocks n b) (sym (block_there was.contents number block file n other)) (was.each n (omega (arith, below, other)))
    ];
  }

-- the first files of a row are filled
pub record AreFilledTo (map : RecordMap) (files : List (ℕ × ℕ)) (index : ℕ) (held : Held) : Type 0 where
  pub contents : Contents
  pub each : (n : ℕ) (f : ℕ × ℕ) → n < index → slice_get files n ≡ Some f → IsFinished f.0 f.1 contents held × ((k : ℕ) → k < f.1 → IsContentOf map f.0 f.1 k (contents f.0 k))

pub filled_none : (map : RecordMap) (files : List (ℕ × ℕ)) (held : Held) → AreFilledTo map files 0 held
filled_none map files held = record { contents = λ file number. record { file = file; number = number; position = 0; records = [] }; each = λ n f below at. absurd (omega (arith, below)) }

-- one file more is filled
module _ (map : RecordMap) (files : List (ℕ × ℕ)) (row : IsRow file_row 0 files) (index : ℕ) (f : ℕ × ℕ) (at : slice_get files index ≡ Some f) (old new : Held) (others : Elsewhere (1 + f.0) old new)
    (was : AreFilledTo map files index old) (now : IsFileFilled map f.0 f.1 new) where
  abbrev next : Contents
  next = λ file. cond (file == f.0) (now.contents file) (was.contents file)

  here : next f.0 ≡ now.contents f.0
  here = cond-true (f.0 == f.0) (now.contents f.0) (was.contents f.0) (eq-eqb f.0 f.0 refl)

  there : (file : ℕ) → file ≢ f.0 → next file ≡ was.contents file
  there file other = cond-false (file == f.0) (now.contents file) (was.contents file) (false_from_ne_true (file == f.0) (λ e. other (eqb-true file f.0 e)))

  own : IsFinished f.0 f.1 next new × ((k : ℕ) → k < f.1 → IsContentOf map f.0 f.1 k (next f.0 k))
  own = (
    finished_as f.0 f.1 now.contents next new (λ n below. sym (ap (λ (g : ℕ → KeyedBlock). g n) here)) now.finished,
    λ k below. subst (λ (b : KeyedBlock). IsContentOf map f.0 f.1 k b) (sym (ap (λ (g : ℕ → KeyedBlock). g k) here)) (now.each k below),
  )

  pub filled_more : AreFilledTo map files (index + 1) new
  filled_more = record {
    contents = next;
    each = λ n x below is. elim (same_or_other x.0 f.0) [
      | inl e ↦
          let blocks : x.1 ≡ f.1 = sym (row_file 0 files n x row is).1 ∙ ap (blocks_of files) e ∙ (row_file 0 files index f row at).1 in
          subst (λ (file : ℕ). IsFinished file x.1 next new × ((k : ℕ) → k < x.1 → IsContentOf map file x.1 k (next file k))) (sym e)
          (subst (λ (b : ℕ). IsFinished f.0 b next new × ((k : ℕ) → k < b → IsContentOf map f.0 b k (next f.0 k))) (sym blocks) own)
      | inr apart ↦
          let before : n ≢ index = λ e. apart (ap (λ (y : ℕ × ℕ). y.0) (some_is x f (sym is ∙ ap (slice_get files) e ∙ at))) in
          let old_one = was.each n x (omega (arith, below, before)) is in
          let moved : IsFinished x.0 x.1 was.contents new = (old_one.0.0, others (1 + x.0) (λ e. apart (omega (arith, e))) ∙ old_one.0.1, old_one.0.2) in (
            finished_as x.0 x.1 was.contents next new (λ k _. sym (ap (λ (g : ℕ → KeyedBlock). g k) (there x.0 apart))) moved,
            λ k under. subst (λ (b : KeyedBlock). IsContentOf map x.0 x.1 k b) (sym (ap (λ (g : ℕ → KeyedBlock). g k) (there x.0 apart))) (old_one.1 k under),
          )
    ];
  }

-- a write to the label's file keeps what is filled
pub filled_kept : (map : RecordMap) (files : List (ℕ × ℕ)) (row : IsRow file_row 0 files) (index : ℕ) (old new : Held) → Elsewhere 1 old new → AreFilledTo map files index old → AreFilledTo map files index new
filled_kept map files row index old new others was = record {
  contents = was.contents;
  each = λ n f below at.
      let one = was.each n f below at in
      let behind = (row_file 0 files n f row at).0 in
      ((one.0.0, others (1 + f.0) (λ e. omega (arith, e, behind)) ∙ one.0.1, one.0.2), one.1);
}

-- what a crash leaves of a file that is there
pub leaves_one : (o p : Option File) (f g : File) → o ≡ Some f → p ≡ Some g → LeavesAt o p → LeavesFile f g
leaves_one o p f g is image leaves = subst (λ (x : Option File). LeavesAt (Some f) x) image (subst (λ (x : Option File). LeavesAt x p) is leaves)

-- where a new file stands in the label's place, no image has a label
pub lost_created : (held : Held) → held 1 ≡ Some created → (image : Held) → Leaves held image → HasNoLabel image
lost_created held at image leaves file there =
    let left = leaves_one (held 1) (image 1) created file at there (leaves 1) in
    (omega (arith, left.no_shorter), λ one. not_one (left.same 0 (omega arith) refl) one)
  where
    not_one : {n : ℕ} → n ≡ 0 → n ≡ 1 → ⊥
    not_one zero_is one_is = omega (arith, zero_is, one_is)

-- where the label's file is as it was, so is what a crash leaves
pub leaves_kept : (old new image : Held) → Elsewhere 1 old new → new 1 ≡ old 1 → Leaves new image → Leaves old image
leaves_kept old new image others same leaves = λ n. elim (same_or_other n 1) [
  | inl e ↦ subst (λ (k : ℕ). LeavesAt (old k) (image k)) (sym e) (subst (λ (o : Option File). LeavesAt o (image 1)) same (leaves 1))
  | inr other ↦ subst (λ (o : Option File). LeavesAt o (image n)) (others n other) (leaves n)
]

-- what follows from what is said of a value and of an error
pub either_way : {T E : Type 0} {A B C : Type 0} (r : Result T E) → OnOk r A → OnErr r B → (A → C) → (B → C) → C
either_way (Ok x) ok err good bad = good ok
either_way (Err e) ok err good bad = bad err

-- each image of a volume at rest is the volume
abbrev pub ImageLaw : Type 0
ImageLaw = (label : Label) (held image : Held) (contents : Contents) → SpellsVolume label held contents → RestsFor label held → Leaves held image → SpellsVolume label image contents

module _ (label : Label) (map : RecordMap) (held : Held) (valid : IsLabel label) (all : AreFilledTo map label.files (length label.files) held) where
  -- each file of the label is finished
  pub finished : (file : ℕ) → 0 < blocks_of label.files file
      → IsFinished file (blocks_of label.files file) all.contents held × ((k : ℕ) → k < blocks_of label.files file → IsContentOf map file (blocks_of label.files file) k (all.contents file k))
  finished file some =
      let there = row_has label.files file some in
      let f = there.1 in
      let one = all.each there.0 f (slice_get_within label.files there.0 f there.2) there.2 in
      let blocks : blocks_of label.files f.0 ≡ f.1 = (row_file 0 label.files there.0 f valid.files there.2).1 in
      subst (λ (x : ℕ). IsFinished x (blocks_of label.files x) all.contents held × ((k : ℕ) → k < blocks_of label.files x → IsContentOf map x (blocks_of label.files x) k (all.contents x k))) there.3
      (subst (λ (b : ℕ). IsFinished f.0 b all.contents held × ((k : ℕ) → k < b → IsContentOf map f.0 b k (all.contents f.0 k))) (sym blocks) one)

  pub of_map : AreContentsOf label.files map all.contents
  of_map file number below = (finished file (omega (arith, below))).1 number below

  -- with its label the volume is whole
  pub made : IsThere held 1 (λ f. IsSettled f × SpellsLabel label f.bytes) → IsMade label all.contents held
  made top = record {
    spells = record {
      valid = valid;
      label_file = (top.0, top.1, top.2.1);
      files = λ file some. let one = (finished file some).0 in (one.0, one.1, one.2.1);
    };
    rests = record {
      label_file = λ f is. subst IsSettled (some_is top.0 f (sym top.1 ∙ is)) top.2.0;
      files = λ file some f is. let one = (finished file some).0 in subst IsSettled (some_is one.0 f (sym one.1 ∙ is)) one.2.0;
    };
  }

  pub volume_filled : IsThere held 1 (λ f. IsSettled f × SpellsLabel label f.bytes) → IsVolumeFilled label map held
  volume_filled top = record { contents = all.contents; made = made top; each = of_map }

  -- the device with the label's file of an image
  abbrev with_label : File → Held
  with_label g n = cond (n == 1) (Some g) (held n)

  label_here : (g : File) → with_label g 1 ≡ Some g
  label_here g = refl

  label_there : (g : File) (n : ℕ) → n ≢ 1 → with_label g n ≡ held n
  label_there g n other = cond-false (n == 1) (Some g) (held n) (false_from_ne_true (n == 1) (λ e. other (eqb-true n 1 e)))

  -- an image with the label is the whole volume
  labelled : ImageLaw → (image : Held) → Leaves held image → IsThere image 1 (λ f. SpellsLabel label f.bytes) → (left : (o : Option File) → LeavesAt o (image 1) → (g : File) → image 1 ≡ Some g → LeavesFile g g) → SpellsMap label map image
  labelled law image leaves top itself =
      let g = top.0 in
      let own = itself (held 1) (leaves 1) g top.1 in
      let now = with_label g in
      let files : (file : ℕ) (some : 0 < blocks_of label.files file) → IsThere now (1 + file) (λ f. IsSettled f × SpellsFile file (blocks_of label.files file) all.contents f.bytes) =
      λ file some.
      let one = (finished file some).0 in
      let some_file = row_has label.files file some in
      let behind = (row_file 0 label.files some_file.0 some_file.1 valid.files some_file.2).0 in
      (one.0, label_there g (1 + file) (λ e. omega (arith, e, behind, some_file.3)) ∙ one.1, one.2) in (
        all.contents,
        law label now image all.contents
            (record { valid = valid; label_file = (g, label_here g, top.2); files = λ file some. let one = files file some in (one.0, one.1, one.2.1) })
            (record {
              label_file = λ f is. subst IsSettled (some_is g f (sym (label_here g) ∙ is)) (record { safe = λ i lt. own.settled i; synced = own.synced });
              files = λ file some f is. let one = files file some in subst IsSettled (some_is one.0 f (sym one.1 ∙ is)) one.2.0;
            })
            (λ n. elim (same_or_other n 1) [
              | inl e ↦ subst (λ (k : ℕ). LeavesAt (now k) (image k)) (sym e) (subst (λ (o : Option File). LeavesAt (Some g) o) (sym top.1) own)
              | inr other ↦ subst (λ (o : Option File). LeavesAt o (image n)) (sym (label_there g n other)) (leaves n)
            ]),
        of_map,
      )

  image_itself : (image : Held) (o : Option File) → LeavesAt o (image 1) → (g : File) → image 1 ≡ Some g → LeavesFile g g
  image_itself image None leaves g is = absurd (subst (λ (x : Option File). LeavesAt None x) is leaves)
  image_itself image (Some f) leaves g is =
      let left : LeavesFile f g = subst (λ (x : Option File). LeavesAt (Some f) x) is leaves in
      record {
        same = λ i below safe. refl;
        no_shorter = omega (arith, left.synced);
        no_longer = left.no_longer;
        settled = left.settled;
        synced = left.synced;
      }

  pub labelled_being : ImageLaw → (before image : Held) → Leaves held image → HasNoLabel image ⊎ IsThere image 1 (λ f. SpellsLabel label f.bytes) → IsBeingFilled label map before image
  labelled_being law before image leaves (inl none) = inr (inl none)
  labelled_being law before image leaves (inr top) = inr (inr (labelled law image leaves top (image_itself image)))
