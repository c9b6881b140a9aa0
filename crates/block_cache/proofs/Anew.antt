-- A volume that is made anew, file by file.
use Rattle.std.specs.Prelude.{slice_get, unwrap_or, Result, Ok, Err, OnOk, OnErr}
use Rattle.std.proofs.Common.{zero, suc, ◌≡◌, ◌≢◌, ◌⊎◌, inl, inr, ℕ, ◌+◌, ◌<◌, List, [], ◌∷◌, length, Option, Some, refl, sym, ap, subst, ◌∙◌, arith}
use Rattle.std.proofs.lemmas.Option.{slice_get_within}
use Rattle.disk_model.specs.Held.{File, Held, Leaves, LeavesFile, Elsewhere, IsThere}
use Rattle.trail_files.specs.Landed.{IsSettled}
use Rattle.keyed_file.specs.declared.label.Label.{Label}
use Rattle.keyed_file.specs.Block.{KeyedBlock, IsBlock}
use Rattle.keyed_file.specs.BlockFormat.{block_text}
use Rattle.keyed_file.specs.LabelFormat.{IsLabel}
use Rattle.keyed_file.specs.Layout.{IsSpelledAt, block_pair, selected_by, slot_at}
use Rattle.keyed_file.specs.Volume.{Contents, IsContent, SpellsFile, SpellsLabel, SpellsVolume, blocks_of}
use Rattle.block_cache.specs.declared.contents.FileContents.{FileContents}
use Rattle.block_cache.specs.Created.{AreAllFiles, AreBlocksOf, IsBeingMade, IsFinished, IsMade, OffVolume}
use Rattle.block_cache.specs.Rewrite.{AreAtHome}
use Rattle.block_cache.specs.Volume.{HasNoLabel}
use Rattle.block_cache.proofs.Caches.{same_or_other}
use Rattle.block_cache.proofs.Places.{some_is}
use Rattle.block_cache.proofs.Resting.{image_spelled}
use Rattle.block_cache.proofs.Showing.{leaves_there}

-- contents that a row of blocks has
abbrev pub some_contents : List KeyedBlock → Contents
some_contents blocks = λ file number. unwrap_or (slice_get blocks number) (record { file = 0; number = 0; position = 0; records = [] })

pub some_blocks : (file : ℕ) (blocks : List KeyedBlock) → AreBlocksOf (some_contents blocks) file blocks
some_blocks file blocks = λ number content is. ap (λ (o : Option KeyedBlock). unwrap_or o (record { file = 0; number = 0; position = 0; records = [] })) is

-- each place of a row has an item
pub slice_there : {X : Type 0} (xs : List X) (n : ℕ) → n < length xs → (x : X) × (slice_get xs n ≡ Some x)
slice_there [] n below = absurd (omega (arith, below))
slice_there (x ∷ xs) zero below = (x, refl)
slice_there (x ∷ xs) (suc n) below = slice_there xs n (omega (arith, below))

-- the blocks of a row may stand at their places
pub given_valid : (contents : Contents) (file : ℕ) (blocks : List KeyedBlock) → AreBlocksOf contents file blocks → AreAtHome file (length blocks) blocks → ((n : ℕ) (content : KeyedBlock) → n < length blocks → slice_get blocks n ≡ Some content → IsBlock content)
    → (number : ℕ) → number < length blocks → IsContent file (length blocks) number (contents file number)
given_valid contents file blocks given homes valid number below =
    let there = slice_there blocks number below in
    subst (IsContent file (length blocks) number) (sym (given number there.0 there.1)) (record { valid = valid number there.0 below there.1; home = homes number there.0 there.1 })

-- a write to a file of the volume keeps the files of others
pub off_step : (files : List (ℕ × ℕ)) (before old new : Held) (file : ℕ) → 0 < blocks_of files file → OffVolume files before old → Elsewhere (1 + file) old new → OffVolume files before new
off_step files before old new file some off others = λ q apart free. others q (λ e. omega (arith, free file e, some)) ∙ off q apart free

-- so does one to the label's file
pub off_label : (files : List (ℕ × ℕ)) (before old new : Held) → OffVolume files before old → Elsewhere 1 old new → OffVolume files before new
off_label files before old new off others = λ q apart free. others q apart ∙ off q apart free

-- one file more is finished
pub finished_step : (files : List (ℕ × ℕ)) (contents : Contents) (given : List FileContents) (index : ℕ) (one : FileContents) (old new : Held) → slice_get given index ≡ Some one → Elsewhere (1 + one.file) old new
    → IsFinished one.file (blocks_of files one.file) contents new → ((n : ℕ) (x : FileContents) → n < index → slice_get given n ≡ Some x → IsFinished x.file (blocks_of files x.file) contents old)
    → (n : ℕ) (x : FileContents) → n < index + 1 → slice_get given n ≡ Some x → IsFinished x.file (blocks_of files x.file) contents new
finished_step files contents given index one old new at others now was n x below is = elim (same_or_other x.file one.file) [
  | inl e ↦ subst (λ (file : ℕ). IsFinished file (blocks_of files file) contents new) (sym e) now
  | inr apart ↦
      let before : n ≢ index = λ e. apart (ap (λ (y : FileContents). y.file) (some_is x one (sym is ∙ ap (slice_get given) e ∙ at))) in
      let there = was n x (omega (arith, below, before)) is in
      (there.0, others (1 + x.file) (λ e. apart (omega (arith, e))) ∙ there.1, there.2)
]

module _ (label : Label) (contents : Contents) (given : List FileContents) (held : Held) (valid : IsLabel label) (all : AreAllFiles label.files given)
    (each : (n : ℕ) (one : FileContents) → n < length given → slice_get given n ≡ Some one → IsFinished one.file (blocks_of label.files one.file) contents held) where
  finished : (file : ℕ) → 0 < blocks_of label.files file → IsFinished file (blocks_of label.files file) contents held
  finished file some =
      let there = all.whole.every file some in
      subst (λ (x : ℕ). IsFinished x (blocks_of label.files x) contents held) there.3 (each there.0 there.1 (slice_get_within given there.0 there.1 there.2) there.2)

  -- with its label the volume is whole
  pub made_volume : IsThere held 1 (λ f. IsSettled f × SpellsLabel label f.bytes) → IsMade label contents held
  made_volume top = record {
    spells = record {
      valid = valid;
      label_file = (top.0, top.1, top.2.1);
      files = λ file some. let one = finished file some in (one.0, one.1, one.2.1);
    };
    rests = record {
      label_file = λ f is. subst IsSettled (some_is top.0 f (sym top.1 ∙ is)) top.2.0;
      files = λ file some f is. let one = finished file some in subst IsSettled (some_is one.0 f (sym one.1 ∙ is)) one.2.0;
    };
  }

  file_image : (file blocks : ℕ) (f g : File) → IsSettled f → LeavesFile f g → SpellsFile file blocks contents f.bytes → SpellsFile file blocks contents g.bytes
  file_image file blocks f g rest leaves spells = record {
    long = omega (arith, spells.long, rest.synced, leaves.no_shorter);
    each = λ number below.
        let block = spells.each number below in
        (block.0, subst (λ (byte : ℕ). IsSpelledAt g.bytes (slot_at (block_pair file number) (selected_by byte)) (block_text (contents file number))) (sym (leaves.same number (omega (arith, below, spells.long, rest.synced)) (rest.safe number (omega (arith, below, spells.long))))) (image_spelled f g _ _ rest leaves block.1));
  }

  -- an image with the label is the whole volume
  pub labelled_image : (image : Held) → Leaves held image → IsThere image 1 (λ f. SpellsLabel label f.bytes) → SpellsVolume label image contents
  labelled_image image leaves top = record {
    valid = valid;
    label_file = top;
    files = λ file some.
        let one = finished file some in
        let left = leaves_there (held (1 + file)) (image (1 + file)) one.0 one.1 (leaves (1 + file)) in
        (left.0, left.1, file_image file (blocks_of label.files file) one.0 left.0 one.2.0 left.2 one.2.1);
  }

  pub labelled_being : (before image : Held) → Leaves held image → HasNoLabel image ⊎ IsThere image 1 (λ f. SpellsLabel label f.bytes) → IsBeingMade label contents before image
  labelled_being before image leaves (inl none) = inr (inl none)
  labelled_being before image leaves (inr top) = inr (inr (labelled_image image leaves top))

-- what follows from what is said of a value and of an error
pub either_way : {T E : Type 0} {A B C : Type 0} (r : Result T E) → OnOk r A → OnErr r B → (A → C) → (B → C) → C
either_way (Ok x) ok err good bad = good ok
either_way (Err e) ok err good bad = bad err
