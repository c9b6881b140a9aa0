-- What a field that holds a word gives.
use Rattle.std.proofs.Common.{◌≡◌, ℕ, suc, zero, ◌-◌, ◌≤◌, true, List, ◌++◌, length, take, drop, replicate, Some, None, refl, sym, ap, ◌∙◌, arith, length-drop}
use Rattle.std.proofs.lemmas.Bool.{and_parts, and_from, le-leb, ne_eqb}
use Rattle.std.proofs.lemmas.List.{take-append-drop, length-take-le}
use Rattle.std.proofs.Math.Seq.{take-append_seam, drop-append_seam}
use Rattle.std.specs.List.{list_all}
use Rattle.std.specs.Prelude.{if◌then◌else◌}
use Rattle.tmf_model.specs.Word.{is_word_byte, is_word}
use Rattle.trail_files.specs.AuditFormat.{image_bytes, is_image, image_in}
use Rattle.trail_files.specs.RecordTable.{are_zero}
use Rattle.trail_files.specs.WordField.{word_field, holds_word}
use Rattle.trail_files.specs.WordLaws.{word_field-padded}
use Rattle.trail_files.specs.RecordFields.{zeros}

are_zero-replicate : (n : ℕ) → are_zero (replicate n 0) ≡ true
are_zero-replicate zero = refl
are_zero-replicate (suc n) = are_zero-replicate n

-- a word's field holds it
pub holds_word-field : (width : ℕ) (word : List ℕ) → length word ≤ width → list_all is_word_byte word ≡ true → holds_word (length word) (word_field width word) ≡ true
holds_word-field width word h bytes =
    let rest = replicate (width - length word) 0 in
    ap (holds_word (length word)) (word_field-padded width word h)
    ∙ and_from _ _
    (ap (list_all is_word_byte) (take-append_seam word rest) ∙ bytes)
    (ap are_zero (drop-append_seam word rest) ∙ are_zero-replicate (width - length word))

-- what stands in a field that holds a word
pub record Holds (width len : ℕ) (field : List ℕ) : Type 0 where
  pub long : length (take len field) ≡ len
  pub bytes : list_all is_word_byte (take len field) ≡ true
  pub spelled : field ≡ word_field width (take len field)

pub holds : (width len : ℕ) (field : List ℕ) → length field ≡ width → len ≤ width → holds_word len field ≡ true → Holds width len field
holds width len field long fits held =
    let parts = and_parts (list_all is_word_byte (take len field)) _ held in
    let word_long = length-take-le len field (omega arith) in
    let rest : drop len field ≡ replicate (width - length (take len field)) 0 =
    zeros (drop len field) parts.1 ∙ ap (λ n. replicate n 0) (omega (arith, length-drop len field, word_long, long)) in
    record {
      long = word_long;
      bytes = parts.0;
      spelled = sym (take-append-drop len field) ∙ ap (λ r. take len field ++ r) rest ∙ sym (word_field-padded width (take len field) (omega (arith, word_long)));
    }

pub is_word-held : (width len : ℕ) (field : List ℕ) → 1 ≤ len → len ≤ width → Holds width len field → is_word width (take len field) ≡ true
is_word-held width len field some fits h =
    let longer : 1 ≤ length (take len field) = omega (arith, h.long) in
    let shorter : length (take len field) ≤ width = omega (arith, h.long) in
    and_from _ _ (le-leb 1 (length (take len field)) longer) (and_from _ _ (le-leb (length (take len field)) width shorter) h.bytes)

-- an image as its field gives it
pub record HoldsImage (len : ℕ) (field : List ℕ) : Type 0 where
  pub valid : is_image (image_in len field) ≡ true
  pub long : length (image_bytes (image_in len field)) ≡ len
  pub spelled : field ≡ word_field 40 (image_bytes (image_in len field))

pub holds_image : (len : ℕ) (field : List ℕ) → len ≤ 40 → Holds 40 len field → HoldsImage len field
holds_image zero field fits h = record { valid = refl; long = refl; spelled = h.spelled }
holds_image (suc n) field fits h =
    let there : image_in (suc n) field ≡ Some (take (suc n) field) = ap (λ none. if none then None else Some (take (suc n) field)) (ne_eqb (suc n) 0 (λ e. omega arith)) in
    record {
      valid = ap is_image there ∙ is_word-held 40 (suc n) field (omega arith) fits h;
      long = ap (λ image. length (image_bytes image)) there ∙ h.long;
      spelled = h.spelled ∙ ap (λ image. word_field 40 (image_bytes image)) (sym there);
    }
