-- What is read of a label's bytes is what spells it.
use Rattle.std.proofs.Common.{◌≡◌, ℕ, ◌+◌, ◌*◌, ◌-◌, ◌<◌, ◌≤◌, true, ◌&&◌, List, [], ◌∷◌, ◌++◌, length, drop, get_or, replicate, Option, Some, None, refl, sym, ap, subst, ◌∙◌, arith, append_assoc, length-append, length-drop, eqb-true}
use Rattle.std.specs.Prelude.{nat_le, nat_lt, slice_index, flat_map}
use Rattle.std.proofs.lemmas.Bool.{and_parts, and_from, leb-true, le-leb}
use Rattle.std.proofs.lemmas.List.{take_all}
use Rattle.std.proofs.lemmas.Nat.{from_be_bytes-to_be_bytes_2, from_be_bytes-to_be_bytes_8}
use Rattle.tmf_model.specs.Transid.{is_between}
use Rattle.keyed_file.specs.declared.label.Label.{Label}
use Rattle.keyed_file.specs.Fields.{first_of}
use Rattle.keyed_file.specs.LabelFormat.{IsLabel, bad_label, bad_label_head, blocks_at, file_row, file_text, label_at, label_head, label_text, low_at}
use Rattle.keyed_file.specs.Row.{bad_row, row_at}
use Rattle.keyed_file.proofs.Bytes.{AreBytes, AreBytes-drop, between, field_16, field_64, field_byte, field_zeros, fits, joined, none_unless, option_or-behind, option_or-none, within}
use Rattle.keyed_file.proofs.Rows.{ReadsItem, SpellsItem, bad_row-spelled, length-row, reads_row, row_at-spelled}

pub reads_file : (at previous : ℕ) (bytes : List ℕ) → length bytes ≡ 4 → AreBytes bytes → file_row.bad_item at previous bytes ≡ None → ReadsItem file_row previous bytes
reads_file at previous bytes long are none =
    let at_0 = option_or-none _ _ none in
    let at_1 = option_or-none _ _ at_0.1 in
    let at_2 = option_or-none _ _ at_1.1 in
    record {
      fit = and_from _ _ (fits _ at at_0.0) (fits _ (at + 2) at_2.0);
      spelled =
          joined 0 1 bytes _ _ (field_byte 0 bytes (omega (arith, long)))
          (joined 1 1 bytes _ _ (field_zeros (at + 1) 1 1 bytes (omega (arith, long)) at_1.0)
          (sym (take_all 2 (drop 2 bytes) (omega (arith, length-drop 2 bytes, long))) ∙ field_16 2 bytes are (omega (arith, long))));
    }

pub spells_file : (previous : ℕ) (file : ℕ × ℕ) → file_row.fits previous file ≡ true → SpellsItem file_row previous file
spells_file previous file fit =
    let parts = and_parts (nat_lt previous file.0 && is_between 1 16 file.0) (is_between 1 256 file.1) fit in
    let most : file.1 ≤ 256 = leb-true file.1 256 (and_parts (nat_le 1 file.1) _ parts.1).1 in
    let blocks : blocks_at (file_text file) ≡ file.1 = from_be_bytes-to_be_bytes_2 file.1 (omega (arith, most)) in
    record {
      long = refl;
      read = λ i. (file.0, blocks i);
      fine = λ at.
          option_or-behind _ _ (none_unless _ at parts.0)
          ∙ option_or-behind _ _ (none_unless _ (at + 2) (ap (is_between 1 256) blocks ∙ parts.1));
    }

-- what bytes in which nothing is wrong hold
pub record ReadsLabel (bytes : List ℕ) : Type 0 where
  pub valid : IsLabel (label_at bytes)
  pub spelled : bytes ≡ label_text (label_at bytes)

parts_text : (label : Label) (left : ℕ) → length (flat_map file_text label.files) + left ≡ 240 → label_head label ++ (flat_map file_text label.files ++ replicate left 0) ≡ label_text label
parts_text label left room =
    let left_is : left ≡ 256 - length (label_head label ++ flat_map file_text label.files) = omega (arith, room, length-append (label_head label) (flat_map file_text label.files)) in
    sym (append_assoc (label_head label) (flat_map file_text label.files) (replicate left 0))
    ∙ ap (λ n. (label_head label ++ flat_map file_text label.files) ++ replicate n 0) left_is

pub reads_label : (bytes : List ℕ) → length bytes ≡ 256 → AreBytes bytes → bad_label bytes ≡ None → ReadsLabel bytes
reads_label bytes long are none =
    let parts = option_or-none (first_of (bad_label_head bytes)) _ none in
    let at_0 = option_or-none _ _ parts.0 in
    let at_1 = option_or-none _ _ at_0.1 in
    let at_2 = option_or-none _ _ at_1.1 in
    let at_3 = option_or-none _ _ at_2.1 in
    let at_4 = option_or-none _ _ at_3.1 in
    let at_8 = option_or-none _ _ at_4.1 in
    let version = eqb-true (slice_index bytes 0) 1 (fits _ 0 at_0.0) in
    let count = leb-true (slice_index bytes 3) 16 (fits _ 3 at_3.0) in
    let entries = drop 16 bytes in
    let label = label_at bytes in
    let entries_long : length entries ≡ 240 = omega (arith, length-drop 16 bytes, long) in
    let row = reads_row file_row reads_file (slice_index bytes 3) 16 0 entries (omega (arith, count, entries_long)) (AreBytes-drop 16 bytes are) parts.1 in
    let size = length-row file_row spells_file 0 label.files row.row in
    record {
      valid = record {
        volume = within 1 8 _ (fits _ 1 at_1.0);
        trail = within 1 4 _ (fits _ 2 at_2.0);
        low = within 1 4611686018427387904 _ (fits _ 8 at_8.0);
        few = omega (arith, row.many, count);
        files = row.row;
      };
      spelled =
          joined 0 1 bytes _ _ (field_byte 0 bytes (omega (arith, long)) ∙ ap (λ b. b ∷ []) version)
          (joined 1 1 bytes _ _ (field_byte 1 bytes (omega (arith, long)))
          (joined 2 1 bytes _ _ (field_byte 2 bytes (omega (arith, long)))
          (joined 3 1 bytes _ _ (field_byte 3 bytes (omega (arith, long)) ∙ ap (λ b. b ∷ []) (sym row.many))
          (joined 4 4 bytes _ _ (field_zeros 4 4 4 bytes (omega (arith, long)) at_4.0)
          (joined 8 8 bytes _ _ (field_64 8 bytes are (omega (arith, long))) row.spelled)))))
          ∙ parts_text label (length entries - slice_index bytes 3 * 4) (omega (arith, size, row.many, entries_long, count));
    }

-- what a label's bytes hold
pub record SpellsLabel (label : Label) : Type 0 where
  pub read : label_at (label_text label) ≡ label
  pub fine : bad_label (label_text label) ≡ None

pub spells_label : (label : Label) → IsLabel label → SpellsLabel label
spells_label label is =
    let text = label_text label in
    let low : low_at text ≡ label.low = from_be_bytes-to_be_bytes_8 label.low (omega (arith, is.low.below)) in
    let left = 256 - length (label_head label ++ flat_map file_text label.files) in
    let files = row_at-spelled file_row spells_file 0 label.files left is.files in
    record {
      read = λ i. record { volume = label.volume; trail = label.trail; low = low i; files = files i };
      fine =
          option_or-behind (first_of (bad_label_head text)) _
          (
          option_or-behind _ _ (none_unless _ 1 (between 1 8 label.volume is.volume))
          ∙ option_or-behind _ _ (none_unless _ 2 (between 1 4 label.trail is.trail))
          ∙ option_or-behind _ _ (none_unless _ 3 (le-leb (length label.files) 16 is.few))
          ∙ option_or-behind _ _ (none_unless _ 8 (ap (is_between 1 4611686018427387904) low ∙ between 1 4611686018427387904 label.low is.low))
          )
          ∙ bad_row-spelled file_row spells_file 16 0 label.files left is.files;
    }

-- the bytes of a label have nothing wrong
pub not_bad : (bytes : List ℕ) (label : Label) (at : ℕ) → IsLabel label → bytes ≡ label_text label → ¬ (bad_label bytes ≡ Some at)
not_bad bytes label at is spelled some = absurd (cc (ap bad_label spelled ∙ (spells_label label is).fine, some))

-- where nothing is wrong in the head, the first wrong offset is behind it
pub bad_behind : (bytes entries : List ℕ) (found : Option ℕ) → first_of (bad_label_head bytes) ≡ None → entries ≡ drop 16 bytes → bad_row file_row 16 0 (slice_index bytes 3) entries ≡ found → bad_label bytes ≡ found
bad_behind bytes entries found none is wrong =
    option_or-behind (first_of (bad_label_head bytes)) _ none ∙ ap (bad_row file_row 16 0 (slice_index bytes 3)) (sym is) ∙ wrong

-- a label that was read from the bytes
pub record ReadAs (bytes : List ℕ) (label : Label) : Type 0 where
  pub same : label ≡ label_at bytes
  pub read : ReadsLabel bytes

pub read_as : (bytes entries : List ℕ) (low : ℕ) (files : List (ℕ × ℕ)) → length bytes ≡ 256 → ((i : ℕ) → get_or bytes i 0 < 256) → first_of (bad_label_head bytes) ≡ None
    → low ≡ low_at bytes → entries ≡ drop 16 bytes → files ≡ row_at file_row (slice_index bytes 3) entries → bad_row file_row 16 0 (slice_index bytes 3) entries ≡ None
    → ReadAs bytes (record { volume = slice_index bytes 1; trail = slice_index bytes 2; low = low; files = files })
read_as bytes entries low files long are none low_is entries_is files_is fine =
    let row = files_is ∙ ap (row_at file_row (slice_index bytes 3)) entries_is in
    record {
      same = λ i. record { volume = slice_index bytes 1; trail = slice_index bytes 2; low = low_is i; files = row i };
      read = reads_label bytes long (record { at = are }) (bad_behind bytes entries None none entries_is fine);
    }

module _ (bytes : List ℕ) (label : Label) (is : ReadAs bytes label) where
  pub read_valid : IsLabel label
  read_valid = subst IsLabel (sym is.same) is.read.valid

  pub read_spelled : bytes ≡ label_text label
  read_spelled = is.read.spelled ∙ ap label_text (sym is.same)

  pub read_only : (other : Label) → IsLabel other → bytes ≡ label_text other → label ≡ other
  read_only other valid spelled = is.same ∙ ap label_at spelled ∙ (spells_label other valid).read
