-- How the labels of volumes and of dumps are spelled, in 256 bytes each.
use Rattle.std.specs.Prelude.{ℕ, ◌+◌, ◌≤◌, ◌&&◌, ◌==◌, nat_le, nat_lt, List, [], ◌∷◌, ◌++◌, length, drop, replicate, flat_map, Option, slice_index, slice_range}
use Rattle.std.specs.Int.{w16, w64, to_be_bytes, from_be_bytes}
use Rattle.std.specs.Option.{option_or}
use Rattle.tmf_model.specs.Config.{IsWithin}
use Rattle.tmf_model.specs.Transid.{is_between}
use Rattle.tmf_model.specs.Word.{padded}
use Rattle.keyed_file.specs.declared.dump_label.DumpLabel.{DumpLabel}
use Rattle.keyed_file.specs.declared.label.Label.{Label}
use Rattle.keyed_file.specs.Fields.{first_difference, first_of, least_of, offset_unless, first_nonzero}
use Rattle.keyed_file.specs.Row.{RowFormat, IsRow, row_at, bad_row}

-- a file and its blocks, in 4 bytes: the file, a zero, the blocks
abbrev pub file_text : ℕ × ℕ → List ℕ
file_text file = file.0 ∷ 0 ∷ [] ++ to_be_bytes w16 file.1

abbrev pub blocks_at : List ℕ → ℕ
blocks_at bytes = from_be_bytes w16 (slice_range bytes 2 4)

-- The table of a file: 1 to 16 and above the one before it, a zero, and 1 to 256 blocks.
abbrev pub bad_file : ℕ → ℕ → List ℕ → List (Option ℕ)
bad_file at previous bytes =
    offset_unless (nat_lt previous (slice_index bytes 0) && is_between 1 16 (slice_index bytes 0)) at
    ∷ first_nonzero (at + 1) (slice_range bytes 1 2)
    ∷ offset_unless (is_between 1 256 (blocks_at bytes)) (at + 2)
    ∷ []

-- the files of a label as a row
abbrev pub file_row : RowFormat (ℕ × ℕ) ℕ
file_row = record {
  width = 4;
  text = file_text;
  item_at = λ bytes. (slice_index bytes 0, blocks_at bytes);
  fits = λ previous file. (nat_lt previous file.0 && is_between 1 16 file.0) && is_between 1 256 file.1;
  mark = λ file. file.0;
  bad_item = λ at previous bytes. first_of (bad_file at previous bytes);
}

-- the label's numbers are in their ranges, and its files, at most 16, in rising order
pub record IsLabel (label : Label) : Type 0 where
  pub volume : IsWithin 1 8 label.volume
  pub trail : IsWithin 1 4 label.trail
  pub low : IsWithin 1 4611686018427387904 label.low
  pub few : length label.files ≤ 16
  pub files : IsRow file_row 0 label.files

-- the fields before the files, in the order of their offsets
abbrev pub label_head : Label → List ℕ
label_head label = 1 ∷ label.volume ∷ label.trail ∷ length label.files ∷ 0 ∷ 0 ∷ 0 ∷ 0 ∷ [] ++ to_be_bytes w64 label.low

-- the bytes of a volume's label
abbrev pub label_text : Label → List ℕ
label_text label = padded 256 (label_head label ++ flat_map file_text label.files)

abbrev pub low_at : List ℕ → ℕ
low_at bytes = from_be_bytes w64 (slice_range bytes 8 16)

-- the label that the bytes hold, where nothing is wrong
abbrev pub label_at : List ℕ → Label
label_at bytes = record {
  volume = slice_index bytes 1;
  trail = slice_index bytes 2;
  low = low_at bytes;
  files = row_at file_row (slice_index bytes 3) (drop 16 bytes);
}

-- The table of the fields before the files, each with the first offset that is wrong there.
abbrev pub bad_label_head : List ℕ → List (Option ℕ)
bad_label_head bytes =
    offset_unless (slice_index bytes 0 == 1) 0
    ∷ offset_unless (is_between 1 8 (slice_index bytes 1)) 1
    ∷ offset_unless (is_between 1 4 (slice_index bytes 2)) 2
    ∷ offset_unless (nat_le (slice_index bytes 3) 16) 3
    ∷ first_nonzero 4 (slice_range bytes 4 8)
    ∷ offset_unless (is_between 1 4611686018427387904 (low_at bytes)) 8
    ∷ []

-- the first offset at which the bytes are wrong, if they are no volume's label
abbrev pub bad_label : List ℕ → Option ℕ
bad_label bytes = option_or (first_of (bad_label_head bytes)) (bad_row file_row 16 0 (slice_index bytes 3) (drop 16 bytes))

-- the first offset at which the bytes are wrong, if they are not the wanted label with some low position: at a field out of its range, or at the first
-- byte that differs from the wanted one, whichever stands first
abbrev pub bad_label_at : Label → List ℕ → Option ℕ
bad_label_at wanted bytes = least_of (bad_label bytes) (first_difference 0 bytes (label_text (record wanted { low = low_at bytes })))

-- the dump label's numbers are in their ranges
pub record IsDumpLabel (label : DumpLabel) : Type 0 where
  pub volume : IsWithin 1 8 label.volume
  pub body : IsWithin 2 3 label.body
  pub start : IsWithin 1 4611686018427387904 label.start
  pub sequence : IsWithin 1 18446744073709551615 label.sequence

-- the bytes of a dump's label
abbrev pub dump_text : DumpLabel → List ℕ
dump_text label =
    1 ∷ label.volume ∷ label.body ∷ 0 ∷ 0 ∷ 0 ∷ 0 ∷ 0 ∷ []
    ++ to_be_bytes w64 label.start
    ++ to_be_bytes w64 label.sequence
    ++ replicate 232 0

abbrev pub start_at : List ℕ → ℕ
start_at bytes = from_be_bytes w64 (slice_range bytes 8 16)

abbrev pub sequence_at : List ℕ → ℕ
sequence_at bytes = from_be_bytes w64 (slice_range bytes 16 24)

-- the dump label that the bytes hold, where nothing is wrong
abbrev pub dump_at : List ℕ → DumpLabel
dump_at bytes = record { volume = slice_index bytes 1; body = slice_index bytes 2; start = start_at bytes; sequence = sequence_at bytes }

-- its table
abbrev pub bad_dump_fields : List ℕ → List (Option ℕ)
bad_dump_fields bytes =
    offset_unless (slice_index bytes 0 == 1) 0
    ∷ offset_unless (is_between 1 8 (slice_index bytes 1)) 1
    ∷ offset_unless (is_between 2 3 (slice_index bytes 2)) 2
    ∷ first_nonzero 3 (slice_range bytes 3 8)
    ∷ offset_unless (is_between 1 4611686018427387904 (start_at bytes)) 8
    ∷ offset_unless (nat_le 1 (sequence_at bytes)) 16
    ∷ first_nonzero 24 (slice_range bytes 24 256)
    ∷ []

-- the first offset at which the bytes are wrong, if they are no dump's label
abbrev pub bad_dump_label : List ℕ → Option ℕ
bad_dump_label bytes = first_of (bad_dump_fields bytes)

-- the same where the volume has to be this one
abbrev pub bad_dump_label_at : ℕ → List ℕ → Option ℕ
bad_dump_label_at volume bytes = least_of (bad_dump_label bytes) (offset_unless (slice_index bytes 1 == volume) 1)
