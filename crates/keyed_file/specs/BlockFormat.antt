-- How a block is spelled, in 4,096 bytes: a head of 128 bytes, 62 slots of 64 bytes for records, and zeros.
use Rattle.std.specs.Prelude.{ℕ, ◌+◌, Bool, true, ◌&&◌, ◌||◌, not, ◌==◌, nat_le, List, [], ◌∷◌, ◌++◌, length, take, drop, replicate, flat_map, Option, Some, None, slice_index, slice_range, ⊤}
use Rattle.std.specs.Cmp.Lexicographic.{slice_cmp}
use Rattle.std.specs.Int.{w16, w64, to_be_bytes, from_be_bytes}
use Rattle.std.specs.List.{list_all}
use Rattle.std.specs.Option.{option_or}
use Rattle.std.specs.Ordering.{nat_cmp, is_lt}
use Rattle.tmf_model.specs.Config.{IsWithin}
use Rattle.tmf_model.specs.Place.{block_of}
use Rattle.tmf_model.specs.Transid.{is_between}
use Rattle.tmf_model.specs.Word.{is_key, padded}
use Rattle.tmf_model.specs.declared.word.TheConstants.{VALUE_BYTES}
use Rattle.keyed_file.specs.declared.block.TheConstants.{BLOCK_BYTES}
use Rattle.keyed_file.specs.declared.home.Home.{Home}
use Rattle.keyed_file.specs.Block.{KeyedBlock, is_record}
use Rattle.keyed_file.specs.Fields.{first_of, offset_unless, first_nonzero, bad_word}
use Rattle.keyed_file.specs.Row.{RowFormat, row_at, bad_row}

-- a home's file has 1 to 256 blocks
abbrev pub HasHome : Option Home → Type 0
HasHome None = ⊤
HasHome (Some home) = IsWithin 1 256 home.blocks

-- the block's file, its number and its keys' blocks are those of its home, where it has to be at home
abbrev pub is_home_file : Option Home → ℕ → Bool
is_home_file None file = true
is_home_file (Some home) file = file == home.file

abbrev pub is_home_number : Option Home → ℕ → Bool
is_home_number None number = true
is_home_number (Some home) number = number == home.number

abbrev pub is_home_key : Option Home → List ℕ → Bool
is_home_key None key = true
is_home_key (Some home) key = block_of key home.blocks == home.number

-- the block has the file and the number of the place where it has to stand, and each of its keys lives there
abbrev pub is_at_home : Option Home → KeyedBlock → Bool
is_at_home home block =
    is_home_file home block.file
    && (is_home_number home block.number && list_all (λ entry. is_home_key home entry.0) block.records)

-- the key comes behind the one before it; before the first key stands the empty word
abbrev pub is_behind : List ℕ → List ℕ → Bool
is_behind previous key = is_lt (slice_cmp nat_cmp previous key)

-- a record in its slot: the lengths of its key and of its value, six zeros, the key in 16 bytes and the value in 40
abbrev pub record_text : List ℕ × List ℕ → List ℕ
record_text entry =
    length entry.0 ∷ length entry.1 ∷ 0 ∷ 0 ∷ 0 ∷ 0 ∷ 0 ∷ 0 ∷ []
    ++ (padded 16 entry.0 ++ padded VALUE_BYTES entry.1)

abbrev pub key_at : List ℕ → List ℕ
key_at slot = take (slice_index slot 0) (slice_range slot 8 24)

-- the key and the value that a slot holds
abbrev pub record_at : List ℕ → List ℕ × List ℕ
record_at slot = (key_at slot, take (slice_index slot 1) (slice_range slot 24 64))

-- The table of a slot, in the order of its offsets, each with the first offset that is wrong there. What is no key
-- has no block.
abbrev pub bad_lengths : ℕ → List ℕ → List (Option ℕ)
bad_lengths at slot =
    offset_unless (is_between 1 16 (slice_index slot 0)) at
    ∷ offset_unless (is_between 1 VALUE_BYTES (slice_index slot 1)) (at + 1)
    ∷ first_nonzero (at + 2) (slice_range slot 2 8)
    ∷ []

abbrev pub bad_words : Option Home → ℕ → List ℕ → List ℕ → List (Option ℕ)
bad_words home at previous slot =
    offset_unless (is_behind previous (key_at slot) && (not (is_key (key_at slot)) || is_home_key home (key_at slot))) (at + 8)
    ∷ bad_word (at + 8) (slice_index slot 0) (slice_range slot 8 24)
    ∷ bad_word (at + 24) (slice_index slot 1) (slice_range slot 24 64)
    ∷ []

-- the slots of a block as a row
abbrev pub record_row : Option Home → RowFormat (List ℕ × List ℕ) (List ℕ)
record_row home = record {
  width = 64;
  text = record_text;
  item_at = record_at;
  fits = λ previous entry. is_record entry && (is_behind previous entry.0 && is_home_key home entry.0);
  mark = λ entry. entry.0;
  bad_item = λ at previous slot. first_of (bad_lengths at slot ++ bad_words home at previous slot);
}

-- the fields before the slots, in the order of their offsets
abbrev pub block_head : KeyedBlock → List ℕ
block_head block =
    1 ∷ 0 ∷ block.file ∷ 0 ∷ []
    ++ to_be_bytes w16 block.number
    ++ 0 ∷ 0 ∷ []
    ++ to_be_bytes w64 block.position
    ++ to_be_bytes w16 (length block.records)
    ++ replicate 110 0

-- the bytes of a block
abbrev pub block_text : KeyedBlock → List ℕ
block_text block = padded BLOCK_BYTES (block_head block ++ flat_map record_text block.records)

-- the block's number in its file
abbrev pub number_at : List ℕ → ℕ
number_at bytes = from_be_bytes w16 (slice_range bytes 4 6)

-- how many of its disc's changes the block holds
abbrev pub position_at : List ℕ → ℕ
position_at bytes = from_be_bytes w64 (slice_range bytes 8 16)

-- how many records the block holds
abbrev pub count_at : List ℕ → ℕ
count_at bytes = from_be_bytes w16 (slice_range bytes 16 18)

-- the block that the bytes hold, where nothing is wrong
abbrev pub block_at : Option Home → List ℕ → KeyedBlock
block_at home bytes = record {
  file = slice_index bytes 2;
  number = number_at bytes;
  position = position_at bytes;
  records = row_at (record_row home) (count_at bytes) (drop 128 bytes);
}

-- The table of the head, likewise.
abbrev pub bad_head : Option Home → List ℕ → List (Option ℕ)
bad_head home bytes =
    offset_unless (slice_index bytes 0 == 1) 0
    ∷ first_nonzero 1 (slice_range bytes 1 2)
    ∷ offset_unless (is_home_file home (slice_index bytes 2)) 2
    ∷ first_nonzero 3 (slice_range bytes 3 4)
    ∷ offset_unless (is_home_number home (number_at bytes)) 4
    ∷ first_nonzero 6 (slice_range bytes 6 8)
    ∷ offset_unless (nat_le (count_at bytes) 62) 16
    ∷ first_nonzero 18 (slice_range bytes 18 128)
    ∷ []

-- the first offset at which the bytes are wrong, if they are no block's
abbrev pub bad_block : Option Home → List ℕ → Option ℕ
bad_block home bytes =
    option_or (first_of (bad_head home bytes)) (bad_row (record_row home) 128 [] (count_at bytes) (drop 128 bytes))
