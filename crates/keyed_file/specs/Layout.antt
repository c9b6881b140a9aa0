-- Where the files of a volume's device hold its label and its blocks, each in a pair of slots behind a selector byte.
use Rattle.std.specs.Prelude.{◌≡◌, ℕ, ◌+◌, ◌*◌, ◌==◌, if◌then◌else◌, List, length, slice_index, take, drop}
use Rattle.keyed_file.specs.declared.block.TheConstants.{BLOCK_BYTES}

-- Where a pair of slots stands in a device's files: in this file, its selector at this offset, and its slots, of this size, one behind the other from `first` on.
pub record Pair : Type 0 where
  pub file : ℕ
  pub selector : ℕ
  pub first : ℕ
  pub size : ℕ

-- so many bytes from an offset on
abbrev pub bytes_at : ℕ → ℕ → List ℕ → List ℕ
bytes_at at count bytes = take count (drop at bytes)

-- this text stands from an offset on
abbrev pub IsSpelledAt : List ℕ → ℕ → List ℕ → Type 0
IsSpelledAt bytes at text = bytes_at at (length text) bytes ≡ text

-- the slot that a selector byte names: 1 is slot 1, any other byte slot 0
abbrev pub selected_by : ℕ → ℕ
selected_by byte = if byte == 1 then 1 else 0

-- the pair of a volume's label: its selector is byte 1 of file 1
abbrev pub label_pair : Pair
label_pair = record { file = 1; selector = 1; first = 256; size = 256 }

-- the pair of a block: its selector is the byte of its number, and its slots stand behind 256 selectors, in the order of the blocks
abbrev pub block_pair : ℕ → ℕ → Pair
block_pair file number = record { file = 1 + file; selector = number; first = 256 + 2 * number * BLOCK_BYTES; size = BLOCK_BYTES }

-- where a slot of a pair stands
abbrev pub slot_at : Pair → ℕ → ℕ
slot_at pair slot = pair.first + slot * pair.size

-- the slot that the pair's selector names has this text
abbrev pub ShowsPair : List ℕ → Pair → List ℕ → Type 0
ShowsPair bytes pair text = IsSpelledAt bytes (slot_at pair (selected_by (slice_index bytes pair.selector))) text

-- the length of a label file
abbrev pub label_length : ℕ
label_length = 768

-- the length of a data file of so many blocks
abbrev pub data_length : ℕ → ℕ
data_length blocks = 256 + 2 * blocks * BLOCK_BYTES
