-- Blocks: the records of one block of a file.
use Rattle.std.specs.Prelude.{◌≡◌, ℕ, ◌<◌, ◌≤◌, ◌^◌, Bool, true, ◌&&◌, ◌||◌, not, nat_lt, ◌⊎◌, ⊤, List, ◌++◌, length, filter, Option, Some, None, is_some, bytes_eq}
use Rattle.std.specs.Cmp.Lexicographic.{slice_cmp}
use Rattle.std.specs.List.{AllByRecursion, list_any}
use Rattle.std.specs.List.Sorted.{IsStrictlySortedBy}
use Rattle.std.specs.Map.{lookup, keys_of}
use Rattle.std.specs.Ordering.{nat_cmp}
use Rattle.tmf_model.specs.Word.{is_key, is_value}

-- what a block holds: the changes of its disc's first `position` records, and its records with their keys
pub record KeyedBlock : Type 0 where
  pub file : ℕ
  pub number : ℕ
  pub position : ℕ
  pub records : List (List ℕ × List ℕ)

-- a key with its value
abbrev pub is_record : List ℕ × List ℕ → Bool
is_record entry = is_key entry.0 && is_value entry.1

-- the numbers fit their fields, and at most 62 records stand in rising order of their keys
pub record IsBlock (block : KeyedBlock) : Type 0 where
  pub file : block.file < 2 ^ 8
  pub number : block.number < 2 ^ 16
  pub position : block.position < 2 ^ 64
  pub few : length block.records ≤ 62
  pub each : AllByRecursion (λ entry. is_record entry ≡ true) block.records
  pub rising : IsStrictlySortedBy (slice_cmp nat_cmp) (keys_of block.records)

-- the value, if any, that the block has at a key
abbrev pub value_at : KeyedBlock → List ℕ → Option (List ℕ)
value_at block key = lookup (bytes_eq key) block.records

-- whether the block has a record of the key
abbrev pub has_key : KeyedBlock → List ℕ → Bool
has_key block key = is_some (value_at block key)

-- those of the keys that have no record
abbrev pub new_keys : List (List ℕ × List ℕ) → List (List ℕ) → List (List ℕ)
new_keys records keys = filter (λ key. not (is_some (lookup (bytes_eq key) records))) keys

-- the keys that take the block's room: those of its records, and of the kept ones those that have none
abbrev pub taken_keys : KeyedBlock → List (List ℕ) → List (List ℕ)
taken_keys block kept = keys_of block.records ++ new_keys block.records kept

-- whether the key has room beside the kept ones: it is present or kept, or fewer than 62 keys take room
abbrev pub has_room : KeyedBlock → List (List ℕ) → List ℕ → Bool
has_room block kept key =
    has_key block key || (list_any (bytes_eq key) kept || nat_lt (length (taken_keys block kept)) 62)

-- the records have room for the value at the key: there is none, or the key is present, or there are fewer than 62
abbrev pub CanTake : List (List ℕ × List ℕ) → List ℕ → Option (List ℕ) → Type 0
CanTake records key None = ⊤
CanTake records key (Some value) = (is_some (lookup (bytes_eq key) records) ≡ true) ⊎ (length records < 62)
