-- Record maps: what the files of a node hold.
use Rattle.std.specs.Prelude.{◌≡◌, ℕ, ◌==◌, ◌&&◌, List, Option, None, bytes_eq, if◌then◌else◌}
use Rattle.std.specs.Cmp.Lexicographic.{slice_cmp}
use Rattle.std.specs.List.Sorted.{IsStrictlySortedBy}
use Rattle.std.specs.Map.{lookup, keys_of}
use Rattle.std.specs.Ordering.{nat_cmp}

-- the value, if any, that each file, by its number, has at each key
abbrev pub RecordMap : Type 0
RecordMap = ℕ → List ℕ → Option (List ℕ)

-- the map without a record
abbrev pub empty_map : RecordMap
empty_map = λ file key. None

-- the map with this value, or none, at one key of one file
abbrev pub with_value : ℕ → List ℕ → Option (List ℕ) → RecordMap → RecordMap
with_value file key value map = λ other_file other_key.
    if (other_file == file) && bytes_eq other_key key then value else map other_file other_key

-- the entries, in strictly rising order of their keys, are those that the map has in the file
pub record IsListing (map : RecordMap) (file : ℕ) (entries : List (List ℕ × List ℕ)) : Type 0 where
  pub rising : IsStrictlySortedBy (slice_cmp nat_cmp) (keys_of entries)
  pub exact : (key : List ℕ) → lookup (bytes_eq key) entries ≡ map file key
