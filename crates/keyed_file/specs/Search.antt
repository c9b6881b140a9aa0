-- Where a key stands among records in rising order.
use Rattle.std.specs.Prelude.{◌≡◌, ℕ, suc, ◌≤◌, List, [], ◌∷◌, length, take, drop, ⊤, not, Option, Some, None}
use Rattle.std.specs.Cmp.Lexicographic.{slice_cmp}
use Rattle.std.specs.FinMap.Entries.{put, where_key}
use Rattle.std.specs.List.{AllByRecursion}
use Rattle.std.specs.Ordering.{nat_cmp, is_eq}
use Rattle.std.specs.declared.cmp.Ordering.TheVariants.{Less, Equal, Greater}

-- the key is above each of the records
abbrev pub IsAbove : List ℕ → List (List ℕ × List ℕ) → Type 0
IsAbove key records = AllByRecursion (λ entry. slice_cmp nat_cmp key entry.0 ≡ Greater) records

-- the key is below the first of the records
abbrev pub IsBelowFirst : List ℕ → List (List ℕ × List ℕ) → Type 0
IsBelowFirst key [] = ⊤
IsBelowFirst key (entry ∷ entries) = slice_cmp nat_cmp key entry.0 ≡ Less

-- the record at the index has the key
pub record StandsAt (records : List (List ℕ × List ℕ)) (key : List ℕ) (at : ℕ) : Type 0 where
  pub above : IsAbove key (take at records)
  pub entry : List ℕ × List ℕ
  pub there : drop at records ≡ entry ∷ drop (suc at) records
  pub same : slice_cmp nat_cmp key entry.0 ≡ Equal

-- no record has the key, which would stand at the index
pub record MissesAt (records : List (List ℕ × List ℕ)) (key : List ℕ) (at : ℕ) : Type 0 where
  pub within : at ≤ length records
  pub above : IsAbove key (take at records)
  pub below : IsBelowFirst key (drop at records)

-- the records with this value, or none, at the key
abbrev pub with_record : List ℕ → Option (List ℕ) → List (List ℕ × List ℕ) → List (List ℕ × List ℕ)
with_record key (Some value) records = put (slice_cmp nat_cmp) key value records
with_record key None records = where_key (slice_cmp nat_cmp) (λ other. not (is_eq (slice_cmp nat_cmp key other))) records
