-- What a memory disk holds, and which of its calls fail.
use Rattle.std.specs.Prelude.{◌≡◌, ℕ, Bool, true, not, List, [], ◌∷◌, length, slice_index, vec_capacity, IsTrue, IfSome, Result, nat_lt, is_err, Contains, ◌+◌, ◌-◌, ◌%◌, ◌^◌, ◌<◌, ◌≤◌, ◌↔◌, ◌&&◌, if◌then◌else◌}
use Rattle.std.specs.Ordering.{nat_cmp}
use Rattle.std.specs.Option.{option_map, option_map_or}
use Rattle.std.specs.BTreeMap.{BTreeMap, get}
use Rattle.std.specs.BTreeSet.{contains}
use Rattle.disk_model.specs.Held.{Held, File, is_within}
use Rattle.disk_model.specs.Extent.{is_at_risk}
use Rattle.disk_model.specs.declared.base.Base.{Base}
use Rattle.disk_model.specs.declared.mem_file.MemFile.{MemFile}
use Rattle.disk_model.specs.declared.base.Overwritten.{Overwritten}
use Rattle.disk_model.specs.declared.mem_disk.MemDisk.{MemDisk}

-- a file in memory as a file of a device
abbrev pub file_of : MemFile → File
file_of f = record { bytes = f.bytes.items; risk = is_at_risk f.risk.items; synced = f.base.length }

-- what files in memory are as files of a device
abbrev pub held_in : BTreeMap ℕ MemFile → Held
held_in files n = option_map file_of (get nat_cmp files n)

-- what the disk holds
abbrev pub held_of : MemDisk → Held
held_of m = held_in m.files

-- the byte of a moment at an offset at which this byte stands now: the first range that was written over has it
abbrev pub earlier_byte : List Overwritten → ℕ → ℕ → ℕ
earlier_byte [] i now = now
earlier_byte (range ∷ later) i now = if is_within range.at (length range.bytes.items) i then slice_index range.bytes.items (i - range.at) else earlier_byte later i now

-- the byte that stood at an offset at the last sync, where this one stands now: 0 past the length of that time
abbrev pub synced_byte : Base → ℕ → ℕ → ℕ
synced_byte base i now = if nat_lt i base.length then earlier_byte base.replaced.items i now else 0

-- the bytes of a file at its last sync, by their offsets
abbrev pub earlier_of : MemFile → ℕ → ℕ
earlier_of f i = synced_byte f.base i (slice_index f.bytes.items i)

-- the bytes of files at their last syncs, by their numbers
abbrev pub earlier_at : BTreeMap ℕ MemFile → ℕ → ℕ → ℕ
earlier_at files n = option_map_or earlier_of (get nat_cmp files n) (λ i. 0)

-- those of the disk's files
abbrev pub earlier_in : MemDisk → ℕ → ℕ → ℕ
earlier_in m = earlier_at m.files

-- a place is free for the next range at risk
abbrev pub HasPlace : MemFile → Type 0
HasPlace f = length f.risk.items < vec_capacity f.risk

-- the bytes of the last sync are those of now, and a place is free for the next range at risk
pub record IsFresh (f : MemFile) : Type 0 where
  pub here : (i : ℕ) → i < length f.bytes.items → earlier_of f i ≡ slice_index f.bytes.items i
  pub past : (i : ℕ) → length f.bytes.items ≤ i → earlier_of f i ≡ 0
  pub place : HasPlace f

-- the file is fresh, where it is there
abbrev pub IsFreshIn : MemDisk → ℕ → Type 0
IsFreshIn m n = IfSome (get nat_cmp m.files n) IsFresh

-- a place is free in the file with this number for the next range at risk, where it is there
abbrev pub HasPlaceAt : BTreeMap ℕ MemFile → ℕ → Type 0
HasPlaceAt files n = IfSome (get nat_cmp files n) HasPlace

-- of the file with this number the bytes of the last sync are as they were, and a place that was free is free
pub record RemembersAt (old new : BTreeMap ℕ MemFile) (n : ℕ) : Type 0 where
  pub earlier : (i : ℕ) → earlier_at new n i ≡ earlier_at old n i
  pub place : HasPlaceAt old n → HasPlaceAt new n

-- the same of a file of the disk
abbrev pub Remembers : MemDisk → MemDisk → ℕ → Type 0
Remembers old new n = RemembersAt old.files new.files n

abbrev pub HasPlaceIn : MemDisk → ℕ → Type 0
HasPlaceIn m n = HasPlaceAt m.files n

-- the number that chooses the images
abbrev pub choice_of : MemDisk → ℕ
choice_of m = m.choice

-- the number from which the next image is picked
abbrev pub number_of : MemDisk → ℕ
number_of m = m.draws.state

-- how many calls were made
abbrev pub calls_of : MemDisk → ℕ
calls_of m = m.calls

-- how many growths were refused
abbrev pub refused_of : MemDisk → ℕ
refused_of m = m.refused

-- the call with this number is one that fails
abbrev pub IsListed : MemDisk → ℕ → Type 0
IsListed m i = IsTrue (contains nat_cmp m.fails i)

-- how many listed calls were made
abbrev pub listed_of : MemDisk → ℕ
listed_of m = m.listed

-- one more is counted, unless the count stands at the end of its type
abbrev pub next_count : ℕ → ℕ
next_count n = if nat_lt n (2 ^ 64 - 1) then n + 1 else n

-- whether the next call is one that fails
abbrev pub fails_next : MemDisk → Bool
fails_next m = contains nat_cmp m.fails m.calls

-- the call is counted, and it fails exactly where it is listed
pub record FailsExactly {T E : Type 0} (old new : MemDisk) (result : Result T E) : Type 0 where
  pub fails : is_err result ≡ fails_next old
  pub calls : calls_of new ≡ next_count (calls_of old)
  pub listed : listed_of new ≡ (if fails_next old then next_count (listed_of old) else listed_of old)
  pub refused : refused_of new ≡ refused_of old
  pub list : (i : ℕ) → IsListed new i ↔ IsListed old i
  pub choice : choice_of new ≡ choice_of old
  pub number : number_of new ≡ number_of old

-- The call is counted, and it fails where it is listed. It fails elsewhere only where a growth is refused, which is counted.
pub record FailsOrIsRefused {T E : Type 0} (old new : MemDisk) (result : Result T E) : Type 0 where
  pub fails : fails_next old ≡ true → is_err result ≡ true
  pub calls : calls_of new ≡ next_count (calls_of old)
  pub listed : listed_of new ≡ (if fails_next old then next_count (listed_of old) else listed_of old)
  pub refused : refused_of new ≡ (if is_err result && not (fails_next old) then next_count (refused_of old) else refused_of old)
  pub list : (i : ℕ) → IsListed new i ↔ IsListed old i
  pub choice : choice_of new ≡ choice_of old
  pub number : number_of new ≡ number_of old

-- no call and no failure is counted, and the same calls fail later on
pub record IsUncounted (old new : MemDisk) : Type 0 where
  pub calls : calls_of new ≡ calls_of old
  pub listed : listed_of new ≡ listed_of old
  pub refused : refused_of new ≡ refused_of old
  pub choice : choice_of new ≡ choice_of old
  pub list : (i : ℕ) → IsListed new i ↔ IsListed old i

-- no call was made, these calls are to fail, and this number chooses the images
pub record IsUncalled (number : ℕ) (fails : List ℕ) (disk : MemDisk) : Type 0 where
  pub calls : calls_of disk ≡ 0
  pub listed : listed_of disk ≡ 0
  pub refused : refused_of disk ≡ 0
  pub choice : choice_of disk ≡ number
  pub number_is : number_of disk ≡ number % 2 ^ 31
  pub list : (i : ℕ) → IsListed disk i ↔ Contains fails i
