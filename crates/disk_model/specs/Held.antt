-- What a device holds, what each call does to it, and what a crash may leave of it.
use Rattle.std.specs.Prelude.{◌≡◌, ◌≢◌, ◌⊎◌, ℕ, ◌+◌, ◌-◌, ◌<◌, ◌≤◌, ◌^◌, Bool, true, false, ◌&&◌, ◌||◌, nat_le, nat_lt, List, [], ◌∷◌, ◌++◌, length, take, drop, slice_index, Option, Some, None, IsSome, IsTrue, Result, IsErr}

-- a file: its bytes, which offsets were written since the last sync, and the length that it had then
pub record File : Type 0 where
  pub bytes : List ℕ
  pub risk : ℕ → Bool
  pub synced : ℕ

-- the synced length is within the length, and no file has more than 2^63 - 1 bytes
pub record IsSound (file : File) : Type 0 where
  pub synced : file.synced ≤ length file.bytes
  pub short : length file.bytes < 2 ^ 63

-- the files by their numbers
abbrev pub Held : Type 0
Held = ℕ → Option File

-- whether an offset is in the range of n bytes from `at` on
abbrev pub is_within : ℕ → ℕ → ℕ → Bool
is_within at n i = nat_le at i && nat_lt i (at + n)

-- A crash may leave this image of a file: it keeps each byte below the synced length that is not at risk.
-- It ends anywhere from the synced length on, nothing else is said of its bytes, and nothing of it is at risk.
pub record LeavesFile (file image : File) : Type 0 where
  pub same : (i : ℕ) → i < file.synced → file.risk i ≡ false → slice_index image.bytes i ≡ slice_index file.bytes i
  pub no_shorter : file.synced ≤ length image.bytes
  pub no_longer : length image.bytes < 2 ^ 63
  pub settled : (i : ℕ) → image.risk i ≡ false
  pub synced : image.synced ≡ length image.bytes

-- a file is there after a crash exactly where one was there before
abbrev pub LeavesAt : Option File → Option File → Type 0
LeavesAt None None = Unit {0}
LeavesAt (Some file) (Some image) = LeavesFile file image
LeavesAt None (Some image) = ⊥
LeavesAt (Some file) None = ⊥

-- a crash may leave this image of what is held
abbrev pub Leaves : Held → Held → Type 0
Leaves held image = (n : ℕ) → LeavesAt (held n) (image n)

-- the file with these bytes written from `at` on, and their range at risk
abbrev pub written : ℕ → List ℕ → File → File
written at bytes file = record { bytes = take at file.bytes ++ bytes ++ drop (at + length bytes) file.bytes; risk = λ i. file.risk i || is_within at (length bytes) i; synced = file.synced }

-- What a failed write of n bytes may leave of a file: its own range may read as anything and be at risk.
-- Past the synced length all is at risk anyway, and reads as it did.
pub record Tears (at n : ℕ) (old new : File) : Type 0 where
  pub same : (i : ℕ) → i < length old.bytes → is_within at n i ≡ false → slice_index new.bytes i ≡ slice_index old.bytes i
  pub no_shorter : length old.bytes ≤ length new.bytes
  pub risk : (i : ℕ) → i < old.synced → is_within at n i ≡ false → old.risk i ≡ false → new.risk i ≡ false
  pub synced : new.synced ≡ old.synced

-- the range of n bytes from `at` on is at risk
abbrev pub Endangers : ℕ → ℕ → File → Type 0
Endangers at n file = (i : ℕ) → is_within at n i ≡ true → file.risk i ≡ true

-- What a failed write of n bytes leaves of a file: the range is at risk. Where there was no place to record it, nothing was written, and the file is as it was.
abbrev pub EndangersOrKeeps : Type 0 → ℕ → ℕ → File → File → Type 0
EndangersOrKeeps HasPlace at n old new = Endangers at n new ⊎ ((¬ HasPlace) × (new ≡ old))

-- the file with nothing at risk, and synced to its length
abbrev pub synced : File → File
synced file = record { bytes = file.bytes; risk = λ _. false; synced = length file.bytes }

-- a new file: one byte 0
abbrev pub created : File
created = record { bytes = 0 ∷ []; risk = λ _. false; synced = 1 }

-- a file of these bytes, all of them synced
abbrev pub at_rest : List ℕ → File
at_rest bytes = record { bytes = bytes; risk = λ _. false; synced = length bytes }

-- this is said of the file with this number, if it is there
abbrev pub IfThere : Held → ℕ → (File → Type 0) → Type 0
IfThere held n P = (file : File) → held n ≡ Some file → P file

-- the file with this number is there, and this is said of it
abbrev pub IsThere : Held → ℕ → (File → Type 0) → Type 0
IsThere held n P = (file : File) × (held n ≡ Some file) × P file

-- each file but this one is as it was
abbrev pub Elsewhere : ℕ → Held → Held → Type 0
Elsewhere n old new = (q : ℕ) → q ≢ n → new q ≡ old q

-- the least number of a file, or none where no file is there
abbrev pub IsLeast : Held → Option ℕ → Type 0
IsLeast held None = (q : ℕ) → held q ≡ None
IsLeast held (Some n) = IsSome (held n) × ((q : ℕ) → q < n → held q ≡ None)

-- what a read of n bytes from `at` on gives
abbrev pub read_of : Option File → ℕ → ℕ → List ℕ
read_of None at n = []
read_of (Some file) at n = take n (drop at file.bytes)

-- how long a file is, where it is there
abbrev pub length_of : Option File → Option ℕ
length_of None = None
length_of (Some file) = Some (length file.bytes)

-- a count rose, or it stands at the end of its type
abbrev pub Rose : ℕ → ℕ → Type 0
Rose before now = before < 2 ^ 64 - 1 → before < now

-- a count of faults never falls, and it rose where the call failed
pub record HasCause {T E : Type 0} (before now : ℕ) (result : Result T E) : Type 0 where
  pub later : before ≤ now
  pub failed : IsErr result → Rose before now

-- the device as a crash may leave it, where these are the members of its kind of device
pub record Restarts {D : Type 0} (tells : D → Bool) (held : D → Held) (faults : D → ℕ) (is_same : D → D → Type 0) (old new : D) : Type 0 where
  pub telling : tells new ≡ tells old
  pub device : is_same old new
  pub image : IsTrue (tells old) → Leaves (held old) (held new)
  pub later : faults old ≤ faults new
