-- What is said of the devices of a bay, by their numbers.
use Rattle.std.specs.Prelude.{◌≡◌, ◌≢◌, ◌≤◌, ℕ, Bool, List, slice_get, Option, Some, None, IsTrue}
use Rattle.std.specs.Option.{option_map_or}
use Rattle.disk_model.specs.Held.{Held, Leaves, Restarts, Rose}
use Rattle.disk_model.specs.Fuse.{KeepsCuts, device_of, fuse_faults}
use Rattle.disk_model.specs.declared.disk.Disk as disk
use Rattle.disk_model.specs.declared.fuse.Fuse.{Fuse}

-- every device tells its state
abbrev pub DevicesTell : {D : Type 0} → (D → Bool) → List (Fuse D) → Type 0
DevicesTell {D} tells fuses = (n : ℕ) (fuse : Fuse D) → slice_get fuses n ≡ Some fuse → IsTrue (tells (device_of fuse))

-- these are images that a crash may leave of the devices, by their numbers
abbrev pub AreImages : {D : Type 0} → (D → Held) → List (Fuse D) → (ℕ → Held) → Type 0
AreImages {D} held fuses images = (n : ℕ) (fuse : Fuse D) → slice_get fuses n ≡ Some fuse → Leaves (held (device_of fuse)) (images n)

-- the devices hold these images, by their numbers
abbrev pub AreHeld : {D : Type 0} → (D → Held) → List (Fuse D) → (ℕ → Held) → Type 0
AreHeld {D} held fuses images = (n : ℕ) (fuse : Fuse D) → slice_get fuses n ≡ Some fuse → held (device_of fuse) ≡ images n

-- the count of faults of the fuse with this number rose
pub record RoseAt {D : Type 0} (faults : D → ℕ) (old new : List (Fuse D)) (number : ℕ) : Type 0 where
  pub before : Fuse D
  pub after : Fuse D
  pub was : slice_get old number ≡ Some before
  pub is : slice_get new number ≡ Some after
  pub rose : Rose (fuse_faults faults before) (fuse_faults faults after)

-- the devices from this number on are as they were
abbrev pub SameFrom : {D : Type 0} → ℕ → List (Fuse D) → List (Fuse D) → Type 0
SameFrom number old new = (n : ℕ) → number ≤ n → slice_get new n ≡ slice_get old n

-- a fuse that is there stays there, and this is said of it before and after
abbrev pub FuseAs : {D : Type 0} → (Fuse D → Fuse D → Type 0) → Option (Fuse D) → Option (Fuse D) → Type 0
FuseAs P None None = Unit {0}
FuseAs P (Some old) (Some new) = P old new
FuseAs P None (Some new) = ⊥
FuseAs P (Some old) None = ⊥

-- this is said of each fuse, before and after
abbrev pub EachFuse : {D : Type 0} → (Fuse D → Fuse D → Type 0) → List (Fuse D) → List (Fuse D) → Type 0
EachFuse P old new = (n : ℕ) → FuseAs P (slice_get old n) (slice_get new n)

-- a device that is there stays there, and this is said of it before and after
abbrev pub EachAs : {D : Type 0} → (D → D → Type 0) → Option (Fuse D) → Option (Fuse D) → Type 0
EachAs P old new = FuseAs (λ a b. P (device_of a) (device_of b)) old new

-- this is said of each device, before and after
abbrev pub EachDevice : {D : Type 0} → (D → D → Type 0) → List (Fuse D) → List (Fuse D) → Type 0
EachDevice P old new = EachFuse (λ a b. P (device_of a) (device_of b)) old new

-- every device is the same one, in its place
abbrev pub StayInPlace : {D : Type 0} → (D → D → Type 0) → List (Fuse D) → List (Fuse D) → Type 0
StayInPlace is_same old new = EachDevice is_same old new

-- every device goes on telling its state, or not telling it
abbrev pub KeepTelling : {D : Type 0} → (D → Bool) → List (Fuse D) → List (Fuse D) → Type 0
KeepTelling tells old new = EachDevice (λ a b. tells b ≡ tells a) old new

-- no fuse's count of faults falls
abbrev pub NoneFalls : {D : Type 0} → (D → ℕ) → List (Fuse D) → List (Fuse D) → Type 0
NoneFalls faults old new = EachFuse (λ a b. fuse_faults faults a ≤ fuse_faults faults b) old new

-- every device is the same one, in its place, tells its state as before, and its fuse's count of faults did not fall; no fuse was armed or disarmed, and only those that were armed have cut calls
pub record AreLater {D : Type 0} (kind : disk.Ghosts D) (old new : List (Fuse D)) : Type 0 where
  pub devices : StayInPlace kind.is_same old new
  pub tells : KeepTelling kind.tells old new
  pub later : NoneFalls kind.faults old new
  pub cuts : EachFuse KeepsCuts old new

-- the device in a fuse as a crash may leave it
abbrev pub FuseRestarts : {D : Type 0} → disk.Ghosts D → Fuse D → Fuse D → Type 0
FuseRestarts kind old new = Restarts (λ f. kind.tells (device_of f)) (λ f. kind.held (device_of f)) (fuse_faults kind.faults) (λ a b. kind.is_same (device_of a) (device_of b)) old new

-- every device holds what it held
abbrev pub HoldSame : {D : Type 0} → (D → Held) → List (Fuse D) → List (Fuse D) → Type 0
HoldSame held old new = EachDevice (λ a b. held b ≡ held a) old new

-- the device with this number is there, and this is said of it
abbrev pub DeviceAt : {D : Type 0} → (D → Type 0) → List (Fuse D) → ℕ → Type 0
DeviceAt {D} P fuses n = (fuse : Fuse D) × (slice_get fuses n ≡ Some fuse) × P (device_of fuse)

-- every device but the one with this number is as it was
abbrev pub SameBut : {D : Type 0} → ℕ → List (Fuse D) → List (Fuse D) → Type 0
SameBut number old new = (n : ℕ) → n ≢ number → slice_get new n ≡ slice_get old n

-- what the device with this number holds; nothing where there is none
abbrev pub held_at : {D : Type 0} → (D → Held) → List (Fuse D) → ℕ → Held
held_at held fuses number = option_map_or (λ fuse. held (device_of fuse)) (slice_get fuses number) (λ n. None)
