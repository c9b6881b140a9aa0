-- The device in a fuse, whether the fuse is armed, and the fuse's counts of cuts and of faults.
use Rattle.std.specs.Prelude.{◌≡◌, ◌≤◌, ◌+◌, ℕ, Bool, true, false}
use Rattle.disk_model.specs.MemDisk.{next_count}
use Rattle.disk_model.specs.declared.fuse.Fuse.{Fuse}

-- the device that a fuse wraps
abbrev pub device_of : {D : Type 0} → Fuse D → D
device_of fuse = fuse.device

-- whether the countdown may cut the calls of a fuse
abbrev pub is_armed : {D : Type 0} → Fuse D → Bool
is_armed fuse = fuse.armed

-- how many calls of a fuse were cut
abbrev pub cuts_of : {D : Type 0} → Fuse D → ℕ
cuts_of fuse = fuse.cuts

-- how often a fuse has failed, where this counts how often its device has: the cuts count too
abbrev pub fuse_faults : {D : Type 0} → (D → ℕ) → Fuse D → ℕ
fuse_faults faults fuse = faults (device_of fuse) + cuts_of fuse

-- a fuse that was just put round its device: disarmed, with no call cut
pub record IsUncut {D : Type 0} (fuse : Fuse D) : Type 0 where
  pub disarmed : is_armed fuse ≡ false
  pub cuts : cuts_of fuse ≡ 0

-- a fuse is armed after this, or disarmed, and nothing else of it is changed
pub record IsSet {D : Type 0} (arms : Bool) (old new : Fuse D) : Type 0 where
  pub armed : is_armed new ≡ arms
  pub device : device_of new ≡ device_of old
  pub cuts : cuts_of new ≡ cuts_of old

-- no call of a fuse was cut, and it is armed or not as before
pub record CutsNone {D : Type 0} (old new : Fuse D) : Type 0 where
  pub armed : is_armed new ≡ is_armed old
  pub cuts : cuts_of new ≡ cuts_of old

-- a call was cut: the fuse is armed, it counts one more cut, and its device is as it was
pub record IsCut {D : Type 0} (old new : Fuse D) : Type 0 where
  pub was_armed : is_armed old ≡ true
  pub armed : is_armed new ≡ true
  pub device : device_of new ≡ device_of old
  pub cuts : cuts_of new ≡ next_count (cuts_of old)

-- two states of one fuse: it is armed or not as before, its cuts did not fall, and they rose only if it was armed
pub record KeepsCuts {D : Type 0} (old new : Fuse D) : Type 0 where
  pub armed : is_armed new ≡ is_armed old
  pub later : cuts_of old ≤ cuts_of new
  pub uncut : is_armed old ≡ false → cuts_of new ≡ cuts_of old

-- two states of one fuse, where this says so of its device
pub record IsSameFuse {D : Type 0} (is_same : D → D → Type 0) (old new : Fuse D) : Type 0 where
  pub device : is_same (device_of old) (device_of new)
  pub cuts : KeepsCuts old new
