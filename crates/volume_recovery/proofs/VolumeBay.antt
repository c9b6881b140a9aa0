-- Calls on a bay one after the other, by what they keep of its devices.
use Rattle.std.specs.Prelude.{Option, Some, slice_get, slice_set}
use Rattle.std.proofs.Common.{◌≡◌, ◌≢◌, ◌⊎◌, inl, inr, ◌+◌, ◌<◌, ◌≤◌, ℕ, List, length, refl, sym, ap, subst, ◌∙◌, arith, ⊎_elim}
use Rattle.disk_model.specs.Devices.{AreHeld, AreLater, DeviceAt, DevicesTell, NoneFalls, RoseAt, SameBut}
use Rattle.disk_model.specs.Frame.{IsLater}
use Rattle.disk_model.specs.Fuse.{IsSameFuse, device_of, fuse_faults}
use Rattle.disk_model.specs.Held.{Held, Rose}
use Rattle.disk_model.specs.declared.disk.Disk as disk
use Rattle.disk_model.specs.declared.fuse.Fuse.{Fuse}
use Rattle.disk_model.proofs.Devices.{are-later-same, are-later-set, are-later-then, held-as, held-same, held-set, held-then, later-same, rose-after, rose-set, set-at, set-but, tell-then}
use Rattle.tmf_model.specs.declared.config.Config.{Config}
use Rattle.trail_files.specs.declared.damage.TrailFault.{TrailFault}
use Rattle.trail_files.specs.declared.damage.TrailFault.TheVariants as fault
use Rattle.volume_restore.specs.declared.fault.VolumeFault.{VolumeFault}
use Rattle.volume_restore.specs.declared.fault.VolumeFault.TheVariants as volume
use Rattle.volume_restore.specs.Inspected.{LowCause}
use Rattle.volume_restore.specs.Restored.{VolumeCause}
use Rattle.volume_recovery.specs.declared.errors.RecoverError.{RecoverError}
use Rattle.volume_recovery.specs.declared.errors.RecoverError.TheVariants.{Failed, Damaged, EpochsSpent, NoMemory}
use Rattle.volume_recovery.specs.Stop.{recover_error}
use Rattle.volume_recovery.specs.VolumeLoop.{HasFailed, IsPlain, IsUsed, ReadsBay, SameUnused, WritesBay, volume_error}

-- a device that is no other one's is as it was
pub same-unused : {D : Type 0} (config : Config) (xs ys : List (Fuse D)) (n : ℕ) → IsUsed config n → SameBut n xs ys → SameUnused config xs ys
same-unused config xs ys n used but q off = but q (λ same. off (subst (IsUsed config) (sym same) used))

pub unused-then : {D : Type 0} (config : Config) (xs ys zs : List (Fuse D)) → SameUnused config xs ys → SameUnused config ys zs → SameUnused config xs zs
unused-then config xs ys zs p q n off = q n off ∙ p n off

-- a failure that is told rose at some time
pub failed-after : {D : Type 0} (faults : D → ℕ) (config : Config) (xs ys zs : List (Fuse D)) (e : RecoverError) → NoneFalls faults xs ys → NoneFalls faults ys zs → HasFailed faults config ys zs e → HasFailed faults config xs zs e
failed-after faults config xs ys zs (Failed number) p q failed = (failed.0, rose-after faults xs ys zs number p q failed.1)
failed-after faults config xs ys zs (Damaged number damage) p q failed = tt
failed-after faults config xs ys zs EpochsSpent p q failed = tt
failed-after faults config xs ys zs NoMemory p q failed = tt

-- an answer that tells no failure has none to tell of
pub failed-number : {D : Type 0} (faults : D → ℕ) (config : Config) (xs ys : List (Fuse D)) (e : RecoverError) → ((number : ℕ) → e ≡ Failed number → IsUsed config number × RoseAt faults xs ys number) → HasFailed faults config xs ys e
failed-number faults config xs ys (Failed number) cause = cause number refl
failed-number faults config xs ys (Damaged number damage) cause = tt
failed-number faults config xs ys EpochsSpent cause = tt
failed-number faults config xs ys NoMemory cause = tt

pub number-failed : {D : Type 0} (faults : D → ℕ) (config : Config) (xs ys : List (Fuse D)) (e : RecoverError) (number : ℕ) → e ≡ Failed number → HasFailed faults config xs ys e → IsUsed config number × RoseAt faults xs ys number
number-failed faults config xs ys e number is failed = subst (HasFailed faults config xs ys) is failed

-- the device of a volume was lent: its fault is the volume's, with its cause
pub volume-failed : {D : Type 0} (faults : D → ℕ) (config : Config) (xs : List (Fuse D)) (n : ℕ) (old new : Fuse D) (it : VolumeFault) → slice_get xs n ≡ Some old → IsUsed config n
    → VolumeCause (fuse_faults faults old) (fuse_faults faults new) it → HasFailed faults config xs (slice_set xs n new) (volume_error n it)
volume-failed faults config xs n old new volume.Failed is used cause = (used, rose-set faults xs n old new is cause)
volume-failed faults config xs n old new (volume.Damaged d) is used cause = tt
volume-failed faults config xs n old new volume.NoMemory is used cause = tt

pub low-failed : {D : Type 0} (faults : D → ℕ) (config : Config) (xs : List (Fuse D)) (n : ℕ) (old new : Fuse D) (it : VolumeFault) → slice_get xs n ≡ Some old → IsUsed config n
    → LowCause (fuse_faults faults old) (fuse_faults faults new) it → HasFailed faults config xs (slice_set xs n new) (volume_error n it)
low-failed faults config xs n old new volume.Failed is used cause = (used, rose-set faults xs n old new is cause)
low-failed faults config xs n old new (volume.Damaged d) is used cause = tt
low-failed faults config xs n old new volume.NoMemory is used cause = tt

pub low-plain : (before now n : ℕ) (it : VolumeFault) → LowCause before now it → IsPlain (volume_error n it)
low-plain before now n volume.Failed cause = tt
low-plain before now n (volume.Damaged d) cause = cause
low-plain before now n volume.NoMemory cause = tt

-- and so is that of a trail
pub trail-failed : {D : Type 0} (faults : D → ℕ) (config : Config) (xs ys : List (Fuse D)) (n : ℕ) (it : TrailFault) → IsUsed config n
    → (it ≡ fault.Failed → RoseAt faults xs ys n) → HasFailed faults config xs ys (recover_error n it)
trail-failed faults config xs ys n fault.Failed used cause = (used, cause refl)
trail-failed faults config xs ys n fault.NoMemory used cause = tt
trail-failed faults config xs ys n (fault.Damaged damage) used cause = tt

module _ {D : Type 0} (kind : disk.Ghosts D) (config : Config) where
  pub reads-same : ((d : D) → kind.is_same d d) → (xs : List (Fuse D)) → ReadsBay kind config xs xs
  reads-same itself xs = record { same = held-same kind.held xs; keeps = are-later-same kind itself xs; others = λ n off. refl }

  pub reads-then : ((a b c : D) → kind.is_same a b → kind.is_same b c → kind.is_same a c) → (xs ys zs : List (Fuse D)) → ReadsBay kind config xs ys → ReadsBay kind config ys zs → ReadsBay kind config xs zs
  reads-then on xs ys zs p q = record {
    same = held-then kind.held xs ys zs p.same q.same;
    keeps = are-later-then kind on xs ys zs p.keeps q.keeps;
    others = unused-then config xs ys zs p.others q.others;
  }

  -- one device of the configuration was lent and read
  pub reads-set : ((d : D) → kind.is_same d d) → (xs : List (Fuse D)) (n : ℕ) (old new : Fuse D) → slice_get xs n ≡ Some old → IsUsed config n → kind.held (device_of new) ≡ kind.held (device_of old)
      → IsSameFuse kind.is_same old new → kind.tells (device_of new) ≡ kind.tells (device_of old) → fuse_faults kind.faults old ≤ fuse_faults kind.faults new
      → ReadsBay kind config xs (slice_set xs n new)
  reads-set itself xs n old new is used held same tells later = record {
    same = held-set kind.held xs n old new is held;
    keeps = are-later-set kind itself xs n old new is same tells later;
    others = same-unused config xs (slice_set xs n new) n used (set-but xs n new);
  }

  pub writes-same : ((d : D) → kind.is_same d d) → (xs : List (Fuse D)) → WritesBay kind config xs xs
  writes-same itself xs = record { keeps = are-later-same kind itself xs; others = λ n off. refl }

  pub writes-then : ((a b c : D) → kind.is_same a b → kind.is_same b c → kind.is_same a c) → (xs ys zs : List (Fuse D)) → WritesBay kind config xs ys → WritesBay kind config ys zs → WritesBay kind config xs zs
  writes-then on xs ys zs p q = record { keeps = are-later-then kind on xs ys zs p.keeps q.keeps; others = unused-then config xs ys zs p.others q.others }

  pub writes-read : (xs ys : List (Fuse D)) → ReadsBay kind config xs ys → WritesBay kind config xs ys
  writes-read xs ys reads = record { keeps = reads.keeps; others = reads.others }

  -- devices that were read tell, and hold their images
  pub read-tell : (xs ys : List (Fuse D)) → ReadsBay kind config xs ys → DevicesTell kind.tells xs → DevicesTell kind.tells ys
  read-tell xs ys reads tell = tell-then kind.tells xs ys reads.keeps.tells tell

  pub read-held : (xs ys : List (Fuse D)) (images : ℕ → Held) → ReadsBay kind config xs ys → AreHeld kind.held xs images → AreHeld kind.held ys images
  read-held xs ys images reads held = held-as kind.held xs ys images reads.same held

some-fuse : {D : Type 0} (a b : Fuse D) → ◌≡◌ {A = Option (Fuse D)} (Some a) (Some b) → a ≡ b
some-fuse a b e = cc

-- what is said of the device that was put back is said of that one
pub at-set : {D : Type 0} (P : D → Type 0) (xs : List (Fuse D)) (n : ℕ) (old new : Fuse D) → slice_get xs n ≡ Some old → DeviceAt P (slice_set xs n new) n → P (device_of new)
at-set P xs n old new is at = subst (λ f. P (device_of f)) (some-fuse at.0 new (sym at.1 ∙ set-at xs n old new is)) at.2
