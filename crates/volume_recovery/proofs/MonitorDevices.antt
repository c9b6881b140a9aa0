-- What a call on the first device of a bay is to the bay.
use Rattle.std.specs.Prelude.{slice_get, slice_set, Option, Some, None, Result, Err, IsTrue}
use Rattle.std.specs.Option.{option_map_or}
use Rattle.std.proofs.Common.{zero, suc, ◌≡◌, ◌≤◌, ◌^◌, ◌-◌, ◌<◌, ℕ, Bool, false, List, [], ◌∷◌, refl, sym, ap, subst, ◌∙◌, arith}
use Rattle.disk_model.specs.Devices.{AreLater, DevicesTell, EachFuse, FuseAs, HoldSame, KeepTelling, NoneFalls, RoseAt, StayInPlace, held_at}
use Rattle.disk_model.specs.Frame.{IsLater}
use Rattle.disk_model.specs.Fuse.{IsSameFuse, KeepsCuts, device_of, fuse_faults}
use Rattle.disk_model.specs.Held.{Held, HasCause, Rose}
use Rattle.disk_model.specs.SameFuse.{cuts_itself}
use Rattle.disk_model.specs.declared.disk.Disk as disk
use Rattle.disk_model.specs.declared.fuse.Fuse.{Fuse}
use Rattle.trail_files.specs.declared.damage.TrailFault.{TrailFault}
use Rattle.trail_files.specs.declared.damage.TrailFault.TheVariants as fault
use Rattle.volume_recovery.specs.declared.errors.RecoverError.{RecoverError}
use Rattle.volume_recovery.specs.declared.errors.RecoverError.TheVariants as recover
use Rattle.volume_recovery.specs.Stop.{recover_error}
use Rattle.volume_recovery.specs.MonitorDevice.{IsSameFirst, first_faults, first_tells, in_bay}
use Rattle.volume_recovery.specs.declared.monitor_device.MonitorDevice.{MonitorDevice}
use Rattle.volume_recovery.proofs.Stops.{err-same, recover-failed}

one-first : {D : Type 0} (x old : Fuse D) → Some x ≡ Some old → old ≡ x
one-first x old is = cc

-- what is said of the device before and after is said so of the bay's first
pub of-first : {D : Type 0} (tells : D → Bool) (held : D → Held) (xs : List (Fuse D)) (old new : Fuse D) → slice_get xs 0 ≡ Some old → (P : Bool → Held → Held → Type 0)
    → P (tells (device_of old)) (held (device_of old)) (held (device_of new)) → P (first_tells tells xs) (held_at held xs 0) (held_at held (slice_set xs 0 new) 0)
of-first tells held [] old new is P holds = absurd (cc)
of-first tells held (x ∷ xs) old new is P holds = subst (λ f. P (tells (device_of f)) (held (device_of f)) (held (device_of new))) (one-first x old is) holds

-- so is why it failed
pub cause-first : {D T E : Type 0} (faults : D → ℕ) (xs : List (Fuse D)) (old new : Fuse D) (r : Result T E) → slice_get xs 0 ≡ Some old
    → HasCause (fuse_faults faults old) (fuse_faults faults new) r → HasCause (first_faults faults xs) (first_faults faults (slice_set xs 0 new)) r
cause-first faults [] old new r is cause = absurd (cc)
cause-first faults (x ∷ xs) old new r is cause = subst (λ f. HasCause (fuse_faults faults f) (fuse_faults faults new) r) (one-first x old is) cause

as-itself : {D : Type 0} (P : Fuse D → Fuse D → Type 0) → ((f : Fuse D) → P f f) → (o : Option (Fuse D)) → FuseAs P o o
as-itself P itself None = tt
as-itself P itself (Some fuse) = itself fuse

as-map : {D : Type 0} (P Q : Fuse D → Fuse D → Type 0) → ((a b : Fuse D) → P a b → Q a b) → (o p : Option (Fuse D)) → FuseAs P o p → FuseAs Q o p
as-map P Q to None None is = tt
as-map P Q to None (Some b) is = is
as-map P Q to (Some a) None is = is
as-map P Q to (Some a) (Some b) is = to a b is

tells-as : {D : Type 0} (P : Fuse D → Fuse D → Type 0) (tells : D → Bool) (o p : Option (Fuse D)) → FuseAs P o p
    → option_map_or (λ fuse. tells (device_of fuse)) p false ≡ option_map_or (λ fuse. tells (device_of fuse)) o false → FuseAs (λ a b. tells (device_of b) ≡ tells (device_of a)) o p
tells-as P tells None None is same = tt
tells-as P tells None (Some b) is same = absurd is
tells-as P tells (Some a) None is same = absurd is
tells-as P tells (Some a) (Some b) is same = same

held-as : {D : Type 0} (P : Fuse D → Fuse D → Type 0) (held : D → Held) (o p : Option (Fuse D)) → FuseAs P o p
    → option_map_or (λ fuse. held (device_of fuse)) p (λ n. None) ≡ option_map_or (λ fuse. held (device_of fuse)) o (λ n. None) → FuseAs (λ a b. held (device_of b) ≡ held (device_of a)) o p
held-as P held None None is same = tt
held-as P held None (Some b) is same = absurd is
held-as P held (Some a) None is same = absurd is
held-as P held (Some a) (Some b) is same = same

later-as : {D : Type 0} (P : Fuse D → Fuse D → Type 0) (faults : D → ℕ) (o p : Option (Fuse D)) → FuseAs P o p
    → option_map_or (fuse_faults faults) o 0 ≤ option_map_or (fuse_faults faults) p 0 → FuseAs (λ a b. fuse_faults faults a ≤ fuse_faults faults b) o p
later-as P faults None None is later = tt
later-as P faults None (Some b) is later = absurd is
later-as P faults (Some a) None is later = absurd is
later-as P faults (Some a) (Some b) is later = later

rose-as : {D : Type 0} (P : Fuse D → Fuse D → Type 0) (faults : D → ℕ) (xs ys : List (Fuse D)) (o p : Option (Fuse D)) → slice_get xs 0 ≡ o → slice_get ys 0 ≡ p → FuseAs P o p
    → Rose (option_map_or (fuse_faults faults) o 0) (option_map_or (fuse_faults faults) p 0) → RoseAt faults xs ys 0
rose-as P faults xs ys None None was is is_as rose = absurd (omega (arith, rose (omega arith)))
rose-as P faults xs ys None (Some b) was is is_as rose = absurd is_as
rose-as P faults xs ys (Some a) None was is is_as rose = absurd is_as
rose-as P faults xs ys (Some a) (Some b) was is is_as rose = record { before = a; after = b; was = was; is = is; rose = rose }

module _ {D : Type 0} (kind : disk.Ghosts D) (itself : (d : D) → kind.is_same d d) (xs ys : List (Fuse D)) (same : IsSameFirst kind.is_same xs ys) where
  -- what is said of the first device, and of one that is left alone, is said of each
  each-first : (P : Fuse D → Fuse D → Type 0) → ((f : Fuse D) → P f f) → FuseAs P (slice_get xs 0) (slice_get ys 0) → EachFuse P xs ys
  each-first P alone first zero = first
  each-first P alone first (suc n) = subst (λ o. FuseAs P (slice_get xs (suc n)) o) (sym (same.others (suc n) (λ zero_is. absurd (cc)))) (as-itself P alone (slice_get xs (suc n)))

  place-first : StayInPlace kind.is_same xs ys
  place-first = each-first (λ a b. kind.is_same (device_of a) (device_of b)) (λ f. itself (device_of f))
      (as-map (IsSameFuse kind.is_same) (λ a b. kind.is_same (device_of a) (device_of b)) (λ a b is. is.device) (slice_get xs 0) (slice_get ys 0) same.first)

  cuts-first : EachFuse KeepsCuts xs ys
  cuts-first = each-first KeepsCuts cuts_itself (as-map (IsSameFuse kind.is_same) KeepsCuts (λ a b is. is.cuts) (slice_get xs 0) (slice_get ys 0) same.first)

  pub later-first : first_tells kind.tells ys ≡ first_tells kind.tells xs → first_faults kind.faults xs ≤ first_faults kind.faults ys → AreLater kind xs ys
  later-first tells later = record {
    devices = place-first;
    tells = each-first (λ a b. kind.tells (device_of b) ≡ kind.tells (device_of a)) (λ f. refl) (tells-as (IsSameFuse kind.is_same) kind.tells (slice_get xs 0) (slice_get ys 0) same.first tells);
    later = each-first (λ a b. fuse_faults kind.faults a ≤ fuse_faults kind.faults b) (λ f. omega arith) (later-as (IsSameFuse kind.is_same) kind.faults (slice_get xs 0) (slice_get ys 0) same.first later);
    cuts = cuts-first;
  }

  pub held-first : held_at kind.held ys 0 ≡ held_at kind.held xs 0 → HoldSame kind.held xs ys
  held-first held = each-first (λ a b. kind.held (device_of b) ≡ kind.held (device_of a)) (λ f. refl) (held-as (IsSameFuse kind.is_same) kind.held (slice_get xs 0) (slice_get ys 0) same.first held)

  pub rose-first : Rose (first_faults kind.faults xs) (first_faults kind.faults ys) → RoseAt kind.faults xs ys 0
  rose-first rose = rose-as (IsSameFuse kind.is_same) kind.faults xs ys (slice_get xs 0) (slice_get ys 0) refl refl same.first rose

  -- a call on the trail's device that failed is told as one of device 0
  pub failed-first : {A : Type 0} (it : TrailFault) → (it ≡ fault.Failed → Rose (first_faults kind.faults xs) (first_faults kind.faults ys)) → (error : RecoverError) → error ≡ recover_error 0 it
      → (number : ℕ) → ◌≡◌ {A = Result A RecoverError} (Err error) (Err (recover.Failed number)) → (number ≡ 0) × RoseAt kind.faults xs ys number
  failed-first {A = A} it cause error at number failed =
      let parts = recover-failed 0 number it (sym at ∙ err-same {A = A} error (recover.Failed number) failed) in
      (parts.0, subst (λ n. RoseAt kind.faults xs ys n) (sym parts.0) (rose-first (cause parts.1)))

  pub failed-call : {A : Type 0} → Rose (first_faults kind.faults xs) (first_faults kind.faults ys) → (number : ℕ) → ◌≡◌ {A = Result A RecoverError} (Err (recover.Failed 0)) (Err (recover.Failed number))
      → (number ≡ 0) × RoseAt kind.faults xs ys number
  failed-call {A = A} rose number failed = failed-first {A = A} fault.Failed (λ _. rose) (recover.Failed 0) refl number failed

-- a call that worked on the first device is one that worked on the bay
pub later-bay : {D : Type 0} (kind : disk.Ghosts D) → ((d : D) → kind.is_same d d) → (old new : MonitorDevice D) → IsLater (in_bay kind) old new → AreLater kind old.bay.now new.bay.now
later-bay kind itself old new later = later-first kind itself old.bay.now new.bay.now later.device.1 later.tells later.later

-- the first device tells where each does
pub tells-first : {D : Type 0} (tells : D → Bool) (xs : List (Fuse D)) (fuse : Fuse D) → slice_get xs 0 ≡ Some fuse → DevicesTell tells xs → IsTrue (first_tells tells xs)
tells-first tells xs fuse is tell = subst (λ o. IsTrue (option_map_or (λ f. tells (device_of f)) o false)) (sym is) (tell 0 fuse is)
