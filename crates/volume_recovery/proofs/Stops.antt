-- What the fault of one device is to a call on a bay.
use Rattle.std.specs.Prelude.{slice_get, slice_set, Some, Result, Ok, Err, IfOk, IfErr, OnErr}
use Rattle.std.proofs.Common.{◌≡◌, ℕ, List, refl, sym, ap, subst, ◌∙◌}
use Rattle.disk_model.specs.Fuse.{fuse_faults}
use Rattle.disk_model.specs.Held.{Rose}
use Rattle.disk_model.specs.declared.fuse.Fuse.{Fuse}
use Rattle.trail_files.specs.Fault.{IsUndamaged}
use Rattle.trail_files.specs.declared.damage.Damage.{Damage}
use Rattle.trail_files.specs.declared.damage.TrailFault.{TrailFault}
use Rattle.trail_files.specs.declared.damage.TrailFault.TheVariants as fault
use Rattle.volume_recovery.specs.declared.errors.FormatError.{FormatError}
use Rattle.volume_recovery.specs.declared.errors.FormatError.TheVariants as format
use Rattle.volume_recovery.specs.declared.errors.ListError.{ListError}
use Rattle.volume_recovery.specs.declared.errors.ListError.TheVariants as list
use Rattle.volume_recovery.specs.declared.errors.RecoverError.{RecoverError}
use Rattle.volume_recovery.specs.declared.errors.RecoverError.TheVariants as recover
use Rattle.disk_model.specs.Devices.{RoseAt}
use Rattle.volume_recovery.specs.Stop.{format_error, recover_error}
use Rattle.disk_model.proofs.Devices.{rose-set}

pub if-ok : {A E : Type 0} (result : Result A E) (P Q : A → Type 0) → ((a : A) → P a → Q a) → IfOk result P → IfOk result Q
if-ok (Ok a) P Q next holds = next a holds
if-ok (Err e) P Q next holds = tt

pub if-err : {A E : Type 0} (result : Result A E) (P Q : E → Type 0) → ((e : E) → P e → Q e) → IfErr result P → IfErr result Q
if-err (Ok a) P Q next holds = tt
if-err (Err e) P Q next holds = next e holds

pub err-same : {A E : Type 0} (a b : E) → ◌≡◌ {A = Result A E} (Err a) (Err b) → a ≡ b
err-same a b e = cc

format-failed : (device number : ℕ) (it : TrailFault) → IsUndamaged it → format_error device it ≡ format.Failed number → (number ≡ device) × (it ≡ fault.Failed)
format-failed device number fault.Failed fine e = (cc, refl)
format-failed device number fault.NoMemory fine e = absurd (cc)
format-failed device number (fault.Damaged damage) fine e = absurd (fine damage refl)

pub recover-failed : (device number : ℕ) (it : TrailFault) → recover_error device it ≡ recover.Failed number → (number ≡ device) × (it ≡ fault.Failed)
recover-failed device number fault.Failed e = (cc, refl)
recover-failed device number fault.NoMemory e = absurd (cc)
recover-failed device number (fault.Damaged damage) e = absurd (cc)

pub recover-damaged : (device number : ℕ) (damage : Damage) (it : TrailFault) → recover_error device it ≡ recover.Damaged number damage → (number ≡ device) × (it ≡ fault.Damaged damage)
recover-damaged device number damage fault.Failed e = absurd (cc)
recover-damaged device number damage fault.NoMemory e = absurd (cc)
recover-damaged device number damage (fault.Damaged other) e = (cc, cc)

-- a format has failed on the device that was lent, whose count rose
pub failed-format : {D A : Type 0} (faults : D → ℕ) (xs : List (Fuse D)) (device : ℕ) (old new : Fuse D) → slice_get xs device ≡ Some old
    → (it : TrailFault) → IsUndamaged it → (it ≡ fault.Failed → Rose (fuse_faults faults old) (fuse_faults faults new))
    → (error : FormatError) → error ≡ format_error device it → (number : ℕ) → ◌≡◌ {A = Result A FormatError} (Err error) (Err (format.Failed number))
    → (number ≡ device) × RoseAt faults xs (slice_set xs device new) number
failed-format {A = A} faults xs device old new is it fine cause error at number failed =
    let parts = format-failed device number it fine (sym at ∙ err-same {A = A} error (format.Failed number) failed) in
    (parts.0, subst (λ n. RoseAt faults xs (slice_set xs device new) n) (sym parts.0) (rose-set faults xs device old new is (cause parts.1)))

-- so has a recovery
pub failed-recover : {D A : Type 0} (faults : D → ℕ) (xs : List (Fuse D)) (device : ℕ) (old new : Fuse D) → slice_get xs device ≡ Some old
    → (it : TrailFault) → (it ≡ fault.Failed → Rose (fuse_faults faults old) (fuse_faults faults new))
    → (error : RecoverError) → error ≡ recover_error device it → (number : ℕ) → ◌≡◌ {A = Result A RecoverError} (Err error) (Err (recover.Failed number))
    → (number ≡ device) × RoseAt faults xs (slice_set xs device new) number
failed-recover {A = A} faults xs device old new is it cause error at number failed =
    let parts = recover-failed device number it (sym at ∙ err-same {A = A} error (recover.Failed number) failed) in
    (parts.0, subst (λ n. RoseAt faults xs (slice_set xs device new) n) (sym parts.0) (rose-set faults xs device old new is (cause parts.1)))

pub failed-undamaged : (it : TrailFault) → it ≡ fault.Failed → IsUndamaged it
failed-undamaged fault.Failed e damage other = absurd (cc)
failed-undamaged fault.NoMemory e damage other = absurd (cc)
failed-undamaged (fault.Damaged d) e damage other = absurd (cc)

pub err-as : {A B E : Type 0} (a b : E) → ◌≡◌ {A = Result A E} (Err a) (Err b) → ◌≡◌ {A = Result B E} (Err a) (Err b)
err-as {A} {B} {E} a b e = ap (λ x. Err x) (err-same {A = A} a b e)

-- what holds anyway holds where a call was refused
pub on-err-any : {T E : Type 0} {P : Type 0} (result : Result T E) → P → OnErr result P
on-err-any (Ok value) holds = tt
on-err-any (Err e) holds = holds
