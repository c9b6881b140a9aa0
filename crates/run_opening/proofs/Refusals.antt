-- What the fault of a trail tells of its device.
use Rattle.std.proofs.Common.{◌≡◌, ◌<◌, ◌≤◌, ◌+◌, ◌-◌, ◌^◌, ℕ, Bool, true, inl, inr, refl, arith, ⊎_elim}
use Rattle.std.proofs.lemmas.Bool.{cases_lt}
use Rattle.disk_model.specs.Held.{Held, Rose}
use Rattle.std.specs.Prelude.{Result, Ok, Err, IfErr, IfOk, MatchResult}
use Rattle.trail_files.specs.declared.damage.Damage.{Damage}
use Rattle.trail_files.specs.declared.damage.TrailFault.{TrailFault}
use Rattle.trail_files.specs.declared.damage.TrailFault.TheVariants as fault
use Rattle.trail_files.specs.Fault.{IsUndamaged}
use Rattle.trail_files.specs.Scanned.{TellsOnly}
use Rattle.run_outcomes.specs.declared.outcome.PhaseError.{PhaseError}
use Rattle.run_outcomes.specs.declared.outcome.PhaseError.TheVariants.{Failed, Damaged, NoMemory}
use Rattle.block_cache.specs.LabelDamage.{TellsAttach}
use Rattle.block_cache.specs.declared.fault.AttachFault.{AttachFault}
use Rattle.block_cache.specs.declared.fault.AttachFault.TheVariants as attaching
use Rattle.keyed_file.specs.Volume.{label_of}
use Rattle.tmf_model.specs.declared.config.Config.{Config}
use Rattle.run_opening.specs.Kept.{IsVolumeRefused, label_refusal}
use Rattle.run_opening.specs.Refusal.{IsOf, TellsAt, refusal_by}

pub fault_place : (number : ℕ) (it : TrailFault) → IsOf number (refusal_by number it)
fault_place number fault.Failed = refl
fault_place number fault.NoMemory = tt
fault_place number (fault.Damaged damage) = refl

pub fault_failed : (number device : ℕ) (it : TrailFault) → refusal_by number it ≡ Failed device → it ≡ fault.Failed
fault_failed number device fault.Failed e = refl
fault_failed number device fault.NoMemory e = absurd (cc)
fault_failed number device (fault.Damaged damage) e = absurd (cc)

pub fault_tells : (number : ℕ) (P : Damage → Type 0) (it : TrailFault) → TellsOnly P it → TellsAt number P (refusal_by number it)
fault_tells number P fault.Failed tells = tt
fault_tells number P fault.NoMemory tells = tt
fault_tells number P (fault.Damaged damage) tells = (refl, tells damage refl)

-- a fault that is no damage tells none
pub fault_undamaged : (number : ℕ) (P : Damage → Type 0) (it : TrailFault) → IsUndamaged it → TellsAt number P (refusal_by number it)
fault_undamaged number P fault.Failed none = tt
fault_undamaged number P fault.NoMemory none = tt
fault_undamaged number P (fault.Damaged damage) none = absurd (none damage refl)

-- what is told of a damage is told of it in other words
pub tells_more : (number : ℕ) (P Q : Damage → Type 0) (why : PhaseError) → ((damage : Damage) → P damage → Q damage) → TellsAt number P why → TellsAt number Q why
tells_more number P Q (Failed device) more tells = tt
tells_more number P Q (Damaged device damage) more tells = (tells.0, more damage tells.1)
tells_more number P Q NoMemory more tells = tt

pub if_err : {T E : Type 0} (r : Result T E) (P Q : E → Type 0) → ((e : E) → P e → Q e) → IfErr r P → IfErr r Q
if_err (Ok x) P Q more holds = tt
if_err (Err e) P Q more holds = more e holds

pub if_ok : {T E : Type 0} (r : Result T E) (P Q : T → Type 0) → ((x : T) → P x → Q x) → IfOk r P → IfOk r Q
if_ok (Ok x) P Q more holds = more x holds
if_ok (Err e) P Q more holds = tt

pub ok_both : {T E : Type 0} (r : Result T E) (P Q R : T → Type 0) → ((x : T) → P x → Q x → R x) → IfOk r P → IfOk r Q → IfOk r R
ok_both (Ok x) P Q R more first second = more x first second
ok_both (Err e) P Q R more first second = tt

-- a count that rose later rose from before
pub rose_behind : (a b c : ℕ) → a ≤ b → b ≤ c → Rose b c → Rose a c
rose_behind a b c ab bc rose = λ lt.
    ⊎_elim (λ (few : b < 2 ^ 64 - 1). (let rest = rose few in omega (arith, ab, rest))) (λ (many : 2 ^ 64 - 1 ≤ b). omega (arith, lt, many, bc)) (cases_lt b (2 ^ 64 - 1))

-- damage is no failure
pub no_failure : (device other : ℕ) (damage : Damage) → Damaged other damage ≡ Failed device → ⊥
no_failure device other damage e = cc

pub label_place : (number : ℕ) (it : AttachFault) → IsOf number (label_refusal number it)
label_place number attaching.Lost = refl
label_place number (attaching.Damaged damage) = refl
label_place number attaching.Failed = refl
label_place number attaching.NoMemory = tt

pub label_failed : (number device : ℕ) (it : AttachFault) → label_refusal number it ≡ Failed device → it ≡ attaching.Failed
label_failed number device attaching.Lost e = absurd (cc)
label_failed number device (attaching.Damaged damage) e = absurd (cc)
label_failed number device attaching.Failed e = refl
label_failed number device attaching.NoMemory e = absurd (cc)

-- what the fault of a label tells of the volume
pub label_tells : (config : Config) (volume next : ℕ) (named : Bool) (held : Held) (it : AttachFault) → (it ≡ attaching.Lost → named ≡ true) → TellsAttach (label_of config volume 1) held it
    → TellsAt (4 + volume) (IsVolumeRefused config volume next named held) (label_refusal (4 + volume) it)
label_tells config volume next named held attaching.Lost is_named tells = (refl, inl (tells, is_named refl, refl))
label_tells config volume next named held (attaching.Damaged damage) is_named tells = (refl, inr (inl tells))
label_tells config volume next named held attaching.Failed is_named tells = tt
label_tells config volume next named held attaching.NoMemory is_named tells = tt

pub both_ways : {T E : Type 0} (r : Result T E) (P : T → Type 0) (Q : E → Type 0) → IfOk r P → IfErr r Q → MatchResult r P Q
both_ways (Ok x) P Q ok err = ok
both_ways (Err e) P Q ok err = err

-- what was refused was not opened
pub never_ok : {T E : Type 0} (e : E) (x : T) → Err e ≡ Ok x → ⊥
never_ok e x is = cc
