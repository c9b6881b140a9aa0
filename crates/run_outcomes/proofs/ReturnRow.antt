-- Which devices a run may hand back.
use Rattle.std.specs.Prelude.{◌≡◌, ℕ, zero, suc, ◌-◌, [], ◌∷◌, ◌++◌, replicate, Some, None, slice_get}
use Rattle.std.specs.Option.{is_some}
use Rattle.std.proofs.Common.{refl, sym, ap, ◌∙◌, arith, lit<}
use Rattle.disk_model.specs.Frame.{IsLater}
use Rattle.node_machine.proofs.Devices.{images}
use Rattle.node_machine.proofs.Example.{config}
use Rattle.tmf_model.specs.declared.config.Volume.{Volume}
use Rattle.tmf_model.specs.Config.{IsNumber}
use Rattle.run_outcomes.specs.Devices.{AreReturned, IsUntouched, dump_device, volume_device}
use Rattle.run_outcomes.proofs.Example.{Device, change_bytes, kind, new, old, with_file}

-- as they are seen, two devices are one at two moments where they tell as much
later : (before after : Device) → is_some after ≡ is_some before → IsLater kind before after
later before after tells = record { device = tt; tells = tells; later = omega arith }

both_tell : {x y before after : Device} → Some x ≡ Some before → Some y ≡ Some after → is_some y ≡ is_some x → is_some after ≡ is_some before
both_tell {x} {y} {before} {after} was is same =
    let first : x ≡ before = cc (was) in
    let second : y ≡ after = cc (is) in
    ap is_some (sym second) ∙ same ∙ ap is_some first

-- the run of the example hands back its devices: both trails later, and the others as they were
pub returned : AreReturned kind config old new
returned = record { count = refl; later = each; untouched = same } where
  each : (number : ℕ) (before after : Device) → slice_get old number ≡ Some before → slice_get new number ≡ Some after → IsLater kind before after
  each zero before after was is = later before after (both_tell was is refl)
  each (suc zero) before after was is = later before after (both_tell was is refl)
  each (suc (suc n)) before after was is = (let one : Some before ≡ Some after = sym was ∙ is in let same : before ≡ after = cc (one) in later before after (ap is_some (sym same)))

  same : (number : ℕ) → IsUntouched config number → slice_get new number ≡ slice_get old number
  same zero untouched = absurd (let beyond = untouched.trail in omega (arith, beyond))
  same (suc zero) untouched = absurd (let beyond = untouched.trail in omega (arith, beyond))
  same (suc (suc n)) untouched = refl

none_at : (number is : ℕ) (line : Volume) → number ≡ is → slice_get config.volumes (is - 1) ≡ None → slice_get config.volumes (number - 1) ≡ Some line → ⊥
none_at number is line same none at = (let bad : None ≡ Some line = sym none ∙ ap (λ (n : ℕ). slice_get config.volumes (n - 1)) (sym same) ∙ at in absurd (cc (bad)))

-- the configuration leaves the last device out
pub left_out : IsUntouched config 20
left_out = record { trail = lit< tt; volume = no_volume; dump = no_dump } where
  no_volume : (number : ℕ) (line : Volume) → IsNumber config.volumes number line → 20 ≡ volume_device number → ⊥
  no_volume zero line is at = absurd (let some = is.0 in omega (arith, some))
  no_volume (suc zero) line is at = absurd (omega (arith, at))
  no_volume (suc (suc n)) line is at = none_at (suc (suc n)) 16 line (omega (arith, at)) refl is.1

  no_dump : (number : ℕ) (line : Volume) → IsNumber config.volumes number line → 20 ≡ dump_device number → ⊥
  no_dump zero line is at = absurd (let some = is.0 in omega (arith, some))
  no_dump (suc zero) line is at = absurd (omega (arith, at))
  no_dump (suc (suc n)) line is at = none_at (suc (suc n)) 8 line (omega (arith, at)) refl is.1

-- So it may not come back with anything in it.
pub not_written : AreReturned kind config old (Some (images 0) ∷ Some (with_file 1 change_bytes) ∷ (replicate 18 None ++ Some (images 0) ∷ [])) → ⊥
not_written is = (let same : Some (Some (images 0)) ≡ Some None = is.untouched 20 left_out in let held : Some (images 0) ≡ None = cc (same) in absurd (cc (held)))
