-- Devices and their parts.
use Rattle.std.specs.Prelude.{All, Option, Some, slice_get}
use Rattle.std.specs.Option.{option_map_or}
use Rattle.std.proofs.Common.{◌≡◌, ◌<◌, ◌+◌, ℕ, zero, suc, List, [], ◌∷◌, length, refl, ap, sym, arith}
use Rattle.std.proofs.lemmas.List.Elements.{All-head, All-tail}
use Rattle.tmf_model.specs.Config.{IsDeclared, IsValidConfig, IsWithin}
use Rattle.tmf_model.specs.declared.config.Config.{Config}
use Rattle.tmf_model.specs.declared.config.Volume.{Volume}
use Rattle.node_machine.specs.Opening.{disc_part, dump_part, trail_part}
use Rattle.node_machine.specs.Trail.{trail_of}
use Rattle.run_outcomes.specs.Devices.{part_of_device}

declared_at : (trails : List (List ℕ)) (volumes : List Volume) (n : ℕ) → All (λ v. IsDeclared trails v.trail) volumes → n < length volumes → (v : Volume) × (slice_get volumes n ≡ Some v) × IsDeclared trails v.trail
declared_at trails [] n all lt = absurd (omega (arith, lt))
declared_at trails (v ∷ volumes) zero all lt = (v, refl, All-head (λ (x : Volume). IsDeclared trails x.trail) v volumes all)
declared_at trails (v ∷ volumes) (suc n) all lt = declared_at trails volumes n (All-tail (λ (x : Volume). IsDeclared trails x.trail) v volumes all) (omega (arith, lt))

-- the trail of a volume is one of four
pub trail_within : (config : Config) (volume : ℕ) → IsValidConfig config → IsDeclared config.volumes volume → IsWithin 1 4 (trail_of config volume)
trail_within config zero valid declared = absurd (let one = declared.above in omega (arith, one))
trail_within config (suc n) valid declared =
    let below = declared.below in
    let line = declared_at config.trails config.volumes n valid.volumes.declared (omega (arith, below)) in
    let is : line.0.trail ≡ trail_of config (suc n) = sym (ap (λ (o : Option Volume). option_map_or (λ (v : Volume). v.trail) o 0) line.1) in
    let few = valid.trails.few in
    let low = line.2.above in
    let high = line.2.below in
    record { above = omega (arith, is, low); below = omega (arith, is, high, few) }

-- a volume is one of eight
pub volume_within : (config : Config) (volume : ℕ) → IsValidConfig config → IsDeclared config.volumes volume → IsWithin 1 8 volume
volume_within config volume valid declared = record { above = declared.above; below = (let few = valid.volumes.few in let here = declared.below in omega (arith, few, here)) }

pub part_of_trail : (n : ℕ) → IsWithin 1 4 n → part_of_device n ≡ trail_part n
part_of_trail zero within = absurd (let one = within.above in omega (arith, one))
part_of_trail (suc zero) within = refl
part_of_trail (suc (suc zero)) within = refl
part_of_trail (suc (suc (suc zero))) within = refl
part_of_trail (suc (suc (suc (suc zero)))) within = refl
part_of_trail (suc (suc (suc (suc (suc n))))) within = absurd (let four = within.below in omega (arith, four))

pub part_of_volume : (n : ℕ) → IsWithin 1 8 n → part_of_device (4 + n) ≡ disc_part n
part_of_volume zero within = absurd (let one = within.above in omega (arith, one))
part_of_volume (suc zero) within = refl
part_of_volume (suc (suc zero)) within = refl
part_of_volume (suc (suc (suc zero))) within = refl
part_of_volume (suc (suc (suc (suc zero)))) within = refl
part_of_volume (suc (suc (suc (suc (suc zero))))) within = refl
part_of_volume (suc (suc (suc (suc (suc (suc zero)))))) within = refl
part_of_volume (suc (suc (suc (suc (suc (suc (suc zero))))))) within = refl
part_of_volume (suc (suc (suc (suc (suc (suc (suc (suc zero)))))))) within = refl
part_of_volume (suc (suc (suc (suc (suc (suc (suc (suc (suc n))))))))) within = absurd (let eight = within.below in omega (arith, eight))

pub part_of_dump : (n : ℕ) → IsWithin 1 8 n → part_of_device (12 + n) ≡ dump_part n
part_of_dump zero within = absurd (let one = within.above in omega (arith, one))
part_of_dump (suc zero) within = refl
part_of_dump (suc (suc zero)) within = refl
part_of_dump (suc (suc (suc zero))) within = refl
part_of_dump (suc (suc (suc (suc zero)))) within = refl
part_of_dump (suc (suc (suc (suc (suc zero))))) within = refl
part_of_dump (suc (suc (suc (suc (suc (suc zero)))))) within = refl
part_of_dump (suc (suc (suc (suc (suc (suc (suc zero))))))) within = refl
part_of_dump (suc (suc (suc (suc (suc (suc (suc (suc zero)))))))) within = refl
part_of_dump (suc (suc (suc (suc (suc (suc (suc (suc (suc n))))))))) within = absurd (let eight = within.below in omega (arith, eight))
