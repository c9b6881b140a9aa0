-- The volumes and trails of the steps of a run, and the parts of their devices.
use Rattle.std.specs.Prelude.{◌≤◌, ◌<◌, ◌+◌, All}
use Rattle.std.specs.Option.{option_map_or}
use Rattle.std.proofs.Common.{◌≡◌, ℕ, zero, suc, List, [], ◌∷◌, length, Option, Some, slice_get, refl, ap, sym, subst, arith}
use Rattle.std.proofs.lemmas.List.Elements.{All-head, All-tail}
use Rattle.tmf_model.specs.Commits.{numbered}
use Rattle.tmf_model.specs.Config.{IsDeclared, IsValidConfig}
use Rattle.tmf_model.specs.declared.config.Config.{Config}
use Rattle.tmf_model.specs.declared.config.FileLine.{FileLine}
use Rattle.tmf_model.specs.declared.config.Volume.{Volume}
use Rattle.node_machine.specs.Made.{volume_of}
use Rattle.node_machine.specs.Opening.{disc_part, trail_part}
use Rattle.node_machine.specs.Trail.{trail_of}
use Rattle.run_outcomes.specs.Devices.{part_of_device}

at_place : {T : Type 0} (P : T → Type 0) (xs : List T) (n : ℕ) → n < length xs → All P xs → (x : T) × (slice_get xs n ≡ Some x) × P x
at_place P [] n few all = absurd (omega (arith, few))
at_place P (x ∷ xs) zero few all = (x, refl, All-head P x xs all)
at_place P (x ∷ xs) (suc n) few all = at_place P xs n (omega (arith, few)) (All-tail P x xs all)

at_number : {T : Type 0} (P : T → Type 0) (xs : List T) (number : ℕ) → IsDeclared xs number → All P xs → (x : T) × (numbered xs number ≡ Some x) × P x
at_number P xs zero within all = absurd (let above = within.above in omega (arith, above))
at_number P xs (suc n) within all = at_place P xs n (let below = within.below in omega (arith, below)) all

-- the volume of a file that is declared is
pub volume_within : (config : Config) → IsValidConfig config → (file : ℕ) → IsDeclared config.files file → IsDeclared config.volumes (volume_of config file)
volume_within config valid file within =
    let at = at_number (λ (line : FileLine). IsDeclared config.volumes line.volume) config.files file within valid.files.declared in
    subst (λ (v : ℕ). IsDeclared config.volumes v) (sym (ap (λ (o : Option FileLine). option_map_or (λ line. line.volume) o 0) at.1)) at.2

-- and so is its trail
pub trail_within : (config : Config) → IsValidConfig config → (volume : ℕ) → IsDeclared config.volumes volume → IsDeclared config.trails (trail_of config volume)
trail_within config valid volume within =
    let at = at_number (λ (line : Volume). IsDeclared config.trails line.trail) config.volumes volume within valid.volumes.declared in
    subst (λ (v : ℕ). IsDeclared config.trails v) (sym (ap (λ (o : Option Volume). option_map_or (λ line. line.trail) o 0) at.1)) at.2

pub part_of_trail : (number : ℕ) → 1 ≤ number → number ≤ 4 → part_of_device number ≡ trail_part number
part_of_trail zero above below = absurd (omega (arith, above))
part_of_trail (suc zero) above below = refl
part_of_trail (suc (suc zero)) above below = refl
part_of_trail (suc (suc (suc zero))) above below = refl
part_of_trail (suc (suc (suc (suc zero)))) above below = refl
part_of_trail (suc (suc (suc (suc (suc n))))) above below = absurd (omega (arith, below))

pub part_of_volume : (volume : ℕ) → 1 ≤ volume → volume ≤ 8 → part_of_device (4 + volume) ≡ disc_part volume
part_of_volume zero above below = absurd (omega (arith, above))
part_of_volume (suc zero) above below = refl
part_of_volume (suc (suc zero)) above below = refl
part_of_volume (suc (suc (suc zero))) above below = refl
part_of_volume (suc (suc (suc (suc zero)))) above below = refl
part_of_volume (suc (suc (suc (suc (suc zero))))) above below = refl
part_of_volume (suc (suc (suc (suc (suc (suc zero)))))) above below = refl
part_of_volume (suc (suc (suc (suc (suc (suc (suc zero))))))) above below = refl
part_of_volume (suc (suc (suc (suc (suc (suc (suc (suc zero)))))))) above below = refl
part_of_volume (suc (suc (suc (suc (suc (suc (suc (suc (suc n))))))))) above below = absurd (omega (arith, below))
