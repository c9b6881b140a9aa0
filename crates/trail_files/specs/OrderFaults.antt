-- Damage that is told, or not there.
use Rattle.std.proofs.Common.{◌≡◌, ℕ, Option, Some, None, refl}
use Rattle.std.specs.Option.{option_or}
use Rattle.trail_files.specs.declared.damage.DamageKind.{DamageKind}
use Rattle.trail_files.specs.declared.spelled.OrderFault.{OrderFault}
use Rattle.trail_files.specs.declared.spelled.OrderFault.TheVariants.{NoMemory, Damaged}
use Rattle.trail_files.specs.Fault.{IsDamageOf}
use Rattle.trail_files.specs.RecordOrder.{damage_of}

-- where there is no damage of either kind, there is none of each
pub none_parts : (a b : Option (ℕ × DamageKind)) → option_or a b ≡ None → (a ≡ None) × (b ≡ None)
none_parts None b e = (refl, e)
none_parts (Some x) b e = absurd cc

pub no_damage : (kind : DamageKind) (at : Option ℕ) → damage_of kind at ≡ None → at ≡ None
no_damage kind None e = refl
no_damage kind (Some x) e = absurd cc

-- a fault where there is no damage is want of memory
pub told_none : (e : OrderFault) → IsDamageOf None e → e ≡ NoMemory
told_none NoMemory h = refl
told_none (Damaged at kind) h = absurd cc
