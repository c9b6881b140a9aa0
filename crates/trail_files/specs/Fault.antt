-- What is said of a trail's faults.
use Rattle.std.specs.Prelude.{◌≡◌, ◌≢◌, ℕ, Option, Some}
use Rattle.trail_files.specs.declared.damage.Damage.{Damage}
use Rattle.trail_files.specs.declared.damage.DamageKind.{DamageKind}
use Rattle.trail_files.specs.declared.damage.TrailFault.{TrailFault}
use Rattle.trail_files.specs.declared.damage.TrailFault.TheVariants as fault
use Rattle.trail_files.specs.declared.spelled.OrderFault.{OrderFault}
use Rattle.trail_files.specs.declared.spelled.OrderFault.TheVariants.{NoMemory, Damaged}

-- the fault is no damage
abbrev pub IsUndamaged : TrailFault → Type 0
IsUndamaged it = (damage : Damage) → it ≢ fault.Damaged damage

-- the fault is want of memory, or tells this damage
abbrev pub IsDamageOf : Option (ℕ × DamageKind) → OrderFault → Type 0
IsDamageOf damage NoMemory = Unit {0}
IsDamageOf damage (Damaged at kind) = damage ≡ Some (at, kind)
