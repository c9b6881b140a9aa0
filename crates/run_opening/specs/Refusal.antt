-- What is told of a device that was refused.
use Rattle.std.specs.Prelude.{◌≡◌, ℕ}
use Rattle.disk_model.specs.Held.{Rose}
use Rattle.disk_model.specs.declared.disk.Disk as disk
use Rattle.trail_files.specs.declared.damage.Damage.{Damage}
use Rattle.trail_files.specs.declared.damage.TrailFault.{TrailFault}
use Rattle.trail_files.specs.declared.damage.TrailFault.TheVariants as fault
use Rattle.trail_replay.specs.Opening.{IsReread}
use Rattle.run_outcomes.specs.declared.outcome.PhaseError.{PhaseError}
use Rattle.run_outcomes.specs.declared.outcome.PhaseError.TheVariants.{Failed, Damaged, NoMemory}

-- why the device with this number is refused, by the fault of its trail
abbrev pub refusal_by : ℕ → TrailFault → PhaseError
refusal_by device fault.Failed = Failed device
refusal_by device fault.NoMemory = NoMemory
refusal_by device (fault.Damaged damage) = Damaged device damage

-- a damage is told of the device with this number, and this is so of it
abbrev pub TellsAt : ℕ → (Damage → Type 0) → PhaseError → Type 0
TellsAt number is (Damaged device damage) = (device ≡ number) × is damage
TellsAt number is (Failed device) = Unit {0}
TellsAt number is NoMemory = Unit {0}

-- what is told, if it names a device, names the one with this number
abbrev pub IsOf : ℕ → PhaseError → Type 0
IsOf number (Failed device) = device ≡ number
IsOf number (Damaged device damage) = device ≡ number
IsOf number NoMemory = Unit {0}

-- The device was read alone and comes back. What is told names it by its number; where it is told as failed, its count rose.
pub record IsRefused {D : Type 0} (kind : disk.Ghosts D) (number : ℕ) (before after : D) (why : PhaseError) : Type 0 where
  pub reread : IsReread kind before after
  pub place : IsOf number why
  pub failed : (device : ℕ) → why ≡ Failed device → Rose (kind.faults before) (kind.faults after)
