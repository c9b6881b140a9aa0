-- What a fault of a trail is to the call that met it.
use Rattle.std.specs.Prelude.{ℕ}
use Rattle.trail_files.specs.declared.damage.TrailFault.{TrailFault}
use Rattle.trail_files.specs.declared.damage.TrailFault.TheVariants as fault
use Rattle.volume_recovery.specs.declared.errors.FormatError.{FormatError}
use Rattle.volume_recovery.specs.declared.errors.FormatError.TheVariants as format
use Rattle.volume_recovery.specs.declared.errors.RecoverError.{RecoverError}
use Rattle.volume_recovery.specs.declared.errors.RecoverError.TheVariants as recover

-- a trail that was being formatted has no damage to tell
abbrev pub format_error : ℕ → TrailFault → FormatError
format_error device fault.Failed = format.Failed device
format_error device fault.NoMemory = format.NoMemory
format_error device (fault.Damaged damage) = format.Failed device

abbrev pub recover_error : ℕ → TrailFault → RecoverError
recover_error device fault.Failed = recover.Failed device
recover_error device fault.NoMemory = recover.NoMemory
recover_error device (fault.Damaged damage) = recover.Damaged device damage
