-- Why a volume's recovery was refused, told from a later moment of its device.
use Rattle.std.proofs.Common.{⊎_elim, ℕ, ◌-◌, ◌^◌, ◌≤◌, arith}
use Rattle.std.proofs.lemmas.Bool.{cases_lt}
use Rattle.volume_restore.specs.declared.fault.VolumeFault.{VolumeFault}
use Rattle.volume_restore.specs.declared.fault.VolumeFault.TheVariants.{Failed, Damaged, NoMemory}
use Rattle.volume_restore.specs.Restored.{VolumeCause}

-- a count that rose from a later moment rose
pub cause-from : (a b c : ℕ) (e : VolumeFault) → a ≤ b → b ≤ c → VolumeCause b c e → VolumeCause a c e
cause-from a b c Failed le le2 rose = λ below. ⊎_elim (λ lt. omega (arith, le, rose lt)) (λ past. omega (arith, past, below, le2)) (cases_lt b (2 ^ 64 - 1))
cause-from a b c (Damaged d) le le2 cause = tt
cause-from a b c NoMemory le le2 cause = tt
