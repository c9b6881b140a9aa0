-- What is kept of a device of dumps, and what keeps it from being opened.
use Rattle.std.specs.Prelude.{◌≡◌, ◌⊎◌, ℕ, ◌<◌, ◌≤◌, Bool, true, false, IsTrue, IfSome, length, Option, Some, None}
use Rattle.disk_model.specs.Held.{Held, IfThere, IsThere}
use Rattle.disk_model.specs.declared.disk.Disk as disk
use Rattle.keyed_file.specs.Dump.{SpellsDumpLabel}
use Rattle.keyed_file.specs.LabelFormat.{IsDumpLabel}
use Rattle.keyed_file.specs.declared.dump_label.DumpLabel.{DumpLabel}
use Rattle.online_dump.specs.Filling.{HoldsDump}
use Rattle.online_dump.specs.Found.{DumpView, IsFoundDump, IsSealed}
use Rattle.online_dump.specs.declared.fault.DumperFault.{DumperFault}
use Rattle.online_dump.specs.declared.fault.DumperFault.TheVariants as dumping
use Rattle.trail_files.specs.Landed.{IsSettled}
use Rattle.trail_files.specs.declared.damage.Damage.{Damage}
use Rattle.trail_files.specs.declared.damage.DamageKind.TheVariants.{BadLabel}
use Rattle.trail_replay.specs.Opening.{IsReread}
use Rattle.run_outcomes.specs.Attaching.{IsLabelDamage, bad_dump_file, misfit}
use Rattle.run_outcomes.specs.declared.outcome.PhaseError.{PhaseError}
use Rattle.run_outcomes.specs.declared.outcome.PhaseError.TheVariants as error

-- The dump file of the volume was opened over the device, and no next dump is begun. It has found the dump that the device tells, or that it tells of none. Where the label's file has
-- bytes, and nothing of it is at risk, each image of the device has that dump's label.
pub record IsDumpKept {D : Type 0} (kind : disk.Ghosts D) (volume : ℕ) (device : D) (file : DumpView D) : Type 0 where
  pub reread : IsReread kind device file.device
  pub new : (file.volume ≡ volume) × (file.next ≡ None) × (file.offered ≡ false) × (file.filled ≡ None) × (file.whole ≡ false)
  pub sealed : IfSome file.found (IsSealed volume)
  pub found : IsTrue (kind.tells device) → IsFoundDump volume (kind.held device) file.found
  pub holds : IsTrue (kind.tells device) → IfThere (kind.held device) 1 (λ f. IsSettled f × (0 < length f.bytes)) → HoldsDump kind.held file

-- the start is one that the disc has reached, where there is one; or there is one above the low position
abbrev pub HasReached : Option ℕ → ℕ → Bool → Type 0
HasReached start low true = (s : ℕ) → start ≡ Some s → s ≤ low
HasReached start low false = (s : ℕ) × (start ≡ Some s) × (low < s)

-- the device has a dump's label of the volume, with this start
abbrev pub SpellsStart : ℕ → ℕ → Held → Type 0
SpellsStart volume start held = (label : DumpLabel) × IsDumpLabel label × (label.volume ≡ volume) × (label.start ≡ start) × IsThere held 1 (λ f. SpellsDumpLabel label f.bytes)

-- the label is wrong there; or its start is above the low position
abbrev pub IsDumpRefused : ℕ → ℕ → Held → Damage → Type 0
IsDumpRefused volume low held damage = IsLabelDamage (bad_dump_file volume) held damage ⊎ ((start : ℕ) × SpellsStart volume start held × (low < start) × (damage ≡ misfit BadLabel))

-- why the device with this number is refused, by the fault of its dump file
abbrev pub dump_refusal : ℕ → DumperFault → PhaseError
dump_refusal device dumping.Failed = error.Failed device
dump_refusal device dumping.NoMemory = error.NoMemory
dump_refusal device (dumping.Damaged damage) = error.Damaged device damage
