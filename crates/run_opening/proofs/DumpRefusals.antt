-- What the fault of a dump file tells of its device, and what the file has found.
use Rattle.std.proofs.Common.{◌≡◌, ℕ, Option, Some, None, inl, refl}
use Rattle.std.specs.Prelude.{IfSome}
use Rattle.disk_model.specs.Held.{Held}
use Rattle.online_dump.specs.Found.{IsFoundDump, IsSealed, TellsDump, start_in}
use Rattle.online_dump.specs.declared.fault.DumperFault.{DumperFault}
use Rattle.online_dump.specs.declared.fault.DumperFault.TheVariants as dumping
use Rattle.online_dump.specs.declared.sealed.SealedDump.{SealedDump}
use Rattle.run_outcomes.specs.declared.outcome.PhaseError.TheVariants.{Failed}
use Rattle.run_opening.specs.Dumps.{IsDumpRefused, SpellsStart, dump_refusal}
use Rattle.run_opening.specs.Refusal.{IsOf, TellsAt}

pub dump_place : (number : ℕ) (it : DumperFault) → IsOf number (dump_refusal number it)
dump_place number dumping.Failed = refl
dump_place number dumping.NoMemory = tt
dump_place number (dumping.Damaged damage) = refl

pub dump_failed : (number device : ℕ) (it : DumperFault) → dump_refusal number it ≡ Failed device → it ≡ dumping.Failed
dump_failed number device dumping.Failed e = refl
dump_failed number device dumping.NoMemory e = absurd (cc)
dump_failed number device (dumping.Damaged damage) e = absurd (cc)

pub dump_tells : (number volume low : ℕ) (held : Held) (it : DumperFault) → TellsDump volume held it → TellsAt number (IsDumpRefused volume low held) (dump_refusal number it)
dump_tells number volume low held dumping.Failed tells = tt
dump_tells number volume low held dumping.NoMemory tells = tt
dump_tells number volume low held (dumping.Damaged damage) tells = (refl, inl tells)

-- a dump that was found with a start has its label
pub start_spelled : (volume start : ℕ) (held : Held) (found : Option SealedDump) → start_in found ≡ Some start → IfSome found (IsSealed volume) → IsFoundDump volume held found → SpellsStart volume start held
start_spelled volume start held None is sealed at = absurd (cc)
start_spelled volume start held (Some dump) is sealed at = (dump.label, sealed.label, sealed.of_volume, cc, (at.0, at.1, at.2.spelled))
