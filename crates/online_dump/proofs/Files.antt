-- A dump device and its files.
use Rattle.std.proofs.Common.{Bool, true, false, Option, Some, None}
use Rattle.std.specs.Prelude.{IsSome, ℕ}
use Rattle.disk_model.specs.Held.{Held}
use Rattle.keyed_file.specs.declared.dump_label.DumpLabel.{DumpLabel}
use Rattle.online_dump.specs.Filling.{phase_of}
use Rattle.online_dump.specs.Found.{IsFoundDump}
use Rattle.online_dump.specs.Sealing.{HasLabelFile, IsUnderWay}
use Rattle.online_dump.specs.declared.sealed.SealedDump.{SealedDump}

-- where a dump was found its label's file is there
pub label_there : (volume : ℕ) (held : Held) (found : Option SealedDump) → IsFoundDump volume held found → IsSome found → HasLabelFile held
label_there volume held None is some = absurd (cc (some))
label_there volume held (Some dump) is some = (is.0, is.1, is.2.spelled.long)

pub under_way : (label : DumpLabel) (offered : Bool) → IsUnderWay (phase_of (Some label) offered)
under_way label true = tt
under_way label false = tt
