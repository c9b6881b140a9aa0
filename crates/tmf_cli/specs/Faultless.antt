-- Completeness: where no device fails, no line tells of a fault.
use Rattle.std.specs.Prelude.{◌≡◌, ◌⊎◌, ℕ, List, ◌++◌, length, Option, Some}
use Rattle.std.specs.List.{AllByRecursion}
use Rattle.disk_model.specs.Held.{Held}
use Rattle.disk_model.specs.declared.fuse.Fuse.{Fuse}
use Rattle.tmf_model.specs.declared.config.Config.{Config}
use Rattle.tmf_model.specs.declared.script.Action.{Action}
use Rattle.run_outcomes.specs.Devices.{devices}
use Rattle.tmf_lines.specs.declared.line.Line.{Line}
use Rattle.tmf_lines.specs.declared.line.Line.TheVariants.{Aborted, AttemptDamaged, AttemptFailed, Busy, Committed, Controlled, Damaged, Dumped, Dumping, DumpsFailed, Entry, EpochsSpent, Failed, Formatted, Full, Hanging, HangingDamaged, HangingMemory, InDoubt, ListDamaged, ListFailed, ListNotUp, Listed, LoseFailed, LostVolume, Memory, NoDump, NotLost, NotScript, NotUp, Read, ReadAbsent, Recorded, Recovered, Refused, Removed, RollDamaged, RollFailed, RollNotUp, Rolled, RunDamaged, RunFailed, Skipped, Spent, SpentWorker, Usage}
use Rattle.tmf_lines.specs.Line.{lines_text}
use Rattle.tmf_cli.specs.OneOutput.{BeginsWithFormat, NoneRose}
use Rattle.tmf_cli.specs.OutputLaw.{Candidate, Node, ToldBy}

-- the line tells of no device that failed, and of none that is damaged
abbrev pub IsFaultless : Line → Type 0
IsFaultless (Failed action name) = ⊥
IsFaultless (DumpsFailed volume) = ⊥
IsFaultless (Damaged action name damage) = ⊥
IsFaultless (LoseFailed volume) = ⊥
IsFaultless (RollFailed volume device) = ⊥
IsFaultless (RollDamaged volume device damage) = ⊥
IsFaultless (ListFailed file name) = ⊥
IsFaultless (ListDamaged file name damage) = ⊥
IsFaultless (RunFailed device) = ⊥
IsFaultless (RunDamaged device damage) = ⊥
IsFaultless (AttemptFailed tx device) = ⊥
IsFaultless (AttemptDamaged tx device damage) = ⊥
IsFaultless (InDoubt tx device) = ⊥
IsFaultless (Hanging tx device) = ⊥
IsFaultless (HangingDamaged tx device damage) = ⊥
IsFaultless Formatted = Unit {0}
IsFaultless (Committed tx place) = Unit {0}
IsFaultless (Read tx op value) = Unit {0}
IsFaultless (ReadAbsent tx op) = Unit {0}
IsFaultless (Aborted tx) = Unit {0}
IsFaultless (Refused tx op reason) = Unit {0}
IsFaultless (Full tx file key) = Unit {0}
IsFaultless (Busy tx file key holder) = Unit {0}
IsFaultless (Spent tx device) = Unit {0}
IsFaultless (SpentWorker tx number) = Unit {0}
IsFaultless (HangingMemory tx) = Unit {0}
IsFaultless (Skipped tx) = Unit {0}
IsFaultless (Memory tx) = Unit {0}
IsFaultless (Controlled tx volume low) = Unit {0}
IsFaultless (Dumped tx volume start) = Unit {0}
IsFaultless (Dumping tx volume) = Unit {0}
IsFaultless (Recorded place record_of) = Unit {0}
IsFaultless (LostVolume volume) = Unit {0}
IsFaultless (Removed volume) = Unit {0}
IsFaultless (Rolled volume next) = Unit {0}
IsFaultless (RollNotUp volume) = Unit {0}
IsFaultless (NotLost volume) = Unit {0}
IsFaultless (NoDump volume) = Unit {0}
IsFaultless (Recovered epoch) = Unit {0}
IsFaultless (Entry file key value) = Unit {0}
IsFaultless (Listed file count) = Unit {0}
IsFaultless (NotUp kind) = Unit {0}
IsFaultless EpochsSpent = Unit {0}
IsFaultless (ListNotUp file) = Unit {0}
IsFaultless (NotScript number why) = Unit {0}
IsFaultless Usage = Unit {0}

-- none of the lines tells of one
abbrev pub AreFaultless : List Line → Type 0
AreFaultless lines = AllByRecursion IsFaultless lines

-- it is known what the devices may stand for
abbrev pub IsKnown : Option (List Candidate) → Type 0
IsKnown candidates = (standings : List Candidate) × (candidates ≡ Some standings)

-- Of the devices of a bay none has failed, and it is known what they may stand for, or a format makes it known: then no line tells of a fault. Each action that is not told as not up is carried
-- out, but for a recovery whose epochs are spent, and a rollforward of a volume that is not lost or has no dump; and an attempt or item of a run has come to what it was to do, or was refused,
-- taken back, left out, turned away, or ended by a limit or for want of memory.
abbrev pub FaultlessLaw : {D : Type 0} → (D → Held) → (D → ℕ) → Config → Type 0
FaultlessLaw {D} held faults config =
    (actions : List Action) (before after : Node) (old new : List (Fuse D)) (lines : List Line) → length old ≡ devices → IsKnown before.candidates ⊎ BeginsWithFormat actions
    → ToldBy held faults config actions before old lines after new → NoneRose faults old new → AreFaultless lines

-- the sink was given lines of which none tells of a fault
pub record IsFaultlessOutput (before after : List ℕ) : Type 0 where
  pub lines : List Line
  pub given : after ≡ before ++ lines_text lines
  pub all : AreFaultless lines
