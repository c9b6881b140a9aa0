-- What the program prints: the text of each line.
use Rattle.std.specs.Prelude.{◌≡◌, ℕ, ◌<◌, Bool, true, false, if◌then◌else◌, List, [], ◌∷◌, ◌++◌, codes, flat_map, Some, slice_get}
use Rattle.std.specs.Fmt.{decimal}
use Rattle.tmf_model.specs.declared.script.Reason.{Reason}
use Rattle.tmf_model.specs.declared.script.Reason.TheVariants.{Missing, NotNumber, Overflow}
use Rattle.tmf_model.specs.Transid.{transid_text}
use Rattle.tmf_script.specs.Why.{why_text}
use Rattle.trail_files.specs.declared.monitor_record.MonitorRecord.{MonitorRecord}
use Rattle.trail_files.specs.declared.monitor_record.MonitorRecord.TheVariants.{Start, Commit, Abort}
use Rattle.trail_files.specs.declared.damage.Damage.{Damage}
use Rattle.trail_files.specs.declared.damage.DamageKind.{DamageKind}
use Rattle.trail_files.specs.declared.damage.DamageKind.TheVariants as kind
use Rattle.tmf_lines.specs.declared.line.ActionKind.{ActionKind}
use Rattle.tmf_lines.specs.declared.line.ActionKind.TheVariants as asked
use Rattle.tmf_lines.specs.declared.line.Line.{Line}
use Rattle.tmf_lines.specs.declared.line.Line.TheVariants.{Formatted, Committed, Read, ReadAbsent, Aborted, Refused, Full, Busy, Spent, SpentWorker, AttemptFailed, AttemptDamaged, InDoubt, Hanging, HangingDamaged, HangingMemory, Skipped, Memory, Controlled, Dumped, Dumping, Recorded, LostVolume, Removed, LoseFailed, Rolled, RollNotUp, NotLost, NoDump, RollFailed, RollDamaged, Recovered, Entry, Listed, NotUp, DumpsFailed, RunFailed, RunDamaged, EpochsSpent, ListNotUp, ListFailed, ListDamaged, NotScript, Usage}
use Rattle.tmf_lines.specs.declared.line.Line.TheVariants as line
use Rattle.tmf_lines.specs.declared.line.DeviceName.{DeviceName}
use Rattle.tmf_lines.specs.declared.line.PartName.{PartName}
use Rattle.tmf_lines.specs.declared.line.PartName.TheVariants.{Worker, Device}
use Rattle.tmf_lines.specs.declared.output.GiveFault.{GiveFault}
use Rattle.tmf_lines.specs.declared.output.GiveFault.TheVariants.{NoMemory, SinkFailed}
use Rattle.tmf_edges.specs.Moves.{AppendsPart}

-- a record of the monitor trail as it is printed
abbrev pub record_text : MonitorRecord → List ℕ
record_text (Start epoch) = codes "start " ++ decimal epoch
record_text (Commit t) = codes "commit " ++ transid_text t
record_text (Abort t) = codes "abort " ++ transid_text t

-- what was asked as it is printed
abbrev pub asked_text : ActionKind → List ℕ
asked_text asked.Format = codes "format"
asked_text asked.Recover = codes "recover"
asked_text asked.Run = codes "run"

-- a rule that bytes break as it is printed
abbrev pub kind_text : DamageKind → List ℕ
kind_text kind.Missing = codes "missing"
kind_text kind.Short = codes "short"
kind_text kind.Version = codes "version"
kind_text kind.Zero = codes "zero"
kind_text kind.Count = codes "count"
kind_text kind.BadRecord = codes "record"
kind_text kind.Order = codes "order"
kind_text kind.NoStart = codes "start"
kind_text kind.BadLabel = codes "label"
kind_text kind.BadBlock = codes "block"

-- damage of a device as it is printed: the file, the offset in it, and the rule
abbrev pub damage_text : Damage → List ℕ
damage_text damage = decimal damage.file ++ codes " " ++ decimal damage.at ++ codes " " ++ kind_text damage.kind

-- the name of a device as it is printed
abbrev pub device_text : DeviceName → List ℕ
device_text device = if device.dumps then codes "DUMP" ++ device.name else device.name

-- the name of a part as it is printed
abbrev pub part_text : PartName → List ℕ
part_text (Worker number) = codes "W" ++ decimal number
part_text (Device device) = device_text device

-- why an operation is refused as it is printed
abbrev pub reason_text : Reason → List ℕ
reason_text Missing = codes "missing"
reason_text NotNumber = codes "not number"
reason_text Overflow = codes "overflow"

-- a line without its end
abbrev pub line_text : Line → List ℕ
line_text Formatted = codes "formatted"
line_text (Committed t place) = transid_text t ++ (codes " committed " ++ decimal place)
line_text (Read t op value) = transid_text t ++ codes " read " ++ decimal op ++ codes " = " ++ value
line_text (ReadAbsent t op) = transid_text t ++ codes " read " ++ decimal op ++ codes " absent"
line_text (Aborted t) = transid_text t ++ codes " aborted"
line_text (Refused t op reason) = transid_text t ++ codes " refused " ++ decimal op ++ codes " " ++ reason_text reason
line_text (Full t file key) = transid_text t ++ codes " full " ++ file ++ codes " " ++ key
line_text (Busy t file key holder) = transid_text t ++ codes " busy " ++ file ++ codes " " ++ key ++ codes " " ++ transid_text holder
line_text (Spent t device) = transid_text t ++ codes " spent " ++ device_text device
line_text (SpentWorker t number) = transid_text t ++ codes " spent W" ++ decimal number
line_text (AttemptFailed t device) = transid_text t ++ codes " failed " ++ device_text device
line_text (AttemptDamaged t device damage) = transid_text t ++ codes " damaged " ++ device_text device ++ codes " " ++ damage_text damage
line_text (InDoubt t device) = transid_text t ++ codes " indoubt " ++ device_text device
line_text (Hanging t device) = transid_text t ++ codes " hanging " ++ device_text device
line_text (HangingDamaged t device damage) = transid_text t ++ codes " hanging damaged " ++ device_text device ++ codes " " ++ damage_text damage
line_text (HangingMemory t) = transid_text t ++ codes " hanging memory"
line_text (Skipped t) = transid_text t ++ codes " skipped"
line_text (Memory t) = transid_text t ++ codes " memory"
line_text (Controlled t volume low) = transid_text t ++ codes " controlled " ++ volume ++ codes " " ++ decimal low
line_text (Dumped t volume start) = transid_text t ++ codes " dumped " ++ volume ++ codes " " ++ decimal start
line_text (Dumping t volume) = transid_text t ++ codes " dumping " ++ volume
line_text (Recorded place item) = decimal place ++ codes " " ++ record_text item
line_text (LostVolume volume) = codes "lost " ++ volume
line_text (Removed volume) = codes "lost " ++ volume
line_text (LoseFailed volume) = codes "lose " ++ volume ++ codes " failed " ++ volume
line_text (Rolled volume next) = codes "rolled " ++ volume ++ codes " " ++ decimal next
line_text (RollNotUp volume) = codes "rollforward " ++ volume ++ codes " not up"
line_text (NotLost volume) = codes "rollforward " ++ volume ++ codes " not lost"
line_text (NoDump volume) = codes "rollforward " ++ volume ++ codes " no dump"
line_text (RollFailed volume device) = codes "rollforward " ++ volume ++ codes " failed " ++ device_text device
line_text (RollDamaged volume device damage) = codes "rollforward " ++ volume ++ codes " damaged " ++ device_text device ++ codes " " ++ damage_text damage
line_text (Recovered epoch) = codes "recovered " ++ decimal epoch
line_text (Entry file key value) = file ++ codes " " ++ key ++ codes " " ++ value
line_text (Listed file count) = codes "listed " ++ file ++ codes " " ++ decimal count
line_text (NotUp asked) = asked_text asked ++ codes " not up"
line_text (line.Failed asked device) = asked_text asked ++ codes " failed " ++ device
line_text (DumpsFailed volume) = codes "format failed DUMP" ++ volume
line_text (line.Damaged asked device damage) = asked_text asked ++ codes " damaged " ++ device ++ codes " " ++ damage_text damage
line_text (RunFailed device) = codes "run failed " ++ device_text device
line_text (RunDamaged device damage) = codes "run damaged " ++ device_text device ++ codes " " ++ damage_text damage
line_text EpochsSpent = codes "recover epochs spent"
line_text (ListNotUp file) = codes "list " ++ file ++ codes " not up"
line_text (ListFailed file device) = codes "list " ++ file ++ codes " failed " ++ device
line_text (ListDamaged file device damage) = codes "list " ++ file ++ codes " damaged " ++ device ++ codes " " ++ damage_text damage
line_text (NotScript line why) = codes "line " ++ decimal line ++ codes " " ++ why_text why
line_text Usage = codes "usage: tmf run [--dir DIR] or tmf bank N [--dir DIR]"

-- lines with their ends
abbrev pub lines_text : List Line → List ℕ
lines_text lines = flat_map (λ line. line_text line ++ 10 ∷ []) lines

-- the line of a record, of a file or of the monitor trail
abbrev pub is_record : Line → Bool
is_record (Entry file key value) = true
is_record (Recorded place item) = true
is_record line = false

-- so many lines from the front on are those of records
abbrev pub AreRecords : ℕ → List Line → Type 0
AreRecords count lines = (n : ℕ) (line : Line) → n < count → slice_get lines n ≡ Some line → is_record line ≡ true

-- what the sink was given of bytes that were not given whole: nothing where memory lacked for them; a part from their front on, and not all, where the sink failed
abbrev pub IsNotGiven : GiveFault → List ℕ → List ℕ → List ℕ → Type 0
IsNotGiven NoMemory before after bytes = after ≡ before
IsNotGiven SinkFailed before after bytes = AppendsPart before after bytes
