-- Lines with their texts, and names, computed.
use Rattle.std.specs.Prelude.{flat_map}
use Rattle.std.specs.Fmt.{digits}
use Rattle.std.proofs.Common.{◌≡◌, ℕ, Bool, true, false, List, [], ◌∷◌, ◌++◌, codes, refl}
use Rattle.tmf_lines.specs.declared.line.ActionKind.TheVariants as asked
use Rattle.tmf_lines.specs.declared.line.Line.TheVariants as line
use Rattle.tmf_lines.specs.declared.line.PartName.{PartName}
use Rattle.tmf_lines.specs.declared.line.PartName.TheVariants.{Worker, Device}
use Rattle.tmf_lines.specs.Line.{lines_text}
use Rattle.tmf_lines.specs.Report.{device_name, file_name_of, format_failure, node_device_name, part_name, recovered_lines, spent_line}
use Rattle.tmf_model.specs.declared.config.Config.{Config}
use Rattle.tmf_model.specs.declared.config.Volume.{Volume}
use Rattle.tmf_model.specs.declared.transid.Transid.{Transid}
use Rattle.tmf_script.specs.declared.fault.Why.TheVariants as why
use Rattle.trail_files.specs.declared.damage.DamageKind.TheVariants as kind
use Rattle.trail_files.specs.declared.monitor_record.MonitorRecord.TheVariants.{Start, Commit}

-- one trail, one volume and one file
abbrev pub first : Config
first = record {
  trails = codes "AUX1" ∷ [];
  volumes = record { name = codes "$DATA1"; trail = 1 } ∷ [];
  files = record { name = codes "ACCT"; volume = 1; blocks = 4 } ∷ [];
  cache = 64;
  car_count = 64;
  car_holds = 0;
  roll = 65536;
  steps = 1000000;
}

names : (device_name first 0 ≡ codes "MAT") × (device_name first 1 ≡ codes "AUX1") × (device_name first 5 ≡ codes "$DATA1") × (format_failure first 13 ≡ line.DumpsFailed (codes "$DATA1"))
    × (file_name_of first 1 ≡ codes "ACCT")
names = (refl, refl, refl, refl, refl)

-- each line and a line feed
abbrev pub text_of : List (List ℕ) → List ℕ
text_of lines = flat_map (λ line. line ++ 10 ∷ []) lines

abbrev pub item : ℕ → ℕ → Transid
item epoch ordinal = record { epoch = epoch; worker = 1; ordinal = ordinal; attempt = 1 }

-- a second recovery prints what the first has not
second_recovery : recovered_lines first 2 (Start 1 ∷ Commit (item 1 1) ∷ Start 2 ∷ Commit (item 2 1) ∷ []) (1 ∷ []) 3
    ≡ line.Recorded 3 (Start 2) ∷ line.Recorded 4 (Commit (item 2 1)) ∷ line.LostVolume (codes "$DATA1") ∷ line.Recovered 3 ∷ []
second_recovery = refl

-- the lines of what is not done
refusals : lines_text
    (line.DumpsFailed (codes "$DATA1") ∷ line.LostVolume (codes "$DATA1") ∷ line.Removed (codes "$DATA2") ∷ line.LoseFailed (codes "$DATA1") ∷ line.NotUp asked.Recover ∷ line.Failed asked.Recover (codes "AUX1") ∷ line.Damaged asked.Recover (codes "MAT") (record { file = 1; at = 0; kind = kind.Missing })
    ∷ line.EpochsSpent ∷ line.NotUp asked.Run ∷ line.ListNotUp (codes "ACCT") ∷ line.ListFailed (codes "ACCT") (codes "$DATA1")
    ∷ line.ListDamaged (codes "ACCT") (codes "AUX1") (record { file = 2; at = 17; kind = kind.BadRecord }) ∷ []) ≡ text_of
    (codes "format failed DUMP$DATA1" ∷ codes "lost $DATA1" ∷ codes "lost $DATA2" ∷ codes "lose $DATA1 failed $DATA1" ∷ codes "recover not up" ∷ codes "recover failed AUX1" ∷ codes "recover damaged MAT 1 0 missing"
    ∷ codes "recover epochs spent" ∷ codes "run not up" ∷ codes "list ACCT not up" ∷ codes "list ACCT failed $DATA1"
    ∷ codes "list ACCT damaged AUX1 2 17 record" ∷ [])
unfolding digits
refusals = refl

-- what a rollforward prints, of devices of trails, of volumes and of dumps
rollforwards : lines_text
    (line.Rolled (codes "$DATA1") 5 ∷ line.RollNotUp (codes "$DATA1") ∷ line.NotLost (codes "$DATA1") ∷ line.NoDump (codes "$DATA1")
    ∷ line.RollFailed (codes "$DATA1") (node_device_name first 0) ∷ line.RollFailed (codes "$DATA1") (node_device_name first 5) ∷ line.RollFailed (codes "$DATA1") (node_device_name first 13)
    ∷ line.RollDamaged (codes "$DATA1") (node_device_name first 1) (record { file = 1; at = 4; kind = kind.Count })
    ∷ line.RollDamaged (codes "$DATA1") (node_device_name first 13) (record { file = 2; at = 4096; kind = kind.BadBlock }) ∷ []) ≡ text_of
    (codes "rolled $DATA1 5" ∷ codes "rollforward $DATA1 not up" ∷ codes "rollforward $DATA1 not lost" ∷ codes "rollforward $DATA1 no dump"
    ∷ codes "rollforward $DATA1 failed MAT" ∷ codes "rollforward $DATA1 failed $DATA1" ∷ codes "rollforward $DATA1 failed DUMP$DATA1"
    ∷ codes "rollforward $DATA1 damaged AUX1 1 4 count"
    ∷ codes "rollforward $DATA1 damaged DUMP$DATA1 2 4096 block" ∷ [])
unfolding digits
rollforwards = refl

-- a line of a text that is no script, and that of words that are not accepted
refused_lines : lines_text (line.NotScript 3 why.WrongPlace ∷ line.Usage ∷ []) ≡ text_of (codes "line 3 wrong place" ∷ codes "usage: tmf run [--dir DIR] or tmf bank N [--dir DIR]" ∷ [])
unfolding digits
refused_lines = refl

-- what the items of a run come to
outcomes : lines_text
    (line.Busy (item 1 2) (codes "ACCT") (codes "anna") (item 1 7)
    ∷ spent_line (item 1 2) (part_name first 15) ∷ spent_line (item 1 2) (part_name first 16) ∷ spent_line (item 1 2) (part_name first 24) ∷ spent_line (item 1 2) (part_name first 28) ∷ spent_line (item 1 2) (part_name first 29)
    ∷ line.AttemptFailed (item 1 2) (node_device_name first 13) ∷ line.AttemptDamaged (item 1 2) (node_device_name first 1) (record { file = 1; at = 4; kind = kind.Order })
    ∷ line.InDoubt (item 1 2) (node_device_name first 0)
    ∷ line.Hanging (item 1 2) (node_device_name first 5) ∷ line.HangingDamaged (item 1 2) (node_device_name first 5) (record { file = 3; at = 512; kind = kind.BadBlock }) ∷ line.HangingMemory (item 1 2)
    ∷ line.Skipped (item 1 2) ∷ line.Memory (item 1 2)
    ∷ line.Controlled (item 1 2) (codes "$DATA1") 5 ∷ line.Dumped (item 1 2) (codes "$DATA1") 17 ∷ line.Dumping (item 1 2) (codes "$DATA1") ∷ []) ≡ text_of
    (codes "1.1.2.1 busy ACCT anna 1.1.7.1"
    ∷ codes "1.1.2.1 spent W16" ∷ codes "1.1.2.1 spent $DATA1" ∷ codes "1.1.2.1 spent AUX1" ∷ codes "1.1.2.1 spent MAT" ∷ codes "1.1.2.1 spent DUMP$DATA1"
    ∷ codes "1.1.2.1 failed DUMP$DATA1" ∷ codes "1.1.2.1 damaged AUX1 1 4 order"
    ∷ codes "1.1.2.1 indoubt MAT"
    ∷ codes "1.1.2.1 hanging $DATA1" ∷ codes "1.1.2.1 hanging damaged $DATA1 3 512 block" ∷ codes "1.1.2.1 hanging memory"
    ∷ codes "1.1.2.1 skipped" ∷ codes "1.1.2.1 memory"
    ∷ codes "1.1.2.1 controlled $DATA1 5" ∷ codes "1.1.2.1 dumped $DATA1 17" ∷ codes "1.1.2.1 dumping $DATA1" ∷ [])
unfolding digits
outcomes = refl

-- a run of which no worker has begun
runs : lines_text (line.RunFailed (node_device_name first 13) ∷ line.RunDamaged (node_device_name first 0) (record { file = 1; at = 0; kind = kind.Version }) ∷ []) ≡ text_of (codes "run failed DUMP$DATA1" ∷ codes "run damaged MAT 1 0 version" ∷ [])
unfolding digits
runs = refl

-- a volume on the last of four trails
abbrev pub volume : List ℕ → Volume
volume name = record { name = name; trail = 4 }

-- the name of a device
abbrev pub device : Bool → List ℕ → PartName
device dumps name = Device (record { dumps = dumps; name = name })

-- four trails and eight volumes
abbrev pub full : Config
full = record {
  trails = codes "A" ∷ codes "B" ∷ codes "C" ∷ codes "D" ∷ [];
  volumes = volume (codes "$1") ∷ volume (codes "$2") ∷ volume (codes "$3") ∷ volume (codes "$4") ∷ volume (codes "$5") ∷ volume (codes "$6") ∷ volume (codes "$7") ∷ volume (codes "$8") ∷ [];
  files = [];
  cache = 64;
  car_count = 64;
  car_holds = 0;
  roll = 65536;
  steps = 1000000;
}

-- the first and the last part of each kind
parts : (part_name full 0 ≡ Worker 1) × (part_name full 15 ≡ Worker 16) × (part_name full 16 ≡ device false (codes "$1")) × (part_name full 23 ≡ device false (codes "$8")) × (part_name full 24 ≡ device false (codes "A"))
    × (part_name full 27 ≡ device false (codes "D")) × (part_name full 28 ≡ device false (codes "MAT")) × (part_name full 29 ≡ device true (codes "$1")) × (part_name full 36 ≡ device true (codes "$8")) × (part_name full 1000 ≡ device true (codes "$8"))
parts = (refl, refl, refl, refl, refl, refl, refl, refl, refl, refl)
