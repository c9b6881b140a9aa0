-- What the lines name, and which lines a recovery and a listing have.
use Rattle.std.specs.Prelude.{ℕ, zero, suc, true, false, nat_le, nat_lt, nat_eq, if◌then◌else◌, ◌+◌, ◌-◌, min, List, [], ◌∷◌, ◌++◌, codes, drop, length, map, slice_get, unwrap_or, option_map}
use Rattle.std.specs.List.{enumerate_from}
use Rattle.tmf_model.specs.declared.config.Config.{Config}
use Rattle.tmf_model.specs.declared.transid.Transid.{Transid}
use Rattle.trail_files.specs.declared.monitor_record.MonitorRecord.{MonitorRecord}
use Rattle.tmf_lines.specs.declared.line.ActionKind.TheVariants as asked
use Rattle.tmf_lines.specs.declared.line.DeviceName.{DeviceName}
use Rattle.tmf_lines.specs.declared.line.PartName.{PartName}
use Rattle.tmf_lines.specs.declared.line.PartName.TheVariants.{Worker, Device}
use Rattle.tmf_lines.specs.declared.line.Line.{Line}
use Rattle.tmf_lines.specs.declared.line.Line.TheVariants.{Spent, SpentWorker, Recorded, LostVolume, Recovered, Entry, Listed, Failed, DumpsFailed}

-- the name of a trail, by its number, of which the monitor trail's is 0
abbrev pub trail_name : Config → ℕ → List ℕ
trail_name config zero = codes "MAT"
trail_name config (suc n) = unwrap_or (slice_get config.trails n) (codes "MAT")

-- the name of a volume, by its number from 1; MAT where there is none
abbrev pub volume_name : Config → ℕ → List ℕ
volume_name config volume = unwrap_or (option_map (λ line. line.name) (slice_get config.volumes (volume - 1))) (codes "MAT")

-- the name by which the device of a trail or of a volume is printed, by its number in the bay: the trails' are 0 to 4, the volumes' are those behind them
abbrev pub device_name : Config → ℕ → List ℕ
device_name config device = if nat_le device 4 then trail_name config device else volume_name config (device - 4)

-- the name by which any device of a node is printed: the numbers from 13 on are of the volumes' dumps
abbrev pub node_device_name : Config → ℕ → DeviceName
node_device_name config device = if nat_le device 12 then record { dumps = false; name = device_name config device } else record { dumps = true; name = volume_name config (device - 12) }

-- the number in the bay of the device of a part that is no worker's: the parts from 16 on are the discs of the volumes, those from 24 on the trails, 28 is the monitor trail,
-- and those from 29 on are the volumes' dumps; a number past the last part's, 36, counts as that
abbrev pub part_device : ℕ → ℕ
part_device part =
    if nat_le part 23 then 4 + (part - 15)
    else if nat_lt part 28 then part - 23
    else if nat_eq part 28 then 0
    else 12 + (min part 36 - 28)

-- the name by which a part of a node is printed, by its number: the parts 0 to 15 are the workers, whose numbers begin with 1
abbrev pub part_name : Config → ℕ → PartName
part_name config part = if nat_le part 15 then Worker (part + 1) else Device (node_device_name config (part_device part))

-- the line of an item that did not go on, since a part with this name has had all its events
abbrev pub spent_line : Transid → PartName → Line
spent_line t (Worker number) = SpentWorker t number
spent_line t (Device device) = Spent t device

-- the line of a format that failed at this device: the numbers from 13 on are of the volumes' dumps
abbrev pub format_failure : Config → ℕ → Line
format_failure config device = if nat_le device 12 then Failed asked.Format (device_name config device) else DumpsFailed (volume_name config (device - 12))

-- the name of a file, by its number from 1; MAT where there is none
abbrev pub file_name_of : Config → ℕ → List ℕ
file_name_of config file = unwrap_or (option_map (λ line. line.name) (slice_get config.files (file - 1))) (codes "MAT")

-- the lines of monitor records with their places
abbrev pub recorded_lines : List MonitorRecord → List Line
recorded_lines monitor = map (λ numbered. Recorded numbered.0 numbered.1) (enumerate_from 1 monitor)

-- the lines of the volumes that are lost, by their numbers
abbrev pub lost_lines : Config → List ℕ → List Line
lost_lines config lost = map (λ volume. LostVolume (volume_name config volume)) lost

-- the lines of a recovery that has read this list, of which the first records, so many, were printed before, and has found these volumes lost
abbrev pub recovered_lines : Config → ℕ → List MonitorRecord → List ℕ → ℕ → List Line
recovered_lines config printed list lost epoch = (drop printed (recorded_lines list) ++ lost_lines config lost) ++ Recovered epoch ∷ []

-- the lines of a file's records
abbrev pub listed_lines : List ℕ → List (List ℕ × List ℕ) → List Line
listed_lines file entries = map (λ entry. Entry file entry.0 entry.1) entries ++ Listed file (length entries) ∷ []
