-- What the records of each trail keep to.
use Rattle.std.specs.Prelude.{ℕ, ◌==◌, List, map, filter}
use Rattle.std.specs.List.{enumerate_from, list_any}
use Rattle.tmf_model.specs.declared.config.Config.{Config}
use Rattle.tmf_model.specs.declared.config.FileLine.{FileLine}
use Rattle.tmf_model.specs.declared.config.Volume.{Volume}
use Rattle.trail_files.specs.declared.monitor_record.MonitorRecord.{MonitorRecord}
use Rattle.trail_files.specs.declared.rules.Rules.{Rules}
use Rattle.trail_files.specs.Format.{Format}
use Rattle.trail_files.specs.MonitorRecord.{monitor_format}

-- of volumes with these numbers those that are audited to the trail
abbrev pub discs_among : ℕ → List (ℕ × Volume) → List ℕ
discs_among trail volumes = map (λ numbered. numbered.0) (filter (λ numbered. numbered.1.trail == trail) volumes)

-- the numbers of the volumes that are audited to the trail
abbrev pub discs_on : Config → ℕ → List ℕ
discs_on config trail = discs_among trail (enumerate_from 1 config.volumes)

-- of files with these numbers those that lie on one of the volumes, each with its volume
abbrev pub files_among : List ℕ → List (ℕ × FileLine) → List (ℕ × ℕ)
files_among discs files = map (λ numbered. (numbered.0, numbered.1.volume)) (filter (λ numbered. list_any (λ disc. disc == numbered.1.volume) discs) files)

-- the files that lie on a volume of the trail, each with its volume
abbrev pub files_on : Config → ℕ → List (ℕ × ℕ)
files_on config trail = files_among (discs_on config trail) (enumerate_from 1 config.files)

-- what the records of the trail with this number keep to; the monitor trail has the number 0 and no audit
abbrev pub rules_of : Config → ℕ → Rules
rules_of config trail = record { roll = config.roll; trail = trail; discs = discs_on config trail; files = files_on config trail }

-- what the monitor trail's records are, whatever the configuration
abbrev pub monitor_formats : Rules → Format MonitorRecord
monitor_formats rules = monitor_format
