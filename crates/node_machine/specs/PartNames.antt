-- Which name a part has, and how it is printed.
use Rattle.std.specs.Fmt.{decimal}
use Rattle.std.specs.Prelude.{◌≡◌, ℕ, ◌-◌, ◌<◌, ◌≤◌, List, ◌++◌, length, Some, codes}
use Rattle.tmf_model.specs.Commits.{numbered}
use Rattle.tmf_model.specs.Config.{monitor_name}
use Rattle.tmf_model.specs.declared.config.Config.{Config}
use Rattle.tmf_model.specs.declared.config.Volume.{Volume as VolumeLine}
use Rattle.node_machine.specs.declared.names.PartName.{PartName}
use Rattle.node_machine.specs.declared.names.PartName.TheVariants.{Worker, Volume, Trail, Monitor, Dump}
use Rattle.node_machine.specs.Opening.{worker_part, disc_part, trail_part, monitor_part, dump_part}

-- the part of a worker or of the monitor, or of a volume or a trail that is declared
pub record IsPart (config : Config) (part : ℕ) : Type 0 where
  pub few : part < 37
  pub volume : 16 ≤ part → part < 24 → part - 16 < length config.volumes
  pub trail : 24 ≤ part → part < 28 → part - 24 < length config.trails
  pub dump : 29 ≤ part → part - 29 < length config.volumes

-- the volume with this number has the name
abbrev pub IsVolumeName : Config → ℕ → List ℕ → Type 0
IsVolumeName config number name = (line : VolumeLine) × (numbered config.volumes number ≡ Some line) × (line.name ≡ name)

-- the name of the part with this number
abbrev pub IsNameOf : Config → ℕ → PartName → Type 0
IsNameOf config part (Worker number) = (1 ≤ number) × (number ≤ 16) × (part ≡ worker_part number)
IsNameOf config part (Volume name) = (number : ℕ) × (number ≤ 8) × (part ≡ disc_part number) × IsVolumeName config number name
IsNameOf config part (Trail name) = (number : ℕ) × (number ≤ 4) × (part ≡ trail_part number) × (numbered config.trails number ≡ Some name)
IsNameOf config part Monitor = part ≡ monitor_part
IsNameOf config part (Dump name) = (number : ℕ) × (number ≤ 8) × (part ≡ dump_part number) × IsVolumeName config number name

-- the name as it is printed
abbrev pub part_text : PartName → List ℕ
part_text (Worker number) = codes "W" ++ decimal number
part_text (Volume name) = name
part_text (Trail name) = name
part_text Monitor = monitor_name
part_text (Dump name) = codes "DUMP" ++ name
