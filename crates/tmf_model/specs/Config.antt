-- Which configurations are valid.
use Rattle.std.specs.Prelude.{ℕ, ◌≡◌, ◌≤◌, ◌≢◌, ◌-◌, IsTrue, Some, slice_get, List, length, map, All, bytes_eq, codes}
use Rattle.std.specs.List.{IsDistinct}
use Rattle.tmf_model.specs.declared.config.Config.{Config}
use Rattle.tmf_model.specs.declared.config.FileLine.{FileLine}
use Rattle.tmf_model.specs.declared.config.Volume.{Volume}
use Rattle.tmf_model.specs.Name.{is_file_name, is_volume_name}

-- `number` is from `least` to `greatest`
pub record IsWithin (least greatest number : ℕ) : Type 0 where
  pub above : least ≤ number
  pub below : number ≤ greatest

-- `number`, from 1, is that of an item of the list
abbrev pub IsDeclared : {T : Type 0} → List T → ℕ → Type 0
IsDeclared items number = IsWithin 1 (length items) number

-- the item of this number, counted from 1, is this one
abbrev pub IsNumber : {T : Type 0} → List T → ℕ → T → Type 0
IsNumber items number item = (1 ≤ number) × (slice_get items (number - 1) ≡ Some item)

-- no two names are the same
abbrev pub HasDistinctNames : List (List ℕ) → Type 0
HasDistinctNames names = IsDistinct bytes_eq names

-- the name of the monitor's trail, which no other trail has
abbrev pub monitor_name : List ℕ
monitor_name = codes "MAT"

-- at most 4 trails, each with a name of its own
pub record HasValidTrails (trails : List (List ℕ)) : Type 0 where
  pub few : length trails ≤ 4
  pub named : All (λ name. IsTrue (is_file_name name)) trails
  pub distinct : HasDistinctNames trails
  pub no_monitor : All (λ name. name ≢ monitor_name) trails

-- at most 8 volumes, each with a name of its own and a trail that is declared
pub record HasValidVolumes (trails : List (List ℕ)) (volumes : List Volume) : Type 0 where
  pub few : length volumes ≤ 8
  pub named : All (λ volume. IsTrue (is_volume_name volume.name)) volumes
  pub distinct : HasDistinctNames (map (λ volume. volume.name) volumes)
  pub declared : All (λ volume. IsDeclared trails volume.trail) volumes

-- at most 16 files, each with a name of its own, a volume that is declared and 1 to 256 blocks
pub record HasValidFiles (volumes : List Volume) (files : List FileLine) : Type 0 where
  pub few : length files ≤ 16
  pub named : All (λ file. IsTrue (is_file_name file.name)) files
  pub distinct : HasDistinctNames (map (λ file. file.name) files)
  pub declared : All (λ file. IsDeclared volumes file.volume) files
  pub blocks : All (λ file. IsWithin 1 256 file.blocks) files

-- the configuration's lists are valid and its limits are in their ranges
pub record IsValidConfig (config : Config) : Type 0 where
  pub trails : HasValidTrails config.trails
  pub volumes : HasValidVolumes config.trails config.volumes
  pub files : HasValidFiles config.volumes config.files
  pub cache : IsWithin 2 4096 config.cache
  pub car_count : IsWithin 1 64 config.car_count
  pub car_holds : config.car_holds ≤ 1000
  pub roll : IsWithin 256 16777216 config.roll
  pub steps : IsWithin 3 1099511627776 config.steps
