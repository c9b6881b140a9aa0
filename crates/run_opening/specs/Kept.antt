-- What is kept of a device that a run has opened, and what keeps it from being opened.
use Rattle.std.specs.Prelude.{◌≡◌, ◌≢◌, ◌⊎◌, ℕ, ◌+◌, ◌^◌, ◌<◌, ◌≤◌, Bool, true, false, IsTrue, List, length, Option, Some, None}
use Rattle.block_cache.specs.Blocks.{View as BlocksView}
use Rattle.block_cache.specs.LabelDamage.{bad_label_file}
use Rattle.block_cache.specs.Opened.{IsOpened as IsVolumeOpened, StandsOpened}
use Rattle.disk_model.specs.Held.{Held, IsThere}
use Rattle.disk_model.specs.declared.disk.Disk as disk
use Rattle.keyed_file.specs.LabelFormat.{IsLabel}
use Rattle.keyed_file.specs.Volume.{IsLost, SpellsLabel, label_of}
use Rattle.node_machine.specs.Law.{EndsWithStart}
use Rattle.online_dump.specs.Found.{start_in}
use Rattle.tmf_model.specs.declared.config.Config.{Config}
use Rattle.trail_files.specs.MonitorRecord.{monitor_format}
use Rattle.trail_files.specs.Text.{Spells}
use Rattle.trail_files.specs.declared.damage.Damage.{Damage}
use Rattle.trail_files.specs.declared.damage.DamageKind.TheVariants.{BadLabel, NoStart}
use Rattle.trail_files.specs.declared.monitor_record.MonitorRecord.{MonitorRecord}
use Rattle.trail_replay.specs.Opening.{IsOpened, IsReread, rules_of_node}
use Rattle.trail_replay.specs.Rules.{monitor_formats}
use Rattle.trail_replay.specs.Texts.{IsMonitorDamage}
use Rattle.run_outcomes.specs.Attaching.{IsLabelDamage, misfit}
use Rattle.run_outcomes.specs.declared.outcome.PhaseError.{PhaseError}
use Rattle.run_outcomes.specs.declared.outcome.PhaseError.TheVariants as error
use Rattle.block_cache.specs.declared.fault.AttachFault.{AttachFault}
use Rattle.block_cache.specs.declared.fault.AttachFault.TheVariants as attaching
use Rattle.run_opening.specs.Dumps.{IsDumpKept}
use Rattle.run_opening.specs.declared.kept.Kept.{Kept}
use Rattle.run_opening.specs.declared.kept.Kept.TheVariants.{Monitor, Audit, Volume, Dump, Idle}
use Rattle.run_opening.specs.declared.kept.MonitorKept.{MonitorKept}
use Rattle.run_opening.specs.Lasts.{next_from}

-- the device of what is kept
abbrev pub device_kept : {D : Type 0} → Kept D → D
device_kept (Monitor kept) = kept.trail.device
device_kept (Audit kept) = kept.trail.device
device_kept (Volume blocks) = blocks.device
device_kept (Dump file) = file.device
device_kept (Idle device) = device

-- the low position of a volume whose blocks are kept
abbrev pub low_kept : {D : Type 0} → Option (Kept D) → Option ℕ
low_kept (Some (Volume blocks)) = Some blocks.label.low
low_kept _ = None

-- the start of the dump that was found on a device
abbrev pub start_kept : {D : Type 0} → Option (Kept D) → Option ℕ
start_kept (Some (Dump file)) = start_in file.found
start_kept _ = None

-- THE MONITOR TRAIL

-- The trail was opened over the device. Of a list that the device spells there are so many records, the last of which is the run's start. They leave numbers for the records that a run may add.
pub record IsMonitorKept {D : Type 0} (kind : disk.Ghosts D) (config : Config) (epoch : ℕ) (device : D) (kept : MonitorKept D) : Type 0 where
  pub opened : IsOpened kind monitor_formats (rules_of_node config) device kept.trail
  pub places : (list : List MonitorRecord) → IsTrue (kind.tells device) → Spells monitor_format (kind.held device) list → kept.places ≡ length list
  pub ends : (list : List MonitorRecord) → IsTrue (kind.tells device) → Spells monitor_format (kind.held device) list → EndsWithStart epoch list
  pub short : kept.places + 2 ^ 20 < 2 ^ 64

-- the text breaks a rule first there; or it is whole, and does not end with the run's start
abbrev pub IsMonitorUnfit : ℕ → Held → Damage → Type 0
IsMonitorUnfit epoch held damage = IsMonitorDamage held damage ⊎ (((list : List MonitorRecord) × Spells monitor_format held list × (EndsWithStart epoch list → ⊥)) × (damage ≡ misfit NoStart))

-- A VOLUME

-- the blocks of the volume were opened over the device
abbrev pub AreBlocksKept : {D : Type 0} → disk.Ghosts D → Config → ℕ → D → BlocksView D → Type 0
AreBlocksKept kind config volume device blocks =
    IsReread kind device blocks.device × IsVolumeOpened kind.tells kind.held config volume config.cache blocks × (IsTrue (kind.tells device) → StandsOpened kind.held (label_of config volume 1) blocks)

-- the device of a volume alone is kept, which is lost, where it tells what it holds
abbrev pub IsKeptAsLost : {D : Type 0} → disk.Ghosts D → D → D → Type 0
IsKeptAsLost kind device left = IsReread kind device left × (IsTrue (kind.tells device) → IsLost (kind.held device))

-- the blocks of the volume were opened over the device; or the device alone is kept, as that of a lost volume, and the run does not name the volume
abbrev pub IsVolumeKept : {D : Type 0} → disk.Ghosts D → Config → ℕ → Bool → D → Kept D → Type 0
IsVolumeKept kind config volume named device (Volume blocks) = AreBlocksKept kind config volume device blocks
IsVolumeKept kind config volume named device (Idle left) = IsKeptAsLost kind device left × (named ≡ false)
IsVolumeKept kind config volume named device _ = ⊥

-- of a volume whose blocks are kept the low position is the one that its disc gives out next, behind a record that is followed by this position
abbrev pub IsNextBehind : {D : Type 0} → ℕ → Kept D → Type 0
IsNextBehind next (Volume blocks) = next_from next blocks.label.low ≡ blocks.label.low
IsNextBehind next _ = Unit {0}

-- the device has the volume's label, with this low position
abbrev pub SpellsLow : Config → ℕ → ℕ → Held → Type 0
SpellsLow config volume low held = IsLabel (label_of config volume low) × IsThere held 1 (λ f. SpellsLabel (label_of config volume low) f.bytes)

-- The low position of the volume is the one that its disc gives out next, behind a record that is followed by this position. Of a device alone the volume is lost, and the run does not name it.
abbrev pub IsVolumeJudged : {D : Type 0} → Config → ℕ → ℕ → Bool → Held → Kept D → Type 0
IsVolumeJudged config volume next named held (Volume blocks) = SpellsLow config volume blocks.label.low held × (next_from next blocks.label.low ≡ blocks.label.low)
IsVolumeJudged config volume next named held (Idle left) = IsLost held × (named ≡ false)
IsVolumeJudged config volume next named held _ = ⊥

-- the run names a volume that is lost; or its label is wrong there; or its low position is not the one that its disc gives out next
abbrev pub IsVolumeRefused : Config → ℕ → ℕ → Bool → Held → Damage → Type 0
IsVolumeRefused config volume next named held damage =
    (IsLost held × (named ≡ true) × (damage ≡ misfit BadLabel))
    ⊎ IsLabelDamage (bad_label_file (label_of config volume 1)) held damage
    ⊎ ((low : ℕ) × SpellsLow config volume low held × (next_from next low ≢ low) × (damage ≡ misfit BadLabel))

-- why a volume is refused that was not opened, on the device with this number
abbrev pub label_refusal : ℕ → AttachFault → PhaseError
label_refusal device attaching.Lost = error.Damaged device (misfit BadLabel)
label_refusal device (attaching.Damaged damage) = error.Damaged device damage
label_refusal device attaching.Failed = error.Failed device
label_refusal device attaching.NoMemory = error.NoMemory

-- A DEVICE OF DUMPS

-- the dump file was opened over the device, and the start of the dump that it has found is at most this position
abbrev pub IsDumpOpened : {D : Type 0} → disk.Ghosts D → ℕ → ℕ → D → Kept D → Type 0
IsDumpOpened kind volume low device (Dump file) = IsDumpKept kind volume device file × ((start : ℕ) → start_in file.found ≡ Some start → start ≤ low)
IsDumpOpened kind volume low device _ = ⊥
