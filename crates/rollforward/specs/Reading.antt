-- What the steps of a rollforward have read.
use Rattle.std.specs.Prelude.{◌≡◌, ℕ, ◌+◌, List, [], slice_get, unwrap_or}
use Rattle.disk_model.specs.Held.{Held}
use Rattle.tmf_model.specs.Config.{IsWithin}
use Rattle.tmf_model.specs.declared.config.Config.{Config}
use Rattle.tmf_model.specs.declared.transid.Transid.{Transid}
use Rattle.keyed_file.specs.Dump.{blocks_before}
use Rattle.keyed_file.specs.LabelFormat.{file_row}
use Rattle.keyed_file.specs.Row.{IsRow}
use Rattle.keyed_file.specs.Block.{KeyedBlock}
use Rattle.keyed_file.specs.Volume.{Contents, files_on, map_of}
use Rattle.keyed_file.specs.declared.home.Home.{Home}
use Rattle.trail_files.specs.declared.audit_record.AuditRecord.{AuditRecord}
use Rattle.trail_files.specs.declared.damage.TrailFault.{TrailFault}
use Rattle.trail_files.specs.declared.damage.TrailFault.TheVariants as of_trail
use Rattle.trail_files.specs.declared.monitor_record.MonitorRecord.{MonitorRecord}
use Rattle.trail_files.specs.AuditRecord.{audit_format}
use Rattle.trail_files.specs.MonitorRecord.{monitor_format}
use Rattle.trail_files.specs.StandsFor.{Base}
use Rattle.trail_files.specs.Text.{Spells}
use Rattle.trail_replay.specs.Reading.{HasCommits}
use Rattle.trail_replay.specs.Rules.{rules_of}
use Rattle.trail_replay.specs.Texts.{IsAuditDamage, IsMonitorDamage}
use Rattle.volume_restore.specs.Found.{AreFoundFor}
use Rattle.volume_restore.specs.declared.changes.NodeChanges.{NodeChanges}
use Rattle.volume_restore.specs.declared.fault.VolumeFault.{VolumeFault}
use Rattle.volume_restore.specs.declared.fault.VolumeFault.TheVariants as of_volume
use Rattle.volume_recovery.specs.VolumeNode.{dump_device}
use Rattle.rollforward.specs.Body.{AreInPlace, TellsRow, homes_in}
use Rattle.rollforward.specs.Rolls.{IsDumped, trail_on}
use Rattle.rollforward.specs.declared.dump.Dumped.{Dumped}
use Rattle.rollforward.specs.declared.errors.FillError.{FillError}
use Rattle.rollforward.specs.declared.errors.FillError.TheVariants as filling
use Rattle.rollforward.specs.declared.errors.RollError.{RollError}
use Rattle.rollforward.specs.declared.errors.RollError.TheVariants.{NotLost, NoDump, Failed, Damaged, NoMemory}

-- what a fault of a volume, or of a dump, on a device is to a rollforward
abbrev pub roll_error : ℕ → VolumeFault → RollError
roll_error device of_volume.Failed = Failed device
roll_error device (of_volume.Damaged damage) = Damaged device damage
roll_error device of_volume.NoMemory = NoMemory

-- so is a fault of a trail
abbrev pub trail_error : ℕ → TrailFault → RollError
trail_error device of_trail.Failed = Failed device
trail_error device (of_trail.Damaged damage) = Damaged device damage
trail_error device of_trail.NoMemory = NoMemory

-- and the refusal of a filling
abbrev pub fill_refused : FillError → RollError
fill_refused (filling.Failed device) = Failed device
fill_refused filling.NoMemory = NoMemory

-- the contents of these blocks, which stand one behind the other, file by file
abbrev pub contents_in : List (ℕ × ℕ) → List KeyedBlock → Contents
contents_in files blocks file number = unwrap_or (slice_get blocks (blocks_before files file + number)) (record { file = file; number = number; position = 0; records = [] })

-- what a dump says with this start and these blocks
abbrev pub dump_of : Config → ℕ → ℕ → List KeyedBlock → Base
dump_of config volume start blocks = record { records = map_of (files_on volume 1 config.files) (contents_in (files_on volume 1 config.files) blocks); position = start }

-- what was read is the volume's dump, and the volume has no label
abbrev pub HasDumped : Config → ℕ → (ℕ → Held) → Dumped → Type 0
HasDumped config volume images dump = IsDumped config volume images (dump_of config volume dump.start dump.blocks.items)

-- The places are those of the volume's blocks, and each block may stand at its own.
pub record IsPlaced (config : Config) (volume : ℕ) (dump : Dumped) : Type 0 where
  pub start : IsWithin 1 4611686018427387904 dump.start
  pub row : IsRow file_row 0 (files_on volume 1 config.files)
  pub homes : dump.homes.items ≡ homes_in (files_on volume 1 config.files)
  pub blocks : AreInPlace dump.homes.items dump.blocks.items

-- the error tells where the blocks of a dump's body are wrong first
abbrev pub TellsBody : ℕ → ℕ → List Home → Held → RollError → Type 0
TellsBody volume body homes image NotLost = ⊥
TellsBody volume body homes image NoDump = ⊥
TellsBody volume body homes image (Failed device) = Unit {0}
TellsBody volume body homes image (Damaged device damage) = (device ≡ dump_device volume) × TellsRow body homes (image body) (of_volume.Damaged damage)
TellsBody volume body homes image NoMemory = Unit {0}

-- the monitor trail's device
abbrev pub IsMonitor : ℕ → Type 0
IsMonitor number = number ≡ 0

-- the device of a volume's trail
abbrev pub IsTrailOf : Config → ℕ → ℕ → Type 0
IsTrailOf config volume number = number ≡ trail_on config volume

-- the transactions are those that the monitor trail commits
abbrev pub HasList : Held → List Transid → Type 0
HasList image commits = (list : List MonitorRecord) × Spells monitor_format image list × HasCommits list commits

-- the error tells where the monitor trail is wrong first
abbrev pub TellsMonitor : Held → RollError → Type 0
TellsMonitor image NotLost = ⊥
TellsMonitor image NoDump = ⊥
TellsMonitor image (Failed device) = Unit {0}
TellsMonitor image (Damaged device damage) = (device ≡ 0) × IsMonitorDamage image damage
TellsMonitor image NoMemory = Unit {0}

-- what was found of a volume's keys is what its trail and the commits of a list give from a position on
abbrev pub HasAudit : Config → ℕ → ℕ → List MonitorRecord → Held → NodeChanges → Type 0
HasAudit config volume start list image changes = (audit : List AuditRecord) × Spells (audit_format (rules_of config (trail_on config volume))) image audit × AreFoundFor config volume start audit list changes

-- the error tells where the volume's trail is wrong first
abbrev pub TellsOwnTrail : Config → ℕ → Held → RollError → Type 0
TellsOwnTrail config volume image NotLost = ⊥
TellsOwnTrail config volume image NoDump = ⊥
TellsOwnTrail config volume image (Failed device) = Unit {0}
TellsOwnTrail config volume image (Damaged device damage) = (device ≡ trail_on config volume) × IsAuditDamage config (trail_on config volume) image damage
TellsOwnTrail config volume image NoMemory = Unit {0}

-- what was found of a volume's keys is what both trails give from a position on
abbrev pub IsFoundFrom : Config → ℕ → ℕ → (ℕ → Held) → NodeChanges → Type 0
IsFoundFrom config volume start images changes = (list : List MonitorRecord) × Spells monitor_format (images 0) list × HasAudit config volume start list (images (trail_on config volume)) changes
