-- What a rollforward gives a volume, what keeps it from that, and what its images are on the way.
use Rattle.std.specs.Prelude.{◌≡◌, ◌≢◌, ◌⊎◌, ℕ, ◌+◌, ◌<◌, List, slice_get, Some, None}
use Rattle.disk_model.specs.Devices.{AreImages, AreLater, DeviceAt, EachAs}
use Rattle.disk_model.specs.Held.{Held}
use Rattle.disk_model.specs.declared.disk.Disk as disk
use Rattle.disk_model.specs.declared.fuse.Fuse.{Fuse}
use Rattle.tmf_model.specs.declared.config.Config.{Config}
use Rattle.tmf_model.specs.RecordMap.{RecordMap}
use Rattle.keyed_file.specs.declared.dump_label.DumpLabel.{DumpLabel}
use Rattle.keyed_file.specs.Dump.{body_at}
use Rattle.keyed_file.specs.Volume.{IsLost, files_on, label_of}
use Rattle.trail_files.specs.declared.audit_record.AuditRecord.{AuditRecord}
use Rattle.trail_files.specs.declared.damage.Damage.{Damage}
use Rattle.trail_files.specs.declared.damage.DamageKind.TheVariants.{BadBlock}
use Rattle.trail_files.specs.declared.monitor_record.MonitorRecord.{MonitorRecord}
use Rattle.trail_files.specs.AuditRecord.{audit_format}
use Rattle.trail_files.specs.MonitorRecord.{monitor_format}
use Rattle.trail_files.specs.Recovered.{kept_records, recovered_value}
use Rattle.trail_files.specs.StandsFor.{Base, next_position}
use Rattle.trail_files.specs.Text.{Spells}
use Rattle.block_cache.specs.Volume.{HasBase, HasDump, HasNoLabel, RestsFor}
use Rattle.trail_replay.specs.Rules.{rules_of}
use Rattle.trail_replay.specs.Texts.{IsAuditDamage, IsMonitorDamage}
use Rattle.volume_restore.specs.Bases.{volume_on}
use Rattle.volume_restore.specs.Changed.{HasRoomIn, IsOverfull}
use Rattle.volume_restore.specs.Damage.{blocks_on}
use Rattle.volume_recovery.specs.VolumeNode.{dump_device, volume_device}
use Rattle.rollforward.specs.Body.{IsBodyDamage}
use Rattle.rollforward.specs.Filled.{KeepsOtherFiles}
use Rattle.rollforward.specs.Newest.{IsLabelDamage, IsNewestDump, IsOfVolume, TellsNoDump}
use Rattle.rollforward.specs.declared.errors.RollError.{RollError}
use Rattle.rollforward.specs.declared.errors.RollError.TheVariants.{NotLost, NoDump, Failed, Damaged, NoMemory}

-- the trail that a volume is audited to
abbrev pub trail_on : Config → ℕ → ℕ
trail_on config volume = (label_of config volume 1).trail

-- the volume has no label, and its dump says this
abbrev pub IsDumped : Config → ℕ → (ℕ → Held) → Base → Type 0
IsDumped config volume images dump = IsLost (images (volume_device volume)) × HasDump config volume (images (dump_device volume)) (Some dump)

-- What a rollforward reads: the volume has no label; and its dump, the monitor trail and the volume's own trail say this.
pub record IsRead (config : Config) (volume : ℕ) (images : ℕ → Held) (dump : Base) (list : List MonitorRecord) (audit : List AuditRecord) : Type 0 where
  pub dumped : IsDumped config volume images dump
  pub listed : Spells monitor_format (images 0) list
  pub audited : Spells (audit_format (rules_of config (trail_on config volume))) (images (trail_on config volume)) audit

-- what the dump's records are, with the audit from its start on redone or undone by the commits
abbrev pub rolled_map : ℕ → Base → List MonitorRecord → List AuditRecord → RecordMap
rolled_map volume dump list audit = recovered_value dump.records (kept_records volume dump.position audit) list

-- What a volume says that is rolled forward: the keys of its files have these values, and its low position is the one that its disc gives out next.
pub record RollsForward (config : Config) (volume : ℕ) (images : ℕ → Held) (base : Base) : Type 0 where
  pub dump : Base
  pub list : List MonitorRecord
  pub audit : List AuditRecord
  pub read : IsRead config volume images dump list audit
  pub position : base.position ≡ next_position (kept_records volume 0 audit) None (Some dump.position)
  pub values : (file : ℕ) (key : List ℕ) → volume_on config file ≡ volume → base.records file key ≡ rolled_map volume dump list audit file key

-- The volume is rolled forward: it says what its dump and its audit give, with this next position; so does each image of it; and nothing of it is at risk.
pub record IsRolledTo {D : Type 0} (held : D → Held) (config : Config) (volume : ℕ) (images : ℕ → Held) (new : List (Fuse D)) (next : ℕ) : Type 0 where
  pub base : Base
  pub rolls : RollsForward config volume images base
  pub next_is : base.position ≡ next
  pub device : DeviceAt (λ d. HasBase config volume (held d) (Some base) × RestsFor (label_of config volume next) (held d)) new (volume_device volume)
  pub every : (left : ℕ → Held) → AreImages held new left → HasBase config volume (left (volume_device volume)) (Some base)

-- The second images are such as a rollforward may leave of the first, whole or stopped anywhere, where the devices held these: the image of the volume's
-- device is as it was, or has no label, or says what its dump and its audit give; and the others are as they were.
pub record MayRoll (config : Config) (volume : ℕ) (held images left : ℕ → Held) : Type 0 where
  pub others : (n : ℕ) → n ≢ volume_device volume → left n ≡ images n
  pub own : (left (volume_device volume) ≡ images (volume_device volume))
      ⊎ (HasNoLabel (left (volume_device volume)) ⊎ ((base : Base) × RollsForward config volume held base × HasBase config volume (left (volume_device volume)) (Some base)))

-- The first block of a volume that would hold more than 62 keys of a map, told at its selector.
pub record IsFirstOverfull (config : Config) (volume : ℕ) (map : RecordMap) (damage : Damage) : Type 0 where
  pub file : ℕ
  pub number : ℕ
  pub within : number < blocks_on config volume file
  pub at : damage ≡ record { file = 1 + file; at = number; kind = BadBlock }
  pub here : IsOverfull (blocks_on config volume file) number (map file)
  pub before : (f n : ℕ) → n < blocks_on config volume f → body_at (files_on volume 1 config.files) f n < body_at (files_on volume 1 config.files) file number
      → HasRoomIn (blocks_on config volume f) n (map f)

-- Where a trail is wrong first that a rollforward reads: the monitor trail, or, where that is whole, the volume's own.
abbrev pub IsTrailDamage : Config → ℕ → (ℕ → Held) → ℕ → Damage → Type 0
IsTrailDamage config volume images device damage =
    ((device ≡ 0) × IsMonitorDamage (images 0) damage)
    ⊎ ((device ≡ trail_on config volume) × ((list : List MonitorRecord) × Spells monitor_format (images 0) list) × IsAuditDamage config (trail_on config volume) (images (trail_on config volume)) damage)

-- Where the dump of a volume is wrong first: at a label, or, where the labels are fine, in the body that its label names.
abbrev pub IsDumpDamage : Config → ℕ → (ℕ → Held) → ℕ → Damage → Type 0
IsDumpDamage config volume images device damage =
    IsLabelDamage config volume images device damage
    ⊎ ((device ≡ dump_device volume) × ((label : DumpLabel) × IsNewestDump config volume images label × IsBodyDamage (files_on volume 1 config.files) (images (dump_device volume)) label damage))

-- What is wrong first of what a rollforward reads, in the order in which it is read: the labels and the dump's body; then, with a dump that is whole, a trail;
-- then, where all is whole, the first block that would hold too much.
abbrev pub IsRollDamage : Config → ℕ → (ℕ → Held) → ℕ → Damage → Type 0
IsRollDamage config volume images device damage =
    IsDumpDamage config volume images device damage
    ⊎ ((((dump : Base) × IsDumped config volume images dump) × IsTrailDamage config volume images device damage)
    ⊎ ((device ≡ volume_device volume) × ((dump : Base) × (list : List MonitorRecord) × (audit : List AuditRecord) × IsRead config volume images dump list audit × IsFirstOverfull config volume (rolled_map volume dump list audit) damage)))

-- The error tells why a volume is not rolled forward, and of these reasons the first that holds.
abbrev pub TellsRoll : Config → ℕ → (ℕ → Held) → RollError → Type 0
TellsRoll config volume images NotLost = TellsNoDump config volume images NotLost
TellsRoll config volume images NoDump = TellsNoDump config volume images NoDump
TellsRoll config volume images (Failed device) = Unit {0}
TellsRoll config volume images (Damaged device damage) = IsRollDamage config volume images device damage
TellsRoll config volume images NoMemory = Unit {0}

-- of these the first two say why no dump is read
abbrev pub TellsDump : Config → ℕ → (ℕ → Held) → RollError → Type 0
TellsDump config volume images NotLost = TellsNoDump config volume images NotLost
TellsDump config volume images NoDump = TellsNoDump config volume images NoDump
TellsDump config volume images (Failed device) = Unit {0}
TellsDump config volume images (Damaged device damage) = IsDumpDamage config volume images device damage
TellsDump config volume images NoMemory = Unit {0}

-- why no trail is read
abbrev pub TellsTrail : Config → ℕ → (ℕ → Held) → RollError → Type 0
TellsTrail config volume images NotLost = ⊥
TellsTrail config volume images NoDump = ⊥
TellsTrail config volume images (Failed device) = Unit {0}
TellsTrail config volume images (Damaged device damage) = IsTrailDamage config volume images device damage
TellsTrail config volume images NoMemory = Unit {0}

-- a device of which a rollforward asks: the volume's, that of its dumps, the monitor trail's or the volume's trail's
abbrev pub IsRollDevice : Config → ℕ → ℕ → Type 0
IsRollDevice config volume number = IsOfVolume volume number ⊎ ((number ≡ 0) ⊎ (number ≡ trail_on config volume))

-- A call that writes the volume's device, and reads three others: each of these holds what it held, and all others are as they were. Of the volume's device no file is
-- touched but the label's and those of the volume.
pub record RollsOnly {D : Type 0} (kind : disk.Ghosts D) (config : Config) (volume : ℕ) (old new : List (Fuse D)) : Type 0 where
  pub same : (n : ℕ) → n ≢ volume_device volume → EachAs (λ a b. kind.held b ≡ kind.held a) (slice_get old n) (slice_get new n)
  pub keeps : AreLater kind old new
  pub others : (n : ℕ) → ¬ IsRollDevice config volume n → slice_get new n ≡ slice_get old n
  pub files : KeepsOtherFiles kind config volume old new

-- the error is that a device failed
abbrev pub IsFailure : RollError → Type 0
IsFailure NotLost = ⊥
IsFailure NoDump = ⊥
IsFailure (Failed device) = Unit {0}
IsFailure (Damaged device damage) = ⊥
IsFailure NoMemory = ⊥
