-- What the opening of a run's devices keeps of them, whether they are fit, and what it leaves where one is refused.
use Rattle.std.specs.Prelude.{◌≡◌, ◌⊎◌, ℕ, ◌+◌, ◌<◌, ◌≤◌, IsTrue, List, [], ◌∷◌, length, drop, slice_get, Some, Result, MatchResult}
use Rattle.disk_model.specs.declared.disk.Disk as disk
use Rattle.node_machine.specs.Same.{Among}
use Rattle.online_dump.specs.Found.{start_in}
use Rattle.tmf_model.specs.Config.{IsDeclared, IsNumber}
use Rattle.tmf_model.specs.declared.config.Config.{Config}
use Rattle.tmf_model.specs.declared.config.Volume.{Volume}
use Rattle.trail_files.specs.AuditRecord.{audit_format}
use Rattle.trail_files.specs.Text.{Spells}
use Rattle.trail_files.specs.declared.audit_record.AuditRecord.{AuditRecord}
use Rattle.trail_files.specs.declared.damage.Damage.{Damage}
use Rattle.trail_replay.specs.Opening.{IsOpened}
use Rattle.trail_replay.specs.Rules.{rules_of}
use Rattle.volume_restore.specs.Bases.{next_behind}
use Rattle.run_outcomes.specs.Attaching.{IsFirstUnfit, IsFit, IsUnfitAt}
use Rattle.run_outcomes.specs.Devices.{IsUntouched, TellUpTo, dump_device, held_by, volume_device}
use Rattle.run_outcomes.specs.declared.outcome.PhaseError.{PhaseError}
use Rattle.run_outcomes.specs.declared.outcome.PhaseError.TheVariants as error
use Rattle.run_opening.specs.Dumps.{IsDumpKept}
use Rattle.run_opening.specs.Kept.{AreBlocksKept, IsKeptAsLost, IsMonitorKept, low_kept}
use Rattle.run_opening.specs.Lasts.{IsNextFor, next_at}
use Rattle.run_opening.specs.Placed.{IsPlaced}
use Rattle.run_opening.specs.Refusal.{IsRefused, TellsAt}
use Rattle.run_opening.specs.declared.kept.Kept.{Kept}
use Rattle.run_opening.specs.declared.kept.Kept.TheVariants.{Monitor, Audit, Volume as VolumeKept, Dump as DumpKept, Idle}
use Rattle.run_opening.specs.declared.lasts.Lasts.{Lasts}
use Rattle.run_opening.specs.declared.opening.Opened.{Opened}

module _ {D : Type 0} (kind : disk.Ghosts D) (config : Config) where
  -- The low position of a volume that is kept is the one that its disc gives out next, by the audit of its trail: where the trail's device tells what it holds, whatever the volume's own device tells.
  abbrev pub IsNextIn : List D → ℕ → Kept D → Type 0
  IsNextIn devices number (VolumeKept blocks) = (volume : ℕ) (line : Volume) (on : D) (audit : List AuditRecord) → IsNumber config.volumes volume line → number ≡ volume_device volume
      → slice_get devices line.trail ≡ Some on → IsTrue (kind.tells on) → Spells (audit_format (rules_of config line.trail)) (kind.held on) audit → next_behind volume blocks.label.low audit ≡ blocks.label.low
  IsNextIn devices number _ = Unit {0}

  -- A device of dumps is opened where the volume's blocks are kept among these, and only there; and the start of the dump that it has found is one that the disc has reached.
  abbrev pub IsReachedIn : List (Kept D) → ℕ → Kept D → Type 0
  IsReachedIn kept number (DumpKept file) = (volume : ℕ) → number ≡ dump_device volume → (low : ℕ) × (low_kept (slice_get kept (volume_device volume)) ≡ Some low) × ((start : ℕ) → start_in file.found ≡ Some start → start ≤ low)
  IsReachedIn kept number (Idle left) = (volume low : ℕ) → IsDeclared config.volumes volume → number ≡ dump_device volume → low_kept (slice_get kept (volume_device volume)) ≡ Some low → ⊥
  IsReachedIn kept number _ = Unit {0}

  -- Of the trails below this number the last records are seen: of each volume on one of them that told its audit. Of a volume on another none is.
  pub record HasSeen (devices : List D) (number : ℕ) (lasts : Lasts) : Type 0 where
    pub seen : (volume low : ℕ) (line : Volume) (device : D) (audit : List AuditRecord) → IsNumber config.volumes volume line → line.trail < number → slice_get devices line.trail ≡ Some device
        → IsTrue (kind.tells device) → Spells (audit_format (rules_of config line.trail)) (kind.held device) audit → IsNextFor volume low audit (next_at lasts volume)
    pub unseen : (volume : ℕ) (line : Volume) → IsNumber config.volumes volume line → number ≤ line.trail → next_at lasts volume ≡ 0

  module _ (epoch : ℕ) (named : List ℕ) where
    -- A device that is kept alone is as it was handed in where the configuration leaves it out, or where it is that of a volume's dumps; or it is that of a lost volume, which the run
    -- does not name.
    abbrev pub IsIdle : ℕ → D → D → Type 0
    IsIdle number device left =
        ((IsUntouched config number ⊎ ((volume : ℕ) × IsDeclared config.volumes volume × (number ≡ dump_device volume))) × (left ≡ device))
        ⊎ ((volume : ℕ) × IsDeclared config.volumes volume × (number ≡ volume_device volume) × IsKeptAsLost kind device left × (Among named volume → ⊥))

    -- this is kept of the device with this number
    abbrev pub IsKept : ℕ → D → Kept D → Type 0
    IsKept number device (Monitor kept) = (number ≡ 0) × IsMonitorKept kind config epoch device kept
    IsKept number device (Audit kept) = (1 ≤ number) × (number ≤ length config.trails) × IsOpened kind audit_format (rules_of config number) device kept.trail × IsPlaced kind kept
    IsKept number device (VolumeKept blocks) = (volume : ℕ) × IsDeclared config.volumes volume × (number ≡ volume_device volume) × AreBlocksKept kind config volume device blocks
    IsKept number device (DumpKept file) = (volume : ℕ) × IsDeclared config.volumes volume × (number ≡ dump_device volume) × IsDumpKept kind volume device file
    IsKept number device (Idle left) = IsIdle number device left

    -- it is kept of the device, and fits what is kept of others
    abbrev pub IsKeptAmong : List D → List (Kept D) → ℕ → D → Kept D → Type 0
    IsKeptAmong old kept number device k = IsKept number device k × IsNextIn old number k × IsReachedIn kept number k

    -- what was opened is fit; of what was refused no damage is told but one that makes it unfit
    abbrev pub IsJudged : {T : Type 0} → ℕ → List D → Result T (D × PhaseError) → Type 0
    IsJudged number devices result = MatchResult result (λ _. IsFit config epoch named (held_by kind devices) number) (λ e. TellsAt number (IsUnfitAt config epoch named (held_by kind devices) number) e.1)

    -- each device below this number is fit, where all up to it tell what they hold
    abbrev pub AreFitBelow : ℕ → List D → Type 0
    AreFitBelow number devices = (n : ℕ) → n < number → TellUpTo kind n devices → IsFit config epoch named (held_by kind devices) n

    -- these are kept of devices, in the order of the numbers
    abbrev pub AreKept : List D → List (Kept D) → Type 0
    AreKept old kept = (n : ℕ) (device : D) (k : Kept D) → slice_get old n ≡ Some device → slice_get kept n ≡ Some k → IsKeptAmong old kept n device k

    -- each device that was opened is kept, and is fit
    pub record AreOpenedSoFar (old : List D) (kept : List (Kept D)) : Type 0 where
      pub each : AreKept old kept
      pub fit : AreFitBelow (length kept) old

    -- The device with this number was refused: it stands in front of the others, was read alone, is one of the configuration, and what is told of it is so.
    pub record IsRefusedAt (old left : List D) (number : ℕ) (why : PhaseError) : Type 0 where
      pub before : D
      pub after : D
      pub was : slice_get old number ≡ Some before
      pub is : left ≡ after ∷ drop (number + 1) old
      pub declared : IsUntouched config number → ⊥
      pub refused : IsRefused kind number before after why
      pub damage : TellUpTo kind number old → TellsAt number (IsUnfitAt config epoch named (held_by kind old) number) why

    -- Each device is kept, in the order of the numbers, and is fit. There is room for the devices.
    pub record AreOpened (old : List D) (opened : Opened D) : Type 0 where
      pub each : AreKept old opened.kept.items
      pub count : length opened.kept.items ≡ 21
      pub fit : AreFitBelow 21 old
      pub row : (opened.row.devices ≡ []) × (21 ≤ opened.row.room)

    -- Where a device is unfit, no other damage is told than the first, and the devices are not opened.
    abbrev pub IsExactFor : {T X : Type 0} → List D → Result T (PhaseError × X) → Type 0
    IsExactFor old result = (device : ℕ) (damage : Damage) → TellUpTo kind device old → IsFirstUnfit config epoch named (held_by kind old) device damage
        → MatchResult result (λ _. ⊥) (λ e. (other : ℕ) (told : Damage) → e.0 ≡ error.Damaged other told → (other ≡ device) × (told ≡ damage))
