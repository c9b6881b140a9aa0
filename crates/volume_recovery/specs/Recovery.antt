-- What a recovery answers of the images that its restart made, and what it leaves.
use Rattle.std.specs.Prelude.{◌≡◌, ◌⊎◌, ℕ, ◌<◌, ◌≤◌, List, ◌∷◌, [], ◌++◌, length, slice_get, Some, Result, IfOk, IfErr, MatchResult}
use Rattle.disk_model.specs.Held.{Held}
use Rattle.disk_model.specs.Fuse.{device_of}
use Rattle.disk_model.specs.declared.fuse.Fuse.{Fuse}
use Rattle.tmf_model.specs.declared.config.Config.{Config}
use Rattle.tmf_model.specs.RecordMap.{RecordMap}
use Rattle.trail_files.specs.declared.damage.Damage.{Damage}
use Rattle.trail_files.specs.declared.monitor_record.MonitorRecord.{MonitorRecord}
use Rattle.trail_files.specs.declared.monitor_record.MonitorRecord.TheVariants.{Start}
use Rattle.trail_files.specs.MonitorOrder.{last_epoch}
use Rattle.trail_files.specs.MonitorRecord.{monitor_format}
use Rattle.trail_files.specs.Text.{Spells}
use Rattle.trail_files.specs.Trail.{Rests}
use Rattle.volume_recovery.specs.declared.errors.RecoverError.{RecoverError}
use Rattle.volume_recovery.specs.declared.errors.RecoverError.TheVariants.{Failed, Damaged, EpochsSpent, NoMemory}
use Rattle.volume_recovery.specs.declared.recovery.Recovered.{Recovered}
use Rattle.disk_model.specs.Devices.{AreHeld, AreImages}
use Rattle.volume_recovery.specs.Node.{SpellUpTo, TrailRests, next_epoch}
use Rattle.trail_replay.specs.Texts.{IsFirstDamage}

-- what is said of the images where a recovery of them is refused
abbrev pub IsRefusal : Config → (ℕ → Held) → RecoverError → Type 0
IsRefusal config images (Failed device) = Unit {0}
IsRefusal config images (Damaged device damage) = IsFirstDamage config images device damage
IsRefusal config images EpochsSpent = ((list : List MonitorRecord) × Spells monitor_format (images 0) list × (last_epoch list ≡ Some 4294967295)) × SpellUpTo config images (length config.trails)
IsRefusal config images NoMemory = Unit {0}

-- the answer tells this damage, or none where a device has failed or memory ran out
abbrev pub TellsDamage : ℕ → Damage → RecoverError → Type 0
TellsDamage device damage (Failed number) = Unit {0}
TellsDamage device damage (Damaged number told) = (number ≡ device) × (told ≡ damage)
TellsDamage device damage EpochsSpent = ⊥
TellsDamage device damage NoMemory = Unit {0}

-- each device holds its image, where the answer tells damage or that no epoch is left
abbrev pub IsUnwritten : {D : Type 0} → (D → Held) → (ℕ → Held) → List (Fuse D) → RecoverError → Type 0
IsUnwritten held images after (Failed device) = Unit {0}
IsUnwritten held images after (Damaged device damage) = AreHeld held after images
IsUnwritten held images after EpochsSpent = AreHeld held after images
IsUnwritten held images after NoMemory = Unit {0}

-- whatever a crash leaves of the monitor trail's device spells the records that its image spelled, with or without the next Start
abbrev pub KeepsRecords : {D : Type 0} → (D → Held) → (ℕ → Held) → List (Fuse D) → Type 0
KeepsRecords held images after = (list : List MonitorRecord) → Spells monitor_format (images 0) list → (left : ℕ → Held) → AreImages held after left
    → Spells monitor_format (left 0) list ⊎ Spells monitor_format (left 0) (list ++ Start (next_epoch list) ∷ [])
