-- What was found of the keys of a node's files, and which position each disc gives out next.
use Rattle.std.specs.Prelude.{◌≡◌, ◌≢◌, ℕ, ◌-◌, ◌≤◌, List, [], length, slice_get, Some}
use Rattle.tmf_model.specs.Config.{IsNumber, IsWithin}
use Rattle.tmf_model.specs.declared.config.Config.{Config}
use Rattle.tmf_model.specs.declared.config.Volume.{Volume}
use Rattle.trail_files.specs.declared.audit_record.AuditRecord.{AuditRecord}
use Rattle.trail_files.specs.declared.monitor_record.MonitorRecord.{MonitorRecord}
use Rattle.trail_files.specs.Recovered.{kept_records}
use Rattle.trail_replay.specs.declared.replay.FoundFiles.{FoundFiles}
use Rattle.trail_replay.specs.Home.{LiesOn}
use Rattle.trail_replay.specs.Replay.{IsFoundAt, maps_of}
use Rattle.volume_restore.specs.declared.changes.DiscPlace.{DiscPlace}
use Rattle.volume_restore.specs.declared.changes.NodeChanges.{NodeChanges}
use Rattle.volume_restore.specs.Bases.{next_behind}

-- of each file of the volume that was found which its audit from the low position on and the commits give
abbrev pub IsFoundOn : Config → ℕ → ℕ → List AuditRecord → List MonitorRecord → FoundFiles → Type 0
IsFoundOn config volume low audit list files = (file trail : ℕ) → LiesOn config file volume trail → IsFoundAt file (kept_records volume low audit) list files

-- the position is the next one behind the audit, where that is one that a label may have
abbrev pub IsNextBehind : ℕ → ℕ → List AuditRecord → ℕ → Type 0
IsNextBehind volume low audit next = next_behind volume low audit ≤ 4611686018427387904 → next ≡ next_behind volume low audit

-- what was found of the keys of a volume's files, and the position that its disc gives out next, are those of its audit and the commits
pub record AreFoundIn (config : Config) (volume low : ℕ) (audit : List AuditRecord) (list : List MonitorRecord) (files : FoundFiles) (position : ℕ) : Type 0 where
  pub found : IsFoundOn config volume low audit list files
  pub next : position ≡ next_behind volume low audit

-- so are those of a node's changes, in which the volume has this low position
pub record AreFoundFor (config : Config) (volume low : ℕ) (audit : List AuditRecord) (list : List MonitorRecord) (changes : NodeChanges) : Type 0 where
  pub found : IsFoundOn config volume low audit list changes.files
  pub place : slice_get changes.places.items (volume - 1) ≡ Some (record { low = low; next = next_behind volume low audit })

-- so far: the next position is told where it is one that a label may have
pub record AreFoundSoFar (config : Config) (volume low : ℕ) (audit : List AuditRecord) (list : List MonitorRecord) (changes : NodeChanges) : Type 0 where
  pub found : IsFoundOn config volume low audit list changes.files
  pub next : ℕ
  pub place : slice_get changes.places.items (volume - 1) ≡ Some (record { low = low; next = next })
  pub behind : IsNextBehind volume low audit next

-- of a volume nothing more was taken in
pub record IsLeftOut (config : Config) (volume : ℕ) (old new : NodeChanges) : Type 0 where
  pub files : (file trail : ℕ) → LiesOn config file volume trail → slice_get (maps_of new.files) (file - 1) ≡ slice_get (maps_of old.files) (file - 1)
  pub place : slice_get new.places.items (volume - 1) ≡ slice_get old.places.items (volume - 1)

-- The changes have a map for each file of the configuration, and for each volume its positions, of which the next is one that a label may have.
pub record FitsNode (config : Config) (changes : NodeChanges) : Type 0 where
  pub files : length (maps_of changes.files) ≡ length config.files
  pub places : length changes.places.items ≡ length config.volumes
  pub within : (n : ℕ) (place : DiscPlace) → slice_get changes.places.items n ≡ Some place → IsWithin 1 4611686018427387904 place.next

-- One trail was taken in: of each volume that is audited to it, of which nothing was, its whole audit; and of any other volume nothing.
pub record HasTaken (config : Config) (trail : ℕ) (audit : List AuditRecord) (list : List MonitorRecord) (old new : NodeChanges) : Type 0 where
  pub own : (volume low : ℕ) (line : Volume) → IsNumber config.volumes volume line → line.trail ≡ trail → AreFoundFor config volume low [] list old → AreFoundFor config volume low audit list new
  pub others : (volume low : ℕ) (line : Volume) (other : List AuditRecord) → IsNumber config.volumes volume line → line.trail ≢ trail → AreFoundFor config volume low other list old → AreFoundFor config volume low other list new
