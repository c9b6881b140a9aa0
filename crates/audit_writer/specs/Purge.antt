-- Which files of a trail a purge removes, and what it makes of a writer.
use Rattle.std.specs.Prelude.{◌≡◌, ◌⊎◌, ℕ, ◌<◌, ◌≤◌, max, List, [], ◌∷◌, ◌++◌, slice_index, IsTrue, Result, MatchResult}
use Rattle.disk_model.specs.declared.disk.Disk as disk
use Rattle.disk_model.specs.Held.{HasCause}
use Rattle.chronicle.specs.Seats.{Sight, own_events}
use Rattle.trail_files.specs.declared.audit_record.AuditRecord.{AuditRecord}
use Rattle.trail_files.specs.AuditRecord.{audit_format}
use Rattle.trail_files.specs.Content.{Placed, Content, without_below}
use Rattle.trail_files.specs.Holds.{Holds}
use Rattle.trail_files.specs.Trail.{View}
use Rattle.node_machine.specs.declared.event.By.{By}
use Rattle.node_machine.specs.declared.event.Event.{Event}
use Rattle.node_machine.specs.declared.event.Event.TheVariants.{OfTrail}
use Rattle.node_machine.specs.declared.event.TrailEvent.TheVariants.{Purge, Failed}
use Rattle.node_machine.specs.Same.{Among}
use Rattle.audit_writer.specs.Writer.{Writer}
use Rattle.audit_writer.specs.Writes.{Writes}

-- the record stands below what its disc has told
abbrev pub IsSpent : List ℕ → AuditRecord → Type 0
IsSpent bounds r = r.position < slice_index bounds r.disc

-- all records of the trail in files below this one are spent
abbrev pub AreSpentBelow : List ℕ → Content AuditRecord → ℕ → Type 0
AreSpentBelow bounds content file = (x : Placed AuditRecord) → Among content.placed x → x.0 < file → IsSpent bounds x.1

-- The first file that is kept: all records in files below it are spent, and it has one that is not, or is the present one.
pub record IsFirstKept (bounds : List ℕ) (content : Content AuditRecord) (file : ℕ) : Type 0 where
  pub front : file ≤ content.file
  pub spent : AreSpentBelow bounds content file
  pub kept : (file ≡ content.file) ⊎ ((x : Placed AuditRecord) × Among content.placed x × (x.0 ≡ file) × (slice_index bounds x.1.disc ≤ x.1.position))

-- Exactly the files below the first one that is kept are gone. Where a call of the device has failed, some of the files with no other
-- records than spent ones are.
abbrev pub HasRemoved : {D T E : Type 0} → disk.Ghosts D → List ℕ → View D → View D → Result T E → Type 0
HasRemoved kind bounds old new result = (content : Content AuditRecord) → IsTrue (kind.tells old.device) → Holds kind audit_format old content
    → MatchResult result
    (λ _. (file : ℕ) × IsFirstKept bounds content file × (new.least ≡ max old.least file) × Holds kind audit_format new (without_below new.least file content))
    (λ _. (from : ℕ) × AreSpentBelow bounds content from × Holds kind audit_format new (without_below new.least from content))

-- These are no events, and no file is gone; or they are one purge, which names the present file, and no file from the one on that it names is gone.
abbrev pub AreOfPurge : ℕ → ℕ → ℕ → List Event → Type 0
AreOfPurge least present now [] = now ≡ least
AreOfPurge least present now (OfTrail (Purge below last) ∷ []) = (last ≡ present) × (least < below) × (now ≤ below)
AreOfPurge least present now _ = ⊥

-- the part has had one purge, or no event where no file is gone
abbrev pub HasPurged : {D : Type 0} → Writer D → Writer D → Type 0
HasPurged v w = (es : List Event) × (own_events w.seat.sight ≡ own_events v.seat.sight ++ es) × AreOfPurge v.trail.least v.trail.file w.trail.least es

-- the same, and then a failed call
abbrev pub HasPurgeStopped : {D : Type 0} → By → Writer D → Writer D → Type 0
HasPurgeStopped by v w = (es : List Event) × (own_events w.seat.sight ≡ own_events v.seat.sight ++ (es ++ OfTrail (Failed by) ∷ [])) × AreOfPurge v.trail.least v.trail.file w.trail.least es

-- A purge for a caller: exactly the files that no disc needs are gone, the part's events say so, and what waits stays. One that is refused has its
-- cause in the device's count. The caller has seen what the writer has.
pub record HasPurgedFor {D T E : Type 0} (kind : disk.Ghosts D) (by : By) (caller : Sight Event) (result : Result T E) (v w : Writer D) : Type 0 where
  pub kept : Writes kind v w × (w.queue ≡ v.queue)
  pub removes : HasRemoved kind v.bounds v.trail w.trail result
  pub events : MatchResult result (λ _. HasPurged v w) (λ _. HasPurgeStopped by v w)
  pub cause : HasCause (kind.faults v.trail.device) (kind.faults w.trail.device) result
  pub same : caller.seen ≡ w.seat.sight.seen
