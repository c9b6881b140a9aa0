-- What a trail's writer keeps: how its trail, its part's state and the records that were handed in belong together.
use Rattle.std.specs.Prelude.{◌≡◌, ◌≢◌, ◌⊎◌, ℕ, ◌+◌, ◌-◌, ◌^◌, ◌≤◌, ◌<◌, true, List, [], ◌∷◌, ◌++◌, length, slice_index, Option, Some, None, IsTrue, IfSome}
use mathlib.Core.List.{IsPrefix}
use Rattle.disk_model.specs.Frame.{IsLater}
use Rattle.disk_model.specs.Held.{Held, Leaves}
use Rattle.disk_model.specs.declared.disk.Disk as disk
use Rattle.chronicle.specs.Seats.{Knows}
use Rattle.trail_files.specs.declared.audit_record.AuditRecord.{AuditRecord}
use Rattle.trail_files.specs.declared.trail.TrailPhase.{TrailPhase}
use Rattle.trail_files.specs.declared.trail.TrailPhase.TheVariants.{Ready, Loaded, Offered, RollOffered}
use Rattle.trail_files.specs.AuditRecord.{audit_format}
use Rattle.trail_files.specs.AuditOrder.{is_audit_order, last_position}
use Rattle.trail_files.specs.Content.{Placed, Content, in_file, from_file, batch_of, landed_in}
use Rattle.trail_files.specs.Format.{AllValid}
use Rattle.trail_files.specs.Holds.{Holds}
use Rattle.trail_files.specs.Trail.{View, Rests, IsWritable}
use Rattle.node_machine.specs.declared.event.TrailEvent.{TrailEvent}
use Rattle.node_machine.specs.declared.event.TrailEvent.TheVariants.{Purge, Failed}
use Rattle.node_machine.specs.Parts.{Standing, TrailPart, PartState, Fact}
use Rattle.node_machine.specs.Parts.Fact.{Made, Floor}
use Rattle.node_machine.specs.Trail.{offered, landed, present_file, offered_standing, landed_standing, trail_of, records_of, first_of, PurgeAsks}
use Rattle.node_machine.specs.Node.{node}
use Rattle.node_machine.specs.Opening.{Found}
use Rattle.trail_files.specs.declared.rules.Rules.{Rules}
use Rattle.node_machine.specs.Same.{Among}
use Rattle.node_machine.specs.Shows.{MayBeGone, ShowsTrail}
use Rattle.audit_writer.specs.Seat.{TrailSight, IsTrailAt}

-- what callers see of a writer
pub record Writer (D : Type 0) : Type 0 where
  pub seat : TrailSight
  pub trail : View D
  -- what was handed in and has not landed, of which what is offered comes first
  pub queue : List AuditRecord
  -- of each disc the position below which it needs none of its records, as it has told; 0 where it has told none
  pub bounds : List ℕ

-- no disc has told a bound
abbrev pub no_bounds : List ℕ
no_bounds = 0 ∷ 0 ∷ 0 ∷ 0 ∷ 0 ∷ 0 ∷ 0 ∷ 0 ∷ 0 ∷ []

-- the same with these bounds
abbrev pub with_bounds : {D : Type 0} → List ℕ → Writer D → Writer D
with_bounds bounds w = record w { bounds = bounds }

-- all that was handed in in this run, landed or not, in order
abbrev pub handed_in : {D : Type 0} → Writer D → List AuditRecord
handed_in w = landed w.seat.part.events ++ w.queue

-- the batch that is being written; none where there is no such batch
abbrev pub offered_batch : TrailPart → List AuditRecord
offered_batch part = offered part.events

-- the disc's records of this run, landed or not
abbrev pub disc_made : TrailPart → List AuditRecord → ℕ → List AuditRecord
disc_made part queue d = records_of d (landed part.events ++ queue)

-- records of the disc, from this position on without a gap
abbrev pub AreFrom : ℕ → ℕ → List AuditRecord → Type 0
AreFrom position disc [] = Unit {0}
AreFrom position disc (r ∷ rs) = (r.disc ≡ disc) × (r.position ≡ position) × AreFrom (position + 1) disc rs

-- records of a history, as a trail has them
abbrev pub placed_of : List Standing → List (Placed AuditRecord)
placed_of [] = []
placed_of (x ∷ xs) = (x.file, x.item) ∷ placed_of xs

-- a batch is offered exactly where the trail has one behind its gate
abbrev pub HasPhase : TrailPhase → List AuditRecord → Type 0
HasPhase phase batch = (((phase ≡ Ready) ⊎ (phase ≡ RollOffered)) × (batch ≡ [])) ⊎ (((phase ≡ Loaded) ⊎ (phase ≡ Offered)) × (batch ≢ []))

-- The trail has the records of the opening and those that have landed, but for those in files that a purge named; what is offered is
-- behind its gate; and what waits may stand behind them.
pub record Stands {D : Type 0} (kind : disk.Ghosts D) (trail : View D) (part : TrailPart) (queue : List AuditRecord) : Type 0 where
  pub tells : IsTrue (kind.tells trail.device)
  pub content : Content AuditRecord
  pub holds : Holds kind audit_format trail content
  pub old : List Standing
  pub told : part.old ≡ Some old
  -- the files below this one may be gone
  pub from : ℕ
  pub gone : MayBeGone part.events from
  pub front : from ≤ trail.file
  pub placed : content.placed ≡ from_file from (placed_of (old ++ landed_standing part.events))
  pub pending : in_file content.file (batch_of content.pending) ≡ placed_of (offered_standing part.events)
  pub order : is_audit_order (landed_in content ++ queue) ≡ true
  -- of each disc with a part the last record stands in front of its next one
  pub next : (d : ℕ) → 1 ≤ first_of part.firsts d → IfSome (last_position d (landed_in content ++ queue)) (λ last. last + 1 ≡ first_of part.firsts d + length (disc_made part queue d))

-- The trail, its part's state and what waits belong together, where these facts are known.
pub record Belong {D : Type 0} (kind : disk.Ghosts D) (premise : Type 0) (known : Fact → Type 0) (part : TrailPart) (trail : View D) (queue : List AuditRecord) : Type 0 where
  pub writable : IsWritable kind.tells kind.held trail
  pub phase : HasPhase trail.phase (offered part.events)
  pub more : trail.phase ≡ RollOffered → trail.file < 4294967295
  pub file : present_file part.present part.events ≤ trail.file
  pub front : IsPrefix (offered part.events) queue
  pub valid : AllValid (audit_format trail.rules) queue
  pub own : (r : AuditRecord) → Among queue r → trail_of part.config r.disc ≡ part.number
  -- of each disc these are its first records of this run, and so is each part of them from the front
  pub positions : (d : ℕ) → AreFrom (first_of part.firsts d) d (disc_made part queue d)
  pub made : (d : ℕ) (xs ys : List AuditRecord) → disc_made part queue d ≡ xs ++ ys → xs ≢ [] → (n : ℕ) × known (Made d n xs)
  -- where the opening tells records, the premise holds
  pub told : (old : List Standing) → part.old ≡ Some old → premise
  -- a purge has named files in front of the present one, and what it asked is known of all records that stand there
  pub purged : (below last : ℕ) → Among part.events (Purge below last) → (below ≤ trail.file) × PurgeAsks known part.old part.events below
  pub stands : premise → Stands kind trail part queue

-- of each disc the bound is 0 or a floor of the disc
abbrev pub AreFloors : (Fact → Type 0) → List ℕ → Type 0
AreFloors known bounds = (d : ℕ) → (slice_index bounds d ≡ 0) ⊎ known (Floor d (slice_index bounds d))

-- how often a call of the part's device has failed
abbrev pub failures : List TrailEvent → ℕ
failures [] = 0
failures (Failed by ∷ events) = failures events + 1
failures (_ ∷ events) = failures events

-- the count of a device rose from the first one by as many failed calls at least, where it does not stand at its end
abbrev pub IsRise : ℕ → ℕ → List TrailEvent → Type 0
IsRise first now events = now < 2 ^ 64 - 1 → first + failures events ≤ now

-- the device is the one that was handed in, as its calls have left it
abbrev pub IsHandedIn : {D : Type 0} → disk.Ghosts D → Option D → D → Type 0
IsHandedIn kind None now = ⊥
IsHandedIn kind (Some given) now = IsLater kind given now

-- What holds of each writer of a run, where the name of the run carries these things.
pub record IsWriter {D : Type 0} (kind : disk.Ghosts D) (opening : List PartState) (found : Found) (rules_of : ℕ → Rules) (faults_of : ℕ → ℕ) (premise_of : ℕ → Type 0) (devices : ℕ → Option D) (w : Writer D) : Type 0 where
  pub at : IsTrailAt opening found w.seat
  pub belong : Belong kind (premise_of w.seat.part.number) (Knows node opening w.seat.sight) w.seat.part w.trail w.queue
  pub rules : w.trail.rules ≡ rules_of w.seat.part.number
  pub device : IsHandedIn kind (devices w.seat.part.number) w.trail.device
  pub rise : IsRise (faults_of w.seat.part.number) (kind.faults w.trail.device) w.seat.part.events
  pub floors : AreFloors (Knows node opening w.seat.sight) w.bounds

-- where the premise holds, the part allows each image that the device may leave
abbrev pub AreShown : {D : Type 0} → disk.Ghosts D → Type 0 → Writer D → Type 0
AreShown kind premise w = premise → (image : Held) → Leaves (kind.held w.trail.device) image
    → (audit : List AuditRecord) × ShowsTrail w.seat.part audit × Rests (audit_format w.trail.rules) image audit

-- The part has just opened as the trail stands: where the premise holds, the trail has the records of the opening, and its discs go on
-- behind them.
pub record IsOpened {D : Type 0} (kind : disk.Ghosts D) (opening : List PartState) (found : Found) (rules_of : ℕ → Rules) (faults_of : ℕ → ℕ) (premise_of : ℕ → Type 0) (devices : ℕ → Option D) (v : TrailSight) (trail : View D) : Type 0 where
  pub at : IsTrailAt opening found v
  pub none : v.part.events ≡ []
  pub ready : trail.phase ≡ Ready
  pub writable : IsWritable kind.tells kind.held trail
  pub file : v.part.present ≤ trail.file
  pub rules : trail.rules ≡ rules_of v.part.number
  pub device : IsHandedIn kind (devices v.part.number) trail.device
  pub before : faults_of v.part.number ≤ kind.faults trail.device
  pub told : (old : List Standing) → v.part.old ≡ Some old → premise_of v.part.number
  pub stands : premise_of v.part.number → Stands kind trail v.part []

-- the position of the disc's next record is this one, or 0 where none was handed in
abbrev pub IsDue : ℕ → ℕ → ℕ → Type 0
IsDue first many due = ((many ≡ 0) × (due ≡ 0)) ⊎ (due ≡ first + many)

-- of each disc the position that is due
abbrev pub AreDue : TrailPart → List AuditRecord → List ℕ → Type 0
AreDue part queue due = (d : ℕ) → d ≤ 8 → IsDue (first_of part.firsts d) (length (disc_made part queue d)) (slice_index due d)
