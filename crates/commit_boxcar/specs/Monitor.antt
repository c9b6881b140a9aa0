-- What the monitor keeps: how its trail and its part's state belong together.
use Rattle.std.specs.Prelude.{◌≡◌, ◌≢◌, ◌⊎◌, ℕ, ◌+◌, ◌-◌, ◌^◌, ◌≤◌, ◌<◌, true, List, [], ◌∷◌, ◌++◌, length, Option, Some, IsTrue}
use Rattle.disk_model.specs.Held.{Held, Leaves}
use Rattle.disk_model.specs.declared.disk.Disk as disk
use Rattle.tmf_model.specs.declared.transid.Transid.{Transid}
use Rattle.trail_files.specs.declared.monitor_record.MonitorRecord.{MonitorRecord}
use Rattle.trail_files.specs.declared.rules.Rules.{Rules}
use Rattle.trail_files.specs.declared.trail.TrailPhase.{TrailPhase}
use Rattle.trail_files.specs.declared.trail.TrailPhase.TheVariants.{Ready, Loaded, Offered, RollOffered}
use Rattle.trail_files.specs.Content.{Content, batch_of, landed_in}
use Rattle.trail_files.specs.Format.{Format}
use Rattle.trail_files.specs.Holds.{Holds}
use Rattle.trail_files.specs.MonitorOrder.{is_monitor_order, last_epoch}
use Rattle.trail_files.specs.MonitorRecord.{monitor_format}
use Rattle.trail_files.specs.Trail.{View, Rests, IsWritable}
use Rattle.node_machine.specs.declared.event.MonitorEvent.{MonitorEvent}
use Rattle.node_machine.specs.declared.event.MonitorEvent.TheVariants.{Failed}
use Rattle.node_machine.specs.Parts.{MonitorPart, PartState}
use Rattle.node_machine.specs.Monitor.{recorded, offered_car, ended_by}
use Rattle.node_machine.specs.Opening.{Found}
use Rattle.node_machine.specs.Same.{Among}
use Rattle.node_machine.specs.Shows.{ShowsMonitor}
use Rattle.audit_writer.specs.Writer.{IsHandedIn}
use Rattle.commit_boxcar.specs.Line.{line_of}
use Rattle.commit_boxcar.specs.Requests.{QueueEnd}
use Rattle.commit_boxcar.specs.Seat.{MonitorSight, IsMonitorAt}

-- what the monitor trail's records are, whatever its rules say
abbrev pub monitor_formats : Rules → Format MonitorRecord
monitor_formats rules = monitor_format

-- what callers see of the monitor
pub record Monitor (D : Type 0) : Type 0 where
  pub seat : MonitorSight
  pub trail : View D
  -- the requests that were taken for the next car
  pub room : List MonitorRecord
  -- its end of the queue of requests
  pub end : QueueEnd

-- the records of this run that have landed, and those that are being written or were taken behind them
abbrev pub line : {D : Type 0} → Monitor D → List MonitorRecord
line w = line_of w.seat.part w.room

-- the car that is being written; none where there is no such car
abbrev pub offered_batch : {D : Type 0} → Monitor D → List MonitorRecord
offered_batch w = offered_car w.seat.part.events

-- a batch is offered exactly where the trail has one behind its gate
abbrev pub HasPhase : TrailPhase → List MonitorRecord → Type 0
HasPhase phase batch = (((phase ≡ Ready) ⊎ (phase ≡ RollOffered)) × (batch ≡ [])) ⊎ (((phase ≡ Loaded) ⊎ (phase ≡ Offered)) × (batch ≢ []))

-- What the run has found on the monitor trail: records in order, the last start of this run's epoch, and no end of an attempt of this run.
pub record IsFoundList (found : Found) (before : List MonitorRecord) : Type 0 where
  pub order : is_monitor_order before ≡ true
  pub epoch : last_epoch before ≡ Some found.epoch
  pub many : length before ≡ found.places
  pub earlier : (y : MonitorRecord) (t : Transid) → Among before y → ended_by y ≡ Some t → t.epoch ≢ found.epoch

-- the trail has the records of the opening and those that have landed, and what is offered is behind its gate
pub record Stands {D : Type 0} (kind : disk.Ghosts D) (before : List MonitorRecord) (part : MonitorPart) (trail : View D) : Type 0 where
  pub tells : IsTrue (kind.tells trail.device)
  pub content : Content MonitorRecord
  pub holds : Holds kind monitor_formats trail content
  pub landed : landed_in content ≡ before ++ recorded part.events
  pub pending : batch_of content.pending ≡ offered_car part.events

-- The trail and the part's state belong together.
pub record Belong {D : Type 0} (kind : disk.Ghosts D) (premise : Type 0) (before : List MonitorRecord) (part : MonitorPart) (trail : View D) : Type 0 where
  pub writable : IsWritable kind.tells kind.held trail
  pub phase : HasPhase trail.phase (offered_car part.events)
  pub more : trail.phase ≡ RollOffered → trail.file < 4294967295
  pub stands : premise → Stands kind before part trail

-- how often a call of the monitor's device has failed
abbrev pub failures : List MonitorEvent → ℕ
failures [] = 0
failures (Failed by ∷ events) = failures events + 1
failures (_ ∷ events) = failures events

-- the count of a device rose from the first one by as many failed calls at least, where it does not stand at its end
abbrev pub IsRise : ℕ → ℕ → List MonitorEvent → Type 0
IsRise first now events = now < 2 ^ 64 - 1 → first + failures events ≤ now

-- What holds of the monitor of a run, where the name of the run carries these things. Its device is number 0.
pub record IsMonitor {D : Type 0} (kind : disk.Ghosts D) (opening : List PartState) (found : Found) (before : List MonitorRecord) (faults_of : ℕ → ℕ) (premise_of : ℕ → Type 0) (devices : ℕ → Option D) (w : Monitor D) : Type 0 where
  pub at : IsMonitorAt opening found w.seat
  pub belong : Belong kind (premise_of 0) before w.seat.part w.trail
  pub list : premise_of 0 → IsFoundList found before
  pub device : IsHandedIn kind (devices 0) w.trail.device
  pub rise : IsRise (faults_of 0) (kind.faults w.trail.device) w.seat.part.events
  pub few : length w.room ≤ 64
  -- a run has at most 17 times 32,776 requests
  pub short : found.places + 2 ^ 20 < 2 ^ 64

-- where the premise holds, the part allows each image that the device may leave
abbrev pub AreShown : {D : Type 0} → disk.Ghosts D → Type 0 → List MonitorRecord → Monitor D → Type 0
AreShown kind premise before w = premise → (image : Held) → Leaves (kind.held w.trail.device) image
    → (list : List MonitorRecord) × ShowsMonitor w.seat.part list × Rests monitor_format image (before ++ list)

-- The monitor has just opened as its trail stands: where the premise holds, the trail has the records of the opening.
pub record IsOpened {D : Type 0} (kind : disk.Ghosts D) (opening : List PartState) (found : Found) (before : List MonitorRecord) (faults_of : ℕ → ℕ) (premise_of : ℕ → Type 0) (devices : ℕ → Option D) (v : MonitorSight) (trail : View D) : Type 0 where
  pub at : IsMonitorAt opening found v
  pub none : v.part.events ≡ []
  pub ready : trail.phase ≡ Ready
  pub writable : IsWritable kind.tells kind.held trail
  pub stands : premise_of 0 → Stands kind before v.part trail
  pub list : premise_of 0 → IsFoundList found before
  pub device : IsHandedIn kind (devices 0) trail.device
  pub faults : faults_of 0 ≤ kind.faults trail.device
  pub short : found.places + 2 ^ 20 < 2 ^ 64
