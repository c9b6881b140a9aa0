-- A run for the tests: a node without trails and volumes, whose monitor trail has its first start alone.
use Rattle.std.specs.Prelude.{◌≡◌, ℕ, zero, suc, [], ◌∷◌, List, Option, Some, IsTrue}
use Rattle.chronicle.specs.Seats.{Sight, part_state}
use Rattle.disk_model.specs.declared.disk.Disk as disk
use Rattle.tmf_model.specs.declared.config.Config.{Config}
use Rattle.tmf_model.specs.declared.transid.Transid.{Transid}
use Rattle.trail_files.specs.declared.monitor_record.MonitorRecord.{MonitorRecord}
use Rattle.trail_files.specs.declared.monitor_record.MonitorRecord.TheVariants.{Start}
use Rattle.trail_files.specs.declared.trail.TrailPhase.TheVariants.{Ready}
use Rattle.trail_files.specs.Content.{Content, no_content, with_landed, with_loaded}
use Rattle.trail_files.specs.Holds.{Holds}
use Rattle.trail_files.specs.Trail.{View, IsWritable}
use Rattle.node_machine.specs.declared.event.Event.{Event}
use Rattle.node_machine.specs.declared.event.WorkerEvent.{WorkerEvent}
use Rattle.node_machine.specs.declared.event.WorkerEvent.TheVariants.{Begin, Finish, End}
use Rattle.node_machine.specs.Node.{node}
use Rattle.node_machine.specs.Opening.{Found, opening_parts}
use Rattle.node_machine.specs.Parts.{PartState}
use Rattle.node_machine.specs.Parts.PartState.{Worker}
use Rattle.txn_states.specs.Txn.{Txn}
use Rattle.audit_writer.specs.Writer.{IsHandedIn}
use Rattle.commit_boxcar.specs.Monitor.{monitor_formats}

abbrev pub first_config : Config
first_config = record { trails = []; volumes = []; files = []; cache = 0; car_count = 0; car_holds = 0; roll = 0; steps = 0 }

abbrev pub first_found : Found
first_found = record { config = first_config; epoch = 1; places = 1; trails = []; volumes = [] }

-- what stands on the monitor trail when the run begins
abbrev pub first_records : List MonitorRecord
first_records = Start 1 ∷ []

abbrev pub first_content : Content MonitorRecord
first_content = with_landed (with_loaded first_records no_content)

-- the first attempt at a worker's item
abbrev pub attempt_of : ℕ → ℕ → Transid
attempt_of worker ordinal = record { epoch = 1; worker = worker; ordinal = ordinal; attempt = 1 }

-- the first attempt of a worker
abbrev pub first_of : ℕ → Transid
first_of worker = attempt_of worker 1

-- the events of a worker that has decided the commits of so many items and has had no other, the newest first
abbrev pub decided_events : ℕ → ℕ → List WorkerEvent
decided_events worker zero = []
decided_events worker (suc n) = End (attempt_of worker (suc n)) ∷ Finish (attempt_of worker (suc n)) ∷ Begin (attempt_of worker (suc n)) ∷ decided_events worker n

-- the seat is the worker's, with these events
abbrev pub IsWorkerWith : List PartState → ℕ → List WorkerEvent → Sight Event → Type 0
IsWorkerWith opening worker events v = part_state node opening v ≡ Some (Worker (record { number = worker; epoch = 1; events = events }))

-- the worker has decided the commits of so many items, and nothing else
abbrev pub HasDecided : List PartState → ℕ → ℕ → Sight Event → Type 0
HasDecided opening worker done v = IsWorkerWith opening worker (decided_events worker done) v

-- the worker has begun the next item behind so many, and has enlisted no disc
pub record HasBegunNext (opening : List PartState) (worker done : ℕ) (t : Txn) : Type 0 where
  pub tx : t.tx ≡ attempt_of worker (suc done)
  pub discs : t.discs ≡ []
  pub at : IsWorkerWith opening worker (Begin (attempt_of worker (suc done)) ∷ decided_events worker done) t.seat

-- the trail was formatted on a device that tells what it holds
pub record IsEmpty {D : Type 0} (kind : disk.Ghosts D) (trail : View D) : Type 0 where
  pub tells : IsTrue (kind.tells trail.device)
  pub ready : trail.phase ≡ Ready
  pub writable : IsWritable kind.tells kind.held trail
  pub holds : Holds kind monitor_formats trail no_content

-- the trail has that start alone, on a device that tells what it holds
pub record HasStart {D : Type 0} (kind : disk.Ghosts D) (trail : View D) : Type 0 where
  pub tells : IsTrue (kind.tells trail.device)
  pub ready : trail.phase ≡ Ready
  pub writable : IsWritable kind.tells kind.held trail
  pub holds : Holds kind monitor_formats trail first_content

-- The run's name carries what was found, and for the monitor's device its premise, which holds, and the device, no call of which had failed.
pub record IsFirstRun {D : Type 0} (kind : disk.Ghosts D) (opening : List PartState) (found : Found) (before : List MonitorRecord) (faults_of : ℕ → ℕ) (premise_of : ℕ → Type 0) (devices : ℕ → Option D) (trail : View D) : Type 0 where
  pub start : HasStart kind trail
  pub opens : opening ≡ opening_parts first_found
  pub found_is : found ≡ first_found
  pub before_is : before ≡ first_records
  pub faults_are : faults_of 0 ≡ 0
  pub premise_holds : premise_of 0
  pub handed_in : IsHandedIn kind (devices 0) trail.device
