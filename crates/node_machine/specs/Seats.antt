-- What a seat of a node has come to: the part's state in what it has seen.
use Rattle.std.specs.Prelude.{◌≡◌, ◌≢◌, ℕ, false, true, List, [], ◌++◌, Some, None}
use Rattle.chronicle.specs.Seats.{Sight, part_state, Knows}
use Rattle.tmf_model.specs.declared.transid.Transid.{Transid}
use Rattle.trail_files.specs.declared.audit_record.AuditRecord.{AuditRecord}
use Rattle.trail_files.specs.declared.monitor_record.MonitorRecord.{MonitorRecord}
use Rattle.tmf_model.specs.declared.script.Op.{Op}
use Rattle.node_machine.specs.declared.event.Event.{Event}
use Rattle.node_machine.specs.Parts.{WorkerPart, DiscPart, MonitorPart, TrailPart, PartState}
use Rattle.node_machine.specs.Parts.Fact.{Made}
use Rattle.node_machine.specs.Parts.PartState.{Worker, Disc, Trail, Monitor}
use Rattle.node_machine.specs.Worker.{has_finished, decision, enlisted_discs, IsOpen, MayBegin}
use Rattle.node_machine.specs.Node.{node}
use Rattle.node_machine.specs.Disc.{MayWrite}
use Rattle.node_machine.specs.Monitor.{MayOfferCar, IsBacked}
use Rattle.node_machine.specs.Trail.{landed, records_of, MayOffer}
use Rattle.node_machine.specs.Same.{Among}

-- the seat is a worker's, which may begin the attempt
pub record CanBegin (opening : List PartState) (v : Sight Event) (t : Transid) : Type 0 where
  pub part : WorkerPart
  pub at : part_state node opening v ≡ Some (Worker part)
  pub may : MayBegin part t
  pub unfinished : has_finished part.events t ≡ false
  pub undecided : decision part.events t ≡ None
  pub alone : enlisted_discs part.events t ≡ []

-- the seat is a worker's, and the attempt is under way: it has enlisted these discs
pub record IsActive (opening : List PartState) (v : Sight Event) (t : Transid) (discs : List ℕ) : Type 0 where
  pub part : WorkerPart
  pub at : part_state node opening v ≡ Some (Worker part)
  pub is_open : IsOpen part t
  pub unfinished : has_finished part.events t ≡ false
  pub discs_are : enlisted_discs part.events t ≡ discs

-- the seat is a worker's, and the attempt is to be committed: it has enlisted these discs
pub record IsCommitting (opening : List PartState) (v : Sight Event) (t : Transid) (discs : List ℕ) : Type 0 where
  pub part : WorkerPart
  pub at : part_state node opening v ≡ Some (Worker part)
  pub is_open : IsOpen part t
  pub finished : has_finished part.events t ≡ true
  pub discs_are : enlisted_discs part.events t ≡ discs

-- the seat is the disc's, which may make this change
pub record CanWrite (opening : List PartState) (v : Sight Event) (s : DiscPart) (r : AuditRecord) (op : Op) : Type 0 where
  pub at : part_state node opening v ≡ Some (Disc s)
  pub may : MayWrite s r op

-- the seat is the monitor's, which may offer these records, and knows what they ask
pub record CanOffer (opening : List PartState) (v : Sight Event) (records : List MonitorRecord) : Type 0 where
  pub part : MonitorPart
  pub at : part_state node opening v ≡ Some (Monitor part)
  pub may : MayOfferCar part records
  pub backed : (x : MonitorRecord) → Among records x → IsBacked (Knows node opening v) x

-- the seat is a trail's, which may offer this batch, and knows that its discs have made these records next
pub record CanOfferAudit (opening : List PartState) (v : Sight Event) (file : ℕ) (records : List AuditRecord) : Type 0 where
  pub part : TrailPart
  pub at : part_state node opening v ≡ Some (Trail part)
  pub may : MayOffer part file records
  pub made : (disc : ℕ) → records_of disc records ≢ [] → (position : ℕ) × Knows node opening v (Made disc position (records_of disc (landed part.events ++ records)))
