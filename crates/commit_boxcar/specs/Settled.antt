-- How a transaction is settled: its record stands in the monitor trail, or it is in doubt.
use Rattle.std.specs.Prelude.{◌≡◌, ℕ, true, List, [], ◌∷◌, Some, None}
use Rattle.chronicle.specs.Seats.{Sight, Knows, HasNewlySeen}
use Rattle.tmf_model.specs.Transid.{is_transid}
use Rattle.tmf_model.specs.declared.transid.Transid.{Transid}
use Rattle.trail_files.specs.declared.monitor_record.MonitorRecord.TheVariants.{Commit, Abort}
use Rattle.node_machine.specs.declared.event.By.TheVariants.{Attempt}
use Rattle.node_machine.specs.declared.event.Event.{Event}
use Rattle.node_machine.specs.declared.event.Event.TheVariants.{OfWorker, OfMonitor}
use Rattle.node_machine.specs.declared.event.MonitorEvent.TheVariants.{Failed}
use Rattle.node_machine.specs.declared.event.WorkerEvent.TheVariants.{End}
use Rattle.node_machine.specs.Node.{node}
use Rattle.node_machine.specs.Opening.{Found, monitor_part}
use Rattle.node_machine.specs.Parts.{PartState}
use Rattle.node_machine.specs.Parts.Fact.{Recorded}
use Rattle.txn_states.specs.Txn.{Txn, EndedView, HasAdvanced, HasStepped}

-- an identifier of this run, which a trail may record
pub record IsOfRun (found : Found) (tx : Transid) : Type 0 where
  pub valid : is_transid tx ≡ true
  pub epoch : tx.epoch ≡ found.epoch

-- the transaction was decided, its commit stands at the place of its receipt, and its seat has seen that
pub record HasSettled (opening : List PartState) (t : Txn) (e : EndedView) : Type 0 where
  pub stepped : HasStepped opening t (OfWorker (End t.tx) ∷ []) e.txn
  pub place : ℕ
  pub place_is : e.place ≡ Some place
  pub recorded : Knows node opening e.txn.seat (Recorded (Commit t.tx) place)

-- its commit stands at the place of its receipt, and its seat has seen that
pub record IsRecordedAt (opening : List PartState) (t : Txn) (e : EndedView) : Type 0 where
  pub stepped : HasStepped opening t [] e.txn
  pub place : ℕ
  pub place_is : e.place ≡ Some place
  pub recorded : Knows node opening e.txn.seat (Recorded (Commit t.tx) place)

-- its abort stands in the trail, and its seat has seen that
pub record HasAborted (opening : List PartState) (t : Txn) (e : EndedView) : Type 0 where
  pub stepped : HasStepped opening t [] e.txn
  pub none : e.place ≡ None
  pub place : ℕ
  pub recorded : Knows node opening e.txn.seat (Recorded (Abort t.tx) place)

-- The monitor's device has failed for this attempt, which its seat has seen and had not seen before. Its worker has had these events more.
pub record IsInDoubt (opening : List PartState) (t : Txn) (own : List Event) (tx : Transid) (seat : Sight Event) : Type 0 where
  pub tx_is : tx ≡ t.tx
  pub advanced : HasAdvanced opening t.seat own seat
  pub failed : HasNewlySeen monitor_part (OfMonitor (Failed (Attempt t.tx))) t.seat seat
