-- A worker's attempts at a transaction, one behind the other.
use Rattle.std.specs.Prelude.{◌≡◌, ℕ, ◌≤◌, ◌+◌, ◌-◌, ◌*◌, Bool, List, [], ◌∷◌, ◌++◌, length, vec_capacity, Option, Some}
use Rattle.std.proofs.Common.{Global, Vec}
use Rattle.std.specs.declared.sync.ledger.Share.{Share}
use Rattle.chronicle.specs.Seats.{Sight, part_state}
use Rattle.disk_model.specs.declared.disk.Disk as disk
use Rattle.tmf_model.specs.declared.config.Config.{Config}
use Rattle.tmf_model.specs.declared.script.Transaction.{Transaction}
use Rattle.tmf_model.specs.declared.transid.Transid.{Transid}
use Rattle.node_machine.specs.Node.{node}
use Rattle.node_machine.specs.Opening.{Found, worker_part}
use Rattle.node_machine.specs.Parts.{PartState, WorkerPart}
use Rattle.node_machine.specs.Parts.PartState.{Worker}
use Rattle.node_machine.specs.Same.{IsBefore}
use Rattle.node_machine.specs.declared.event.Event.{Event}
use Rattle.commit_boxcar.specs.Settled.{IsOfRun}
use Rattle.run_outcomes.specs.Between.{MayGoOn}
use Rattle.run_outcomes.specs.Outcomes.{AreAttempts, is_busy}
use Rattle.run_outcomes.specs.Reach.{Reach}
use Rattle.run_outcomes.specs.declared.outcome.Outcome.{Outcome}
use Rattle.run_worker.specs.Attempted.{HasAttempted}
use Rattle.run_worker.specs.Going.{AreRunSteps, HasRoomForReads, MayGiveSome}

-- The seat is that of the worker with this number in the run of this epoch. All that it has begun is decided: each attempt later than this one may be its next.
pub record IsBetween (opening : List PartState) (seat : Sight Event) (worker epoch : ℕ) (last : Transid) : Type 0 where
  pub part : seat.part ≡ Some (worker_part worker)
  pub state : WorkerPart
  pub at : part_state node opening seat ≡ Some (Worker state)
  pub number : worker ≡ state.number
  pub epoch_is : epoch ≡ state.epoch
  pub next : MayGoOn state.events last

-- the attempt may be its next
abbrev pub MayBeginNext : List PartState → Sight Event → Transid → Type 0
MayBeginNext opening seat tx = (last : Transid) × IsBefore last tx × IsBetween opening seat tx.worker tx.epoch last

-- how often the transaction may be attempted from this attempt on
abbrev pub left_attempts : Transaction → Transid → ℕ
left_attempts transaction tx = (transaction.attempts + 1) - tx.attempt

-- The worker may make attempts at the transaction from this one on: the transaction is one of the run, and there are tokens for all their steps, room for the reads of one and for the outcomes of all.
pub record MayTry {L : Type 0} (opening : List PartState) (found : Found) (tx : Transid) (transaction : Transaction) (reads : Vec (ℕ × Option (List ℕ)) Global) (seat : Sight Event) (share : Share L) (outcomes : Vec Outcome Global) : Type 0 where
  pub run : IsOfRun found tx
  pub next : MayBeginNext opening seat tx
  pub some : tx.attempt ≤ transaction.attempts
  pub few : transaction.attempts ≤ 8
  pub steps_are : AreRunSteps found transaction.steps
  pub tokens : MayGiveSome (64 * left_attempts transaction tx) share
  pub reads_room : HasRoomForReads transaction.steps reads
  pub room : length outcomes.items + left_attempts transaction tx ≤ vec_capacity outcomes

-- The worker has made this attempt at the transaction, and keeps what it has come to.
pub record HasTriedOnce {D : Type 0} (kind : disk.Ghosts D) (opening : List PartState) (config : Config) (devices : ℕ → Option D) (tx : Transid) (transaction : Transaction) (old new : Reach) (before after : List Outcome) (busy : Bool) : Type 0 where
  pub outcome : Outcome
  pub tx_is : outcome.tx ≡ tx
  pub after_is : after ≡ before ++ outcome ∷ []
  pub busy_is : busy ≡ is_busy outcome.told
  pub attempted : HasAttempted kind opening config devices tx transaction.steps transaction.close old new outcome.told

-- each of the outcomes is what one attempt at the transaction has come to, one behind the other
abbrev pub AreMade : {D : Type 0} → disk.Ghosts D → List PartState → Config → (ℕ → Option D) → Transaction → Reach → List Outcome → Reach → Type 0
AreMade kind opening config devices transaction old [] new = old ≡ new
AreMade kind opening config devices transaction old (outcome ∷ more) new =
    (mid : Reach) × HasAttempted kind opening config devices outcome.tx transaction.steps transaction.close old mid outcome.told × AreMade kind opening config devices transaction mid more new

-- The worker has made attempts at the transaction, from this one up to the first that was not busy, or to the last that may be made, and keeps what each has come to. All that it has begun is
-- decided.
pub record HasTried {D : Type 0} (kind : disk.Ghosts D) (opening : List PartState) (config : Config) (devices : ℕ → Option D) (first : Transid) (transaction : Transaction) (old new : Reach) (before after : List Outcome) : Type 0 where
  pub tried : List Outcome
  pub after_is : after ≡ before ++ tried
  pub are : AreAttempts transaction.attempts first tried
  pub made : AreMade kind opening config devices transaction old tried new
  pub last : Transid
  pub of_item : last.ordinal ≡ first.ordinal
  pub between : IsBetween opening new.seat first.worker first.epoch last
