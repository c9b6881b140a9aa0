-- What one attempt at a transaction has come to, as its worker's seat has seen it.
use Rattle.std.specs.Prelude.{◌≡◌, ◌⊎◌, ℕ, ◌≤◌, ◌<◌, true, List, [], ◌∷◌, length, Option, Some, Result, Ok, Err, IfErr, ⊤}
use Rattle.std.proofs.Common.{Global, Vec}
use Rattle.std.specs.declared.sync.ledger.Share.{Share}
use Rattle.chronicle.specs.Seats.{Sight}
use Rattle.disk_model.specs.declared.disk.Disk as disk
use Rattle.tmf_model.specs.Commits.{numbered}
use Rattle.tmf_model.specs.declared.config.Config.{Config}
use Rattle.tmf_model.specs.declared.script.Close.{Close}
use Rattle.tmf_model.specs.declared.script.Close.TheVariants as close
use Rattle.tmf_model.specs.declared.script.Step.{Step}
use Rattle.tmf_model.specs.declared.transid.Transid.{Transid}
use Rattle.node_machine.specs.Deeds.{count_of}
use Rattle.node_machine.specs.Opening.{Found, monitor_part, worker_part}
use Rattle.node_machine.specs.Parts.{PartState}
use Rattle.node_machine.specs.Same.{Among}
use Rattle.node_machine.specs.Seats.{CanBegin}
use Rattle.node_machine.specs.declared.event.Event.{Event}
use Rattle.node_machine.specs.declared.event.Event.TheVariants.{OfWorker}
use Rattle.node_machine.specs.declared.event.WorkerEvent.TheVariants.{Begin, Quit}
use Rattle.txn_states.specs.Txn.{HasAdvanced, HasStepped, Txn}
use Rattle.commit_boxcar.specs.Settled.{IsOfRun}
use Rattle.disc_process.specs.declared.refused.WriteRefused.{WriteRefused}
use Rattle.disc_process.specs.declared.refused.WriteRefused.TheVariants as refused
use Rattle.disc_process.specs.Later.{IsLaterTxn}
use Rattle.disc_lock.specs.Seats.{HasSeenMore}
use Rattle.run_outcomes.specs.Concerned.{volumes_of_steps}
use Rattle.run_outcomes.specs.Outcomes.{is_busy}
use Rattle.run_outcomes.specs.Reach.{Reach}
use Rattle.run_outcomes.specs.declared.outcome.Told.{Told}
use Rattle.run_outcomes.specs.declared.outcome.Told.TheVariants as told
use Rattle.run_worker.specs.Ended.{HasGivenUp, IsClosed}
use Rattle.run_worker.specs.Shared.{IsActor}
use Rattle.run_worker.specs.Going.{AreRunSteps, HasGoneOn, HasOnlyEnlisted, HasRoomForReads, IsStoppedAt, MayGiveSome}

-- what is to be told where this step, with its number, was refused
abbrev pub told_by_refusal : ℕ → Step → WriteRefused → Told
told_by_refusal number step (refused.Spent part) = told.Spent part
told_by_refusal number step (refused.Busy holder) = told.Busy step.file step.key holder
told_by_refusal number step refused.NoMemory = told.Memory
told_by_refusal number step (refused.Failed device) = told.Failed device
told_by_refusal number step (refused.Damaged device damage) = told.Damaged device damage
told_by_refusal number step refused.Full = told.Full step.file step.key
told_by_refusal number step (refused.Refused reason) = told.Refused number reason

-- The part is the worker's or the monitor's, and has had as many events as the limit allows; the monitor's is told only where the worker's has not.
pub record IsSpentAtBegin (config : Config) (t : Transid) (seen : List (ℕ × Event)) (part : ℕ) : Type 0 where
  pub which : Among (worker_part t.worker ∷ monitor_part ∷ []) part
  pub spent : config.steps ≤ count_of part seen
  pub first : (part ≡ worker_part t.worker) ⊎ (count_of (worker_part t.worker) seen < config.steps)

-- neither has had so many
pub record IsUnspent (config : Config) (t : Transid) (seen : List (ℕ × Event)) : Type 0 where
  pub worker : count_of (worker_part t.worker) seen < config.steps
  pub monitor : count_of monitor_part seen < config.steps

-- No attempt has begun, since this part is spent, which is told.
pub record IsNotBegun (opening : List PartState) (config : Config) (t : Transid) (old new : Sight Event) (tells : Told) : Type 0 where
  pub part : ℕ
  pub tells_is : tells ≡ told.Spent part
  pub grown : HasSeenMore opening old new
  pub why : IsSpentAtBegin config t new.seen part

-- The attempt has begun behind a moment at which neither its worker nor the monitor was spent.
pub record HasBegunAt (opening : List PartState) (config : Config) (t : Transid) (looked : Sight Event) (begun : Txn) : Type 0 where
  pub unspent : IsUnspent config t looked.seen
  pub tx_is : begun.tx ≡ t
  pub none : begun.discs ≡ []
  pub began : HasAdvanced opening looked (OfWorker (Begin t) ∷ []) begun.seat

-- it was given up, for what is to be told
pub record HasQuitFor {D : Type 0} (kind : disk.Ghosts D) (opening : List PartState) (config : Config) (devices : ℕ → Option D) (old : Txn) (why : Told) (new : Sight Event) (tells : Told) : Type 0 where
  pub quitting : Txn
  pub quit : HasStepped opening old (OfWorker (Quit old.tx) ∷ []) quitting
  pub given_up : HasGivenUp kind opening config devices quitting why new tells

-- how an attempt has ended that has carried out its steps, by the close of its transaction
abbrev pub HasClosedBy : {D : Type 0} → disk.Ghosts D → List PartState → Config → (ℕ → Option D) → Close → List (ℕ × Option (List ℕ)) → Txn → Sight Event → Told → Type 0
HasClosedBy kind opening config devices close.Commit reads last new tells = IsClosed kind opening config devices last reads new tells
HasClosedBy kind opening config devices close.Abort reads last new tells = HasQuitFor kind opening config devices last told.Aborted new tells

-- so has one that has carried out all; and one that was stopped at the step with this number was given up for that
abbrev pub HasEndedBy : {D : Type 0} → disk.Ghosts D → List PartState → Config → (ℕ → Option D) → Close → List Step → List (ℕ × Option (List ℕ)) → Txn → Result ⊤ (ℕ × WriteRefused) → Sight Event → Told → Type 0
HasEndedBy kind opening config devices closes steps reads last (Ok all) new tells = HasClosedBy kind opening config devices closes reads last new tells
HasEndedBy kind opening config devices closes steps reads last (Err stop) new tells =
    (step : Step) × (numbered steps stop.0 ≡ Some step) × HasQuitFor kind opening config devices last (told_by_refusal stop.0 step stop.1) new tells

-- An attempt that has begun has gone on in its steps, and has ended: its worker's seat has seen that, and the worker knows its acts.
pub record HasGoneToItsEnd {D : Type 0} (kind : disk.Ghosts D) (opening : List PartState) (config : Config) (devices : ℕ → Option D) (steps : List Step) (closes : Close) (begun : Txn) (tokens : ℕ) (new : Reach) (tells : Told) : Type 0 where
  pub last : Txn
  pub reads : List (ℕ × Option (List ℕ))
  pub answer : Result ⊤ (ℕ × WriteRefused)
  pub gone : HasGoneOn opening config begun.tx steps reads (record { seat = begun.seat; tokens = tokens }) (record { seat = last.seat; tokens = new.tokens }) answer
  pub later : IsLaterTxn opening begun last
  pub only : HasOnlyEnlisted (volumes_of_steps config steps) begun last
  pub why : IfErr answer (λ stop. IsStoppedAt kind opening config devices begun last.seat steps stop.0 stop.1)
  pub end : HasEndedBy kind opening config devices closes steps reads last answer new.seat tells

-- behind this moment it has begun, and has gone to its end
pub record HasBegunAndRun {D : Type 0} (kind : disk.Ghosts D) (opening : List PartState) (config : Config) (devices : ℕ → Option D) (t : Transid) (steps : List Step) (closes : Close) (looked : Sight Event) (tokens : ℕ) (new : Reach) (tells : Told) : Type 0 where
  pub begun : Txn
  pub begin : HasBegunAt opening config t looked begun
  pub rest : HasGoneToItsEnd kind opening config devices steps closes begun tokens new tells

-- it has not begun, and no token was given; or it has, and has ended
abbrev pub HasAttempted : {D : Type 0} → disk.Ghosts D → List PartState → Config → (ℕ → Option D) → Transid → List Step → Close → Reach → Reach → Told → Type 0
HasAttempted kind opening config devices t steps closes old new tells =
    (IsNotBegun opening config t old.seat new.seat tells × (new.tokens ≡ old.tokens))
    ⊎ ((looked : Sight Event) × HasSeenMore opening old.seat looked × HasBegunAndRun kind opening config devices t steps closes looked old.tokens new tells)

-- The node's limit is that of the configuration, and the monitor's count that it was made with is below it.
pub record IsNode (config : Config) (steps monitor : ℕ) : Type 0 where
  pub steps_is : steps ≡ config.steps
  pub below : monitor < steps

-- The worker whose seat this is may begin the attempt, at steps of the run, with tokens for their acts and room for what their reads find.
pub record MayAttempt {L : Type 0} (opening : List PartState) (found : Found) (t : Transid) (steps : List Step) (reads : Vec (ℕ × Option (List ℕ)) Global) (seat : Sight Event) (share : Share L) : Type 0 where
  pub run : IsOfRun found t
  pub worker : 1 ≤ t.worker
  pub own : seat.part ≡ Some (worker_part t.worker)
  pub can : CanBegin opening seat t
  pub steps_are : AreRunSteps found steps
  pub tokens : MayGiveSome (length steps) share
  pub room : HasRoomForReads steps reads

-- The same of an attempt that has begun, and has enlisted no disc.
pub record MayGoToItsEnd {L : Type 0} (found : Found) (steps : List Step) (reads : Vec (ℕ × Option (List ℕ)) Global) (begun : Txn) (share : Share L) : Type 0 where
  pub run : IsOfRun found begun.tx
  pub actor : IsActor begun
  pub none : begun.discs ≡ []
  pub steps_are : AreRunSteps found steps
  pub tokens : MayGiveSome (length steps) share
  pub room : HasRoomForReads steps reads

-- where another transaction held what the attempt asked for, there is room for the reads of its next one
abbrev pub HasRoomAgain : Told → List Step → Vec (ℕ × Option (List ℕ)) Global → Type 0
HasRoomAgain tells steps reads = is_busy tells ≡ true → HasRoomForReads steps reads
