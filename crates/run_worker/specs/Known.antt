-- What a worker comes to by an attempt that it has made: what is told of it stands in each history that goes on from what its seat has then seen.
use Rattle.std.specs.Prelude.{◌≡◌, ℕ, [], Option, Some}
use Rattle.chronicle.specs.Seats.{Sight}
use Rattle.disk_model.specs.declared.disk.Disk as disk
use Rattle.tmf_model.specs.Commits.{script_transaction}
use Rattle.tmf_model.specs.Config.{IsValidConfig}
use Rattle.tmf_model.specs.declared.script.Phase.{Phase}
use Rattle.tmf_model.specs.declared.script.Transaction.{Transaction}
use Rattle.tmf_model.specs.declared.transid.Transid.{Transid}
use Rattle.node_machine.specs.declared.event.Event.{Event}
use Rattle.node_machine.specs.Deeds.{HasEnlisted, HasReleased, Log}
use Rattle.node_machine.specs.Opening.{Found, opening_parts}
use Rattle.run_outcomes.specs.Devices.{told_in}
use Rattle.run_outcomes.specs.Found.{AreFoundWithValues}
use Rattle.run_outcomes.specs.Joined.{HasComeTo}
use Rattle.run_outcomes.specs.Reach.{Reach}
use Rattle.run_outcomes.specs.Run.{account_of}
use Rattle.run_outcomes.specs.Told.{Account, MayHold}
use Rattle.run_outcomes.specs.declared.outcome.Told.{Told}
use Rattle.run_worker.specs.Attempted.{HasAttempted}
use Rattle.run_worker.specs.Going.{AreRunSteps}
use Rattle.run_worker.specs.Tried.{IsBetween, MayBeginNext}

-- each attempt of the worker has released at each disc that it has enlisted
abbrev pub HaveLetGo : ℕ → Log → Type 0
HaveLetGo worker seen = (u : Transid) (volume : ℕ) → u.worker ≡ worker → HasEnlisted seen u volume → HasReleased seen u volume

-- The run's configuration is valid, and the attempt is one of it at this transaction, with steps of the run. Its worker may begin it, and has let go of all that its earlier attempts held.
pub record IsRunAttempt (found : Found) (phase : Phase) (seat : Sight Event) (t : Transid) (transaction : Transaction) : Type 0 where
  pub valid : IsValidConfig found.config
  pub script : script_transaction phase found.epoch t ≡ Some transaction
  pub steps_are : AreRunSteps found transaction.steps
  pub next : MayBeginNext (opening_parts found) seat t
  pub let_go : HaveLetGo t.worker seat.seen

-- The worker has come to what is told of the attempt, by these acts of it, and no move. It may go on with each later one, and has let go of all that it held, unless the attempt may hold on.
pub record IsKnownBehind (found : Found) (account : Log → Account) (t : Transid) (old new : Reach) (tells : Told) : Type 0 where
  pub acts : Log
  pub come : HasComeTo (opening_parts found) found account (record { tx = t; told = tells }) old new acts []
  pub next : IsBetween (opening_parts found) new.seat t.worker t.epoch t
  pub let_go : (MayHold tells → ⊥) → HaveLetGo t.worker new.seat.seen

-- By an attempt of a run its worker comes to what is told of it, where each volume that was found, and whose device told a base as it was handed in, was found with its values.
abbrev pub AttemptTellsLaw : {D : Type 0} → disk.Ghosts D → Type 0
AttemptTellsLaw {D} kind =
    (found : Found) (phase : Phase) (devices : ℕ → Option D) (t : Transid) (transaction : Transaction) (old new : Reach) (tells : Told)
    → IsRunAttempt found phase old.seat t transaction → AreFoundWithValues found.config (told_in kind devices) found
    → HasAttempted kind (opening_parts found) found.config devices t transaction.steps transaction.close old new tells
    → IsKnownBehind found (account_of kind found.config phase found.epoch devices found) t old new tells
