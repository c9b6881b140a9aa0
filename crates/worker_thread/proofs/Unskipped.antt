-- What is carried out is not told as skipped.
use Rattle.std.specs.Prelude.{Result, Ok, Err, ⊤}
use Rattle.std.proofs.Common.{◌≡◌, inl, inr, ⊎_elim, ℕ, false, List, [], ◌∷◌, Option, refl, ap, ◌∙◌}
use Rattle.chronicle.specs.Seats.{Sight}
use Rattle.disk_model.specs.declared.disk.Disk as disk
use Rattle.tmf_model.specs.declared.config.Config.{Config}
use Rattle.tmf_model.specs.declared.script.Close.{Close}
use Rattle.tmf_model.specs.declared.script.Close.TheVariants as close
use Rattle.tmf_model.specs.declared.script.Step.{Step}
use Rattle.tmf_model.specs.declared.transid.Transid.{Transid}
use Rattle.node_machine.specs.declared.event.Event.{Event}
use Rattle.node_machine.specs.declared.event.Event.TheVariants.{OfWorker}
use Rattle.node_machine.specs.declared.event.WorkerEvent.TheVariants.{End, Finish}
use Rattle.node_machine.specs.Deeds.{Log}
use Rattle.node_machine.specs.Opening.{Found}
use Rattle.node_machine.specs.Parts.{PartState}
use Rattle.txn_states.specs.Txn.{Txn}
use Rattle.disc_process.specs.declared.refused.WriteRefused.{WriteRefused}
use Rattle.disc_process.specs.declared.refused.WriteRefused.TheVariants as refused
use Rattle.phase_one.specs.declared.phase.Stopped.{Stopped}
use Rattle.phase_one.specs.declared.phase.Stopped.TheVariants as stopped
use Rattle.run_items.specs.Controlled.{ControlMakes}
use Rattle.run_items.specs.Dumped.{DumpMakes}
use Rattle.run_outcomes.specs.Outcomes.{is_skipped}
use Rattle.run_outcomes.specs.Reach.{Reach}
use Rattle.run_outcomes.specs.declared.outcome.Told.{Told}
use Rattle.run_outcomes.specs.declared.outcome.Told.TheVariants.{Skipped}
use Rattle.run_outcomes.specs.declared.outcome.Told.TheVariants as told
use Rattle.run_worker.specs.Attempted.{HasAttempted, HasClosedBy, HasEndedBy, HasQuitFor, told_by_refusal}
use Rattle.run_worker.specs.Ended.{HasGivenUp, IsBackedOut, IsClosed, IsHungUp, IsSettled, told_by_stop}

refusal_unskipped : (number : ℕ) (step : Step) (refusal : WriteRefused) → is_skipped (told_by_refusal number step refusal) ≡ false
refusal_unskipped number step (refused.Spent part) = refl
refusal_unskipped number step (refused.Busy holder) = refl
refusal_unskipped number step refused.NoMemory = refl
refusal_unskipped number step (refused.Failed device) = refl
refusal_unskipped number step (refused.Damaged device damage) = refl
refusal_unskipped number step refused.Full = refl
refusal_unskipped number step (refused.Refused reason) = refl

stop_unskipped : (stop : Stopped) → is_skipped (told_by_stop stop) ≡ false
stop_unskipped (stopped.Failed device) = refl
stop_unskipped stopped.NoMemory = refl

module _ {D : Type 0} (kind : disk.Ghosts D) (opening : List PartState) (config : Config) (devices : ℕ → Option D) (tells : Told) where
  given_up : (old : Txn) (why : Told) (new : Sight Event) → is_skipped why ≡ false → HasGivenUp kind opening config devices old why new tells → is_skipped tells ≡ false
  given_up old why new un given = ⊎_elim
      (λ (backed : (tells ≡ why) × IsBackedOut opening old new). ap is_skipped backed.0 ∙ un)
      (λ (hung : IsHungUp kind opening config devices old new tells). ap is_skipped hung.tells_is)
      given.how

  quit : (old : Txn) (why : Told) (new : Sight Event) → is_skipped why ≡ false → HasQuitFor kind opening config devices old why new tells → is_skipped tells ≡ false
  quit old why new un has = given_up has.quitting why new un has.given_up

  settled : (last : Txn) (own : List Event) (reads : List (ℕ × Option (List ℕ))) (new : Sight Event) → IsSettled opening last own reads new tells → is_skipped tells ≡ false
  settled last own reads new (inl committed) = ap is_skipped committed.1
  settled last own reads new (inr doubt) = ap is_skipped doubt.0

  closed_by_commit : (last : Txn) (reads : List (ℕ × Option (List ℕ))) (new : Sight Event) → IsClosed kind opening config devices last reads new tells → is_skipped tells ≡ false
  closed_by_commit last reads new (inl so) = settled last (OfWorker (Finish last.tx) ∷ OfWorker (End last.tx) ∷ []) reads new so
  closed_by_commit last reads new (inr short) = given_up short.quitting (told_by_stop short.stop) new (stop_unskipped short.stop) short.given_up

  closed : (closes : Close) (reads : List (ℕ × Option (List ℕ))) (last : Txn) (new : Sight Event) → HasClosedBy kind opening config devices closes reads last new tells → is_skipped tells ≡ false
  closed close.Commit reads last new has = closed_by_commit last reads new has
  closed close.Abort reads last new has = quit last told.Aborted new refl has

  ended : (closes : Close) (steps : List Step) (reads : List (ℕ × Option (List ℕ))) (last : Txn) (answer : Result ⊤ (ℕ × WriteRefused)) (new : Sight Event) → HasEndedBy kind opening config devices closes steps reads last answer new tells
      → is_skipped tells ≡ false
  ended closes steps reads last (Ok all) new has = closed closes reads last new has
  ended closes steps reads last (Err stop) new has = quit last (told_by_refusal stop.0 has.0 stop.1) new (refusal_unskipped stop.0 has.0 stop.1) has.2

  pub attempt_unskipped : (t : Transid) (steps : List Step) (closes : Close) (old new : Reach) → HasAttempted kind opening config devices t steps closes old new tells → is_skipped tells ≡ false
  attempt_unskipped t steps closes old new (inl none) = ap is_skipped none.0.tells_is
  attempt_unskipped t steps closes old new (inr run) = (let rest = run.2.rest in ended closes steps rest.reads rest.last rest.answer new.seat rest.end)

pub control_unskipped : (config : Config) (volume : ℕ) (t : Transid) (old new : Sight Event) (tells : Told) (moves : Log) → ControlMakes config volume t old new tells moves → is_skipped tells ≡ false
control_unskipped config volume t old new Skipped moves makes = absurd makes
control_unskipped config volume t old new _ moves makes = refl

pub dump_unskipped : {D : Type 0} (kind : disk.Ghosts D) (devices : ℕ → Option D) (found : Found) (volume : ℕ) (t : Transid) (old new : Sight Event) (tells : Told) (moves : Log)
    → DumpMakes kind devices found volume t old new tells moves → is_skipped tells ≡ false
dump_unskipped kind devices found volume t old new Skipped moves makes = absurd makes
dump_unskipped kind devices found volume t old new _ moves makes = refl
