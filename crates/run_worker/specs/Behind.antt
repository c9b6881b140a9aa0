-- What the acts of an attempt say in each history that has these of it alone.
use Rattle.std.specs.Prelude.{◌≡◌, ℕ, List, [], Option, Some, Result, Ok, Err, ⊤}
use Rattle.tmf_model.specs.Commits.{numbered}
use Rattle.tmf_model.specs.declared.config.Config.{Config}
use Rattle.tmf_model.specs.declared.script.Step.{Step}
use Rattle.tmf_model.specs.declared.transid.Transid.{Transid}
use Rattle.node_machine.specs.Acts.{acts_by}
use Rattle.node_machine.specs.Deeds.{IsInOrder, IsTurnedAt, IsWhole, Log, steps_done, turns_of, values_found}
use Rattle.node_machine.specs.Opening.{Found}
use Rattle.node_machine.specs.Parts.{PartState}
use Rattle.node_machine.specs.declared.event.Cause.TheVariants as cause
use Rattle.disc_process.specs.declared.refused.WriteRefused.{WriteRefused}
use Rattle.disc_process.specs.declared.refused.WriteRefused.TheVariants as refused
use Rattle.run_outcomes.specs.Reach.{Reach}
use Rattle.run_outcomes.specs.Told.{AreReadsIn, busy_cause}
use Rattle.run_worker.specs.Going.{AreRunSteps, HasGoneOn}

-- The history has, of the attempt, the steps, the reads and the turns of these acts.
pub record SaysTheSame (t : Transid) (acts log : Log) : Type 0 where
  pub steps : steps_done t log ≡ steps_done t acts
  pub values : values_found t log ≡ values_found t acts
  pub turns : turns_of t log ≡ turns_of t acts

-- Each that has these acts of the attempt alone.
abbrev pub ActsTellLaw : Type 0
ActsTellLaw = (t : Transid) (acts log : Log) → acts_by t log ≡ acts → SaysTheSame t acts log

-- where the step with this number was refused so, the attempt was turned away there; or it is in order, where no act tells the refusal
abbrev pub IsStoppedIn : Log → Transid → List Step → ℕ → WriteRefused → Type 0
IsStoppedIn log t steps number (refused.Busy holder) = (step : Step) × (numbered steps number ≡ Some step) × IsTurnedAt log t steps number (busy_cause holder step)
IsStoppedIn log t steps number refused.Full = (step : Step) × (numbered steps number ≡ Some step) × IsTurnedAt log t steps number (cause.Full step)
IsStoppedIn log t steps number (refused.Refused reason) = (step : Step) × (numbered steps number ≡ Some step) × IsTurnedAt log t steps number (cause.Refused step reason)
IsStoppedIn log t steps number _ = turns_of t log ≡ []

-- the attempt is whole, and its reads have found these values; or it was stopped at a step
abbrev pub IsGoneIn : Log → Transid → List Step → List (ℕ × Option (List ℕ)) → Result ⊤ (ℕ × WriteRefused) → Type 0
IsGoneIn log t steps reads (Ok all) = IsWhole log t steps × AreReadsIn log t steps reads
IsGoneIn log t steps reads (Err stop) = IsStoppedIn log t steps stop.0 stop.1

-- How far an attempt at steps of the run has gone on, each history says that has its acts alone; and that it is in order.
abbrev pub GoneTellsLaw : Type 0
GoneTellsLaw =
    (found : Found) (opening : List PartState) (config : Config) (t : Transid) (steps : List Step) (reads : List (ℕ × Option (List ℕ))) (old new : Reach) (answer : Result ⊤ (ℕ × WriteRefused))
    → AreRunSteps found steps → (gone : HasGoneOn opening config t steps reads old new answer) → (log : Log) → acts_by t log ≡ gone.acts → IsGoneIn log t steps reads answer × IsInOrder log t steps
