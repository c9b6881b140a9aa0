-- How far an attempt has gone on in its steps.
use Rattle.std.specs.Prelude.{◌≡◌, ℕ, suc, ◌≤◌, ◌<◌, ◌+◌, List, [], ◌∷◌, ◌++◌, length, map, take, slice_get, vec_capacity, Option, Some, Result, MatchResult, ⊤}
use Rattle.std.specs.List.{filter}
use Rattle.std.proofs.Common.{Global, Vec}
use Rattle.std.specs.declared.sync.ledger.Share.{Share}
use mathlib.Core.List.{IsPrefix}
use Rattle.disk_model.specs.declared.disk.Disk as disk
use Rattle.tmf_model.specs.Commits.{numbered}
use Rattle.tmf_model.specs.declared.config.Config.{Config}
use Rattle.tmf_model.specs.declared.script.Step.{Step}
use Rattle.tmf_model.specs.declared.transid.Transid.{Transid}
use Rattle.chronicle.specs.Seats.{Sight, own_events}
use Rattle.node_machine.specs.Deeds.{Log, steps_done, turns_of, values_found}
use Rattle.node_machine.specs.Opening.{Found}
use Rattle.node_machine.specs.Parts.{PartState}
use Rattle.node_machine.specs.Same.{Among}
use Rattle.node_machine.specs.declared.event.Cause.{Cause}
use Rattle.node_machine.specs.declared.event.Cause.TheVariants as cause
use Rattle.node_machine.specs.declared.event.Event.{Event}
use Rattle.node_machine.specs.declared.event.Event.TheVariants.{OfWorker}
use Rattle.node_machine.specs.declared.event.WorkerEvent.TheVariants.{Enlist}
use Rattle.txn_states.specs.Txn.{Txn}
use Rattle.disc_process.specs.declared.refused.WriteRefused.{WriteRefused}
use Rattle.disc_process.specs.declared.refused.WriteRefused.TheVariants as refused
use Rattle.run_outcomes.specs.Reach.{HasActed, Reach}
use Rattle.run_outcomes.specs.Told.{MayTurnLast, busy_cause, is_read, read_numbers}
use Rattle.run_worker.specs.Refused.{IsStepRefusal}
use Rattle.run_worker.specs.Shared.{IsRunStep}
use Rattle.run_worker.specs.Steps.{IsOneAct}

-- each of the steps is one of the run, of which a transaction has 64 at most
pub record AreRunSteps (found : Found) (steps : List Step) : Type 0 where
  pub few : length steps ≤ 64
  pub each : (n : ℕ) (step : Step) → slice_get steps n ≡ Some step → IsRunStep found step

-- the share has so many tokens that it can give
pub record MayGiveSome {L : Type 0} (count : ℕ) (share : Share L) : Type 0 where
  pub parts : 0 < share.parts
  pub amount : count ≤ share.amount

-- it has given so many at most
pub record HasGivenSome {L : Type 0} (count : ℕ) (old new : Share L) : Type 0 where
  pub parts : new.parts ≡ old.parts
  pub amount : old.amount ≤ new.amount + count

-- nothing is there, and there is room for the reads of these steps
pub record HasRoomForReads (steps : List Step) (reads : Vec (ℕ × Option (List ℕ)) Global) : Type 0 where
  pub empty : reads.items ≡ []
  pub enough : length (filter (λ step. is_read step.op) steps) ≤ vec_capacity reads

-- Acts stand one behind the other, each within the limit of events, between moments of the worker's seat from the first one to the last.
abbrev pub AreActs : List PartState → Config → Transid → Sight Event → Log → Sight Event → Type 0
AreActs opening config t old [] new = IsPrefix old.seen new.seen
AreActs opening config t old (entry ∷ acts) new =
    (before after : Sight Event) × IsPrefix old.seen before.seen × ((volume : ℕ) × IsOneAct opening config volume t before after (entry ∷ [])) × AreActs opening config t after acts new

-- the turns by which the attempt is turned away at a step with this refusal: one, or none where no act tells the refusal
abbrev pub turns_by : Step → WriteRefused → List Cause
turns_by step (refused.Busy holder) = busy_cause holder step ∷ []
turns_by step refused.Full = cause.Full step ∷ []
turns_by step (refused.Refused reason) = cause.Refused step reason ∷ []
turns_by step _ = []

-- The step behind so many is the one with this number, and these are the turns of its refusal.
pub record EndsAtStep (steps : List Step) (count : ℕ) (turns : List Cause) (number : ℕ) (refusal : WriteRefused) : Type 0 where
  pub number_is : number ≡ suc count
  pub step : Step
  pub at : numbered steps number ≡ Some step
  pub turned : turns ≡ turns_by step refusal

-- The worker knows the acts of an attempt more. They carry out the first steps, up to so many, each once and in order, and the reads among them have found these values. They are all steps; or
-- the attempt was stopped at the next one.
pub record HasGoneOn (opening : List PartState) (config : Config) (t : Transid) (steps : List Step) (reads : List (ℕ × Option (List ℕ))) (old new : Reach) (answer : Result ⊤ (ℕ × WriteRefused)) : Type 0 where
  pub acts : Log
  pub acted : HasActed t.worker old new acts
  pub are : AreActs opening config t old.seat acts new.seat
  pub last : MayTurnLast t acts
  pub few : length acts ≤ length steps
  pub count : ℕ
  pub done : steps_done t acts ≡ take count steps
  pub numbers : map (λ read. read.0) reads ≡ read_numbers 1 (take count steps)
  pub values : map (λ read. read.1) reads ≡ values_found t acts
  pub end : MatchResult answer (λ _. (count ≡ length steps) × (turns_of t acts ≡ [])) (λ stop. EndsAtStep steps count (turns_of t acts) stop.0 stop.1)

-- The step with this number was refused for this reason, behind others; the attempt's seat has seen less before them.
pub record IsStoppedAt {D : Type 0} (kind : disk.Ghosts D) (opening : List PartState) (config : Config) (devices : ℕ → Option D) (old : Txn) (new : Sight Event) (steps : List Step) (number : ℕ) (refusal : WriteRefused) : Type 0 where
  pub step : Step
  pub at : numbered steps number ≡ Some step
  pub before : Txn
  pub tx_is : before.tx ≡ old.tx
  pub met : IsPrefix old.seat.seen before.seat.seen
  pub why : IsStepRefusal kind opening config devices before new step refusal

-- its worker has had no event more but those of enlisting these discs for it, of these volumes, and they are those that are new to it
pub record HasOnlyEnlisted (volumes : List ℕ) (old new : Txn) : Type 0 where
  pub more : List ℕ
  pub of_them : (disc : ℕ) → Among more disc → Among volumes disc
  pub events : own_events new.seat ≡ own_events old.seat ++ map (λ disc. OfWorker (Enlist old.tx disc)) more
  pub discs : new.discs ≡ old.discs ++ more
