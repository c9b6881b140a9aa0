-- What a step of an attempt makes: the act by which its disc carries it out, or turns the attempt away.
use Rattle.std.specs.Prelude.{◌≡◌, ◌⊎◌, ℕ, ◌<◌, true, List, [], ◌∷◌, ◌++◌, Option, Some, Result, Ok, Err, if◌then◌else◌}
use Rattle.std.specs.List.{list_all}
use Rattle.std.specs.declared.sync.ledger.Share.{Share}
use mathlib.Core.List.{IsPrefix}
use Rattle.tmf_model.specs.declared.config.Config.{Config}
use Rattle.tmf_model.specs.declared.script.Step.{Step}
use Rattle.tmf_model.specs.declared.transid.Transid.{Transid}
use Rattle.chronicle.specs.Histories.{events_of, states_after}
use Rattle.chronicle.specs.Seats.{Sight}
use Rattle.node_machine.specs.Acts.{actor}
use Rattle.node_machine.specs.Deeds.{Log, count_of, steps_done, turns_of, values_found}
use Rattle.node_machine.specs.Made.{volume_of}
use Rattle.node_machine.specs.Node.{node}
use Rattle.node_machine.specs.Opening.{disc_part, trail_part, worker_part}
use Rattle.node_machine.specs.Parts.{PartState}
use Rattle.node_machine.specs.Trail.{trail_of}
use Rattle.node_machine.specs.declared.event.Cause.{Cause}
use Rattle.node_machine.specs.declared.event.Cause.TheVariants as cause
use Rattle.node_machine.specs.declared.event.DiscEvent.{DiscEvent}
use Rattle.node_machine.specs.declared.event.Event.{Event}
use Rattle.node_machine.specs.declared.event.Event.TheVariants.{OfDisc, OfWorker}
use Rattle.node_machine.specs.declared.event.WorkerEvent.TheVariants.{Enlist}
use Rattle.txn_states.specs.Txn.{Txn}
use Rattle.disc_process.specs.declared.refused.WriteRefused.{WriteRefused}
use Rattle.disc_process.specs.declared.refused.WriteRefused.TheVariants as refused
use Rattle.run_outcomes.specs.Ends.{next_at}
use Rattle.run_outcomes.specs.Reach.{HasActed, Reach}
use Rattle.run_outcomes.specs.Told.{busy_cause, is_read, last_position}
use Rattle.run_outcomes.specs.Within.{is_drawing}

-- how far the worker of an attempt has come
abbrev pub reach_of : {L : Type 0} → Txn → Share L → Reach
reach_of t share = record { seat = t.seat; tokens = share.amount }

-- these acts carry out the step, and nothing else; a read has found this value
pub record IsDeed (t : Transid) (step : Step) (value : Option (List ℕ)) (acts : Log) : Type 0 where
  pub done : steps_done t acts ≡ step ∷ []
  pub found : values_found t acts ≡ (if is_read step.op then value ∷ [] else [])
  pub unturned : turns_of t acts ≡ []

-- these acts turn the attempt away, once and for this reason
pub record IsTurn (t : Transid) (why : Cause) (acts : Log) : Type 0 where
  pub done : steps_done t acts ≡ []
  pub found : values_found t acts ≡ []
  pub turned : turns_of t acts ≡ why ∷ []

-- what the acts of a step with this answer are: one that carries it out, one that turns the attempt away, or none
abbrev pub StepMakes : Transid → Step → Result (Option (List ℕ)) WriteRefused → Log → Type 0
StepMakes t step (Ok value) acts = IsDeed t step value acts
StepMakes t step (Err (refused.Busy holder)) acts = IsTurn t (busy_cause holder step) acts
StepMakes t step (Err refused.Full) acts = IsTurn t (cause.Full step) acts
StepMakes t step (Err (refused.Refused reason)) acts = IsTurn t (cause.Refused step reason) acts
StepMakes t step (Err _) acts = acts ≡ []

-- The act of the attempt at this volume's disc stands in what the seat has newly seen, and was begun within the limit of events: the worker had had fewer, and so had the disc and its trail at a
-- moment in front, when the seat had seen all that it had seen before; the disc had positions left then, and has drawn blocks alone since.
pub record WasWithin (opening : List PartState) (config : Config) (volume : ℕ) (t : Transid) (old new : Sight Event) (act : Event) : Type 0 where
  pub front : Log
  pub rest : Log
  pub stands : new.seen ≡ front ++ (disc_part volume, act) ∷ rest
  pub moment : Log
  pub met : IsPrefix old.seen moment
  pub before : IsPrefix moment front
  pub drawn : List Event
  pub drawn_is : events_of (disc_part volume) front ≡ events_of (disc_part volume) moment ++ drawn
  pub draws : list_all is_drawing drawn ≡ true
  pub worker : count_of (worker_part t.worker) old.seen < config.steps
  pub disc : count_of (disc_part volume) moment < config.steps
  pub trail : count_of (trail_part (trail_of config volume)) moment < config.steps
  pub position : next_at (states_after node opening moment) volume < last_position

-- between the two moments its worker has had no event, or has enlisted this volume's disc
abbrev pub MayHaveEnlisted : Transid → ℕ → Log → Log → Type 0
MayHaveEnlisted t volume old new =
    (events_of (worker_part t.worker) new ≡ events_of (worker_part t.worker) old)
    ⊎ (events_of (worker_part t.worker) new ≡ events_of (worker_part t.worker) old ++ OfWorker (Enlist t volume) ∷ [])

-- one act of the attempt at this volume's disc, within the limit
pub record IsOneAct (opening : List PartState) (config : Config) (volume : ℕ) (t : Transid) (old new : Sight Event) (acts : Log) : Type 0 where
  pub act : DiscEvent
  pub acts_are : acts ≡ (disc_part volume, OfDisc act) ∷ []
  pub its : actor (OfDisc act) ≡ Some t
  pub within : WasWithin opening config volume t old new (OfDisc act)
  pub worker : MayHaveEnlisted t volume old.seen new.seen

-- The worker knows the acts of the step more, which are what its answer says: none, or one at the disc of its volume.
pub record HasMadeStep (opening : List PartState) (config : Config) (t : Transid) (step : Step) (old new : Reach) (answer : Result (Option (List ℕ)) WriteRefused) : Type 0 where
  pub acts : Log
  pub acted : HasActed t.worker old new acts
  pub makes : StepMakes t step answer acts
  pub one : (acts ≡ []) ⊎ IsOneAct opening config (volume_of config step.file) t old.seat new.seat acts
