-- That a worker's seat has seen all steps of an attempt whose steps it has ended.
use Rattle.std.specs.Prelude.{◌≡◌, ◌⊎◌, ℕ, true, ◌∷◌, ◌++◌}
use Rattle.node_machine.specs.Deeds.{Log, steps_done, turns_of, values_found}
use Rattle.node_machine.specs.Opening.{worker_part}
use Rattle.node_machine.specs.Same.{Among}
use Rattle.node_machine.specs.declared.event.DiscEvent.{DiscEvent}
use Rattle.node_machine.specs.declared.event.DiscEvent.TheVariants.{Write, Read, Lock, Turn}
use Rattle.node_machine.specs.declared.event.Event.TheVariants.{OfDisc, OfWorker}
use Rattle.node_machine.specs.declared.event.WorkerEvent.{WorkerEvent}
use Rattle.node_machine.specs.declared.event.WorkerEvent.TheVariants.{Finish, Quit}
use Rattle.chronicle.specs.Histories.{events_of}
use Rattle.tmf_model.specs.declared.transid.Transid.{Transid}
use Rattle.trail_files.specs.MonitorOrder.{is_same_transid}

-- the event of a disc carries out a step of the attempt, or turns one away
abbrev pub IsStepOf : Transid → DiscEvent → Type 0
IsStepOf t (Write r op) = is_same_transid t r.tx ≡ true
IsStepOf t (Read u file key value) = is_same_transid t u ≡ true
IsStepOf t (Lock u file) = is_same_transid t u ≡ true
IsStepOf t (Turn u cause) = is_same_transid t u ≡ true
IsStepOf t _ = ⊥

-- with this event its worker asks for no more steps of the attempt, or gives it up
abbrev pub EndsSteps : Transid → WorkerEvent → Type 0
EndsSteps t e = (e ≡ Finish t) ⊎ (e ≡ Quit t)

-- In these entries no step of an attempt at this part stands behind the event with which its worker has ended its steps.
abbrev pub AreInTime : ℕ → Log → Type 0
AreInTime part entries = (t : Transid) (e : WorkerEvent) (d : DiscEvent) (front rest : Log) → EndsSteps t e → entries ≡ front ++ (worker_part t.worker, OfWorker e) ∷ rest
    → Among rest (part, OfDisc d) → IsStepOf t d → ⊥

-- A seat of this part has seen these first entries of a history, with all events of its part, and the steps among them are in time.
pub record IsTimely (log : Log) (part : ℕ) : Type 0 where
  pub seen : Log
  pub more : Log
  pub begins : log ≡ seen ++ more
  pub mine : events_of part log ≡ events_of part seen
  pub in_time : AreInTime part seen

-- the history has of the attempt the steps, what its reads have found and the turns that its first entries have
pub record HasNoMore (log seen : Log) (t : Transid) : Type 0 where
  pub steps : steps_done t log ≡ steps_done t seen
  pub values : values_found t log ≡ values_found t seen
  pub turns : turns_of t log ≡ turns_of t seen

-- Where the steps at each part are in time, whoever has seen that the worker has ended the attempt's steps has seen all of them.
abbrev pub SeenLaw : Type 0
SeenLaw =
    (log seen more : Log) (t : Transid) (e : WorkerEvent) → log ≡ seen ++ more → EndsSteps t e → Among seen (worker_part t.worker, OfWorker e)
    → ((part : ℕ) (d : DiscEvent) → Among log (part, OfDisc d) → IsTimely log part)
    → HasNoMore log seen t
