-- That each step of an attempt at a disc comes before its worker has ended the attempt's steps.
use Rattle.std.specs.Prelude.{◌≡◌, ◌⊎◌, ℕ, List, ◌∷◌, ◌++◌, Option, Some, None}
use Rattle.chronicle.specs.Seats.{Sight}
use Rattle.tmf_model.specs.declared.transid.Transid.{Transid}
use Rattle.node_machine.specs.declared.event.Cause.{Cause}
use Rattle.node_machine.specs.declared.event.Cause.TheVariants.{Busy, BusyFile, Full, Refused, Dumping}
use Rattle.node_machine.specs.declared.event.DiscEvent.TheVariants.{Write, Read, Lock, Turn}
use Rattle.node_machine.specs.declared.event.Event.{Event}
use Rattle.node_machine.specs.declared.event.Event.TheVariants.{OfDisc, OfWorker}
use Rattle.node_machine.specs.declared.event.WorkerEvent.{WorkerEvent}
use Rattle.node_machine.specs.declared.event.WorkerEvent.TheVariants.{Finish, Quit}
use Rattle.node_machine.specs.Opening.{worker_part}
use Rattle.node_machine.specs.Same.{Among}

-- the attempt whose step was turned away; where a dump was asked for there was no step
abbrev pub turned : Transid → Cause → Option Transid
turned t (Busy step holder) = Some t
turned t (BusyFile file holder) = Some t
turned t (Full step) = Some t
turned t (Refused step reason) = Some t
turned t Dumping = None

-- the attempt of which the event carries out a step, or turns one away
abbrev pub stepped : Event → Option Transid
stepped (OfDisc (Write r op)) = Some r.tx
stepped (OfDisc (Read t file key value)) = Some t
stepped (OfDisc (Lock t file)) = Some t
stepped (OfDisc (Turn t cause)) = turned t cause
stepped _ = None

-- with this event its worker asks for no more steps of the attempt, or gives it up
abbrev pub EndsSteps : Transid → WorkerEvent → Type 0
EndsSteps t e = (e ≡ Finish t) ⊎ (e ≡ Quit t)

-- in these entries its worker has not ended the attempt's steps
pub record IsUnended (t : Transid) (entries : List (ℕ × Event)) : Type 0 where
  pub none : (end : WorkerEvent) → EndsSteps t end → Among entries (worker_part t.worker, OfWorker end) → ⊥

-- in these entries no step of an attempt at this part stands behind the event with which its worker has ended its steps
abbrev pub AreInTime : ℕ → List (ℕ × Event) → Type 0
AreInTime part entries = (t : Transid) (end : WorkerEvent) (e : Event) (front rest : List (ℕ × Event)) → EndsSteps t end → entries ≡ front ++ (worker_part t.worker, OfWorker end) ∷ rest
    → Among rest (part, e) → stepped e ≡ Some t → ⊥

-- so it is of the seat's own part, in what the seat has seen
pub record IsInTime (v : Sight Event) : Type 0 where
  pub steps : (part : ℕ) → v.part ≡ Some part → AreInTime part v.seen
