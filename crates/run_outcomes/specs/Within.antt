-- What the limit of events says: what is begun for an attempt is begun where the parts in question have had fewer.
use Rattle.std.specs.Prelude.{◌≡◌, ◌⊎◌, ℕ, ◌<◌, Bool, true, false, List, [], ◌∷◌, ◌++◌, length, Some}
use Rattle.std.specs.List.{list_all}
use mathlib.Core.List.{IsPrefix}
use Rattle.chronicle.specs.Histories.{events_of, states_after}
use Rattle.node_machine.specs.Acts.{actor, acts_by}
use Rattle.node_machine.specs.Deeds.{HasBegun, Log, count_of}
use Rattle.node_machine.specs.Node.{node}
use Rattle.node_machine.specs.Opening.{Found, disc_part, monitor_part, opening_parts, trail_part, worker_part}
use Rattle.node_machine.specs.Same.{Among}
use Rattle.node_machine.specs.Trail.{trail_of}
use Rattle.node_machine.specs.declared.event.Cause.TheVariants.{Dumping}
use Rattle.node_machine.specs.declared.event.DiscEvent.{DiscEvent}
use Rattle.node_machine.specs.declared.event.DiscEvent.TheVariants.{Turn, Draw, Drawn}
use Rattle.node_machine.specs.declared.event.Event.{Event}
use Rattle.node_machine.specs.declared.event.Event.TheVariants.{OfDisc, OfWorker}
use Rattle.node_machine.specs.declared.event.WorkerEvent.TheVariants.{Begin, Enlist}
use Rattle.tmf_model.specs.declared.transid.Transid.{Transid}
use Rattle.run_outcomes.specs.Ends.{next_at}
use Rattle.run_outcomes.specs.Told.{last_position}

-- the disc writes a block to its volume
abbrev pub is_drawing : Event → Bool
is_drawing (OfDisc (Draw file block position)) = true
is_drawing (OfDisc (Drawn file block)) = true
is_drawing _ = false

-- the attempt has had no act at the disc of this volume
abbrev pub IsNewAt : Log → Transid → ℕ → Type 0
IsNewAt front t volume = (e : DiscEvent) → actor (OfDisc e) ≡ Some t → Among front (disc_part volume, OfDisc e) → ⊥

-- none; or, where the attempt has had no act there, that it enlists the disc of this volume
abbrev pub IsEnlisting : Log → Transid → ℕ → List Event → Type 0
IsEnlisting front t volume events = (events ≡ []) ⊎ (events ≡ OfWorker (Enlist t volume) ∷ []) × IsNewAt front t volume

-- In front of an act the worker has had fewer events than the limit, but for enlisting the disc. At a moment in front, when all of the attempt's earlier acts had happened, the disc
-- and its trail had had fewer, and the disc had positions left; since then it has drawn blocks alone.
pub record WasOpen (found : Found) (t : Transid) (volume : ℕ) (front : Log) : Type 0 where
  pub own : List Event
  pub enlisting : List Event
  pub own_is : events_of (worker_part t.worker) front ≡ own ++ enlisting
  pub may_be : IsEnlisting front t volume enlisting
  pub worker : length own < found.config.steps
  pub moment : Log
  pub before : IsPrefix moment front
  pub begun : HasBegun moment t
  pub since : acts_by t moment ≡ acts_by t front
  pub drawn : List Event
  pub drawn_is : events_of (disc_part volume) front ≡ events_of (disc_part volume) moment ++ drawn
  pub draws : list_all is_drawing drawn ≡ true
  pub disc : count_of (disc_part volume) moment < found.config.steps
  pub trail : count_of (trail_part (trail_of found.config volume)) moment < found.config.steps
  pub position : next_at (states_after node (opening_parts found) moment) volume < last_position

-- In front of its begin the worker has had fewer events than the limit; and so had the monitor at a moment in front, when the worker had had all of these.
pub record MightBegin (found : Found) (t : Transid) (front : Log) : Type 0 where
  pub worker : count_of (worker_part t.worker) front < found.config.steps
  pub moment : Log
  pub before : IsPrefix moment front
  pub since : count_of (worker_part t.worker) moment ≡ count_of (worker_part t.worker) front
  pub monitor : count_of monitor_part moment < found.config.steps

-- The attempt, and each act of it but a dump's turn, was begun within the limit.
pub record KeepsLimit (found : Found) (t : Transid) (log : Log) : Type 0 where
  pub begun : (front rest : Log) → log ≡ front ++ (worker_part t.worker, OfWorker (Begin t)) ∷ rest → MightBegin found t front
  pub stepped : (front rest : Log) (volume : ℕ) (e : DiscEvent) → actor (OfDisc e) ≡ Some t → (e ≡ Turn t Dumping → ⊥)
      → log ≡ front ++ (disc_part volume, OfDisc e) ∷ rest → WasOpen found t volume front

-- so was each attempt
abbrev pub AreWithin : Found → Log → Type 0
AreWithin found log = (t : Transid) → KeepsLimit found t log
