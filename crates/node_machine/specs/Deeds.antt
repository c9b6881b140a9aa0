-- What a history says of one attempt or item: the steps that it has carried out, what its reads have found, its turns, and that it has let go.
use Rattle.std.specs.Prelude.{◌≡◌, ◌⊎◌, ℕ, suc, List, [], ◌∷◌, ◌++◌, map, reverse, take, length, slice_get, Option, Some, None, true, if◌then◌else◌}
use Rattle.std.specs.List.{filter_map}
use Rattle.chronicle.specs.Histories.{events_of, states_after, IsHistory}
use Rattle.tmf_model.specs.Commits.{after_commits, numbered}
use Rattle.tmf_model.specs.RecordMap.{RecordMap}
use Rattle.tmf_model.specs.Script.{whole_file}
use Rattle.tmf_model.specs.declared.script.Close.TheVariants.{Commit as Committing}
use Rattle.tmf_model.specs.declared.script.Op.TheVariants.{Read as ReadOp, Lock as LockOp}
use Rattle.tmf_model.specs.declared.script.Step.{Step}
use Rattle.tmf_model.specs.declared.script.Transaction.{Transaction}
use Rattle.tmf_model.specs.declared.transid.Transid.{Transid}
use Rattle.trail_files.specs.MonitorOrder.{is_same_transid}
use Rattle.trail_files.specs.Recovered.{commits_of}
use Rattle.trail_files.specs.declared.monitor_record.MonitorRecord.{MonitorRecord}
use Rattle.node_machine.specs.declared.event.By.{By}
use Rattle.node_machine.specs.declared.event.By.TheVariants.{Attempt}
use Rattle.node_machine.specs.declared.event.Cause.{Cause}
use Rattle.node_machine.specs.declared.event.Cause.TheVariants.{Busy, BusyFile, Full, Refused, Dumping}
use Rattle.node_machine.specs.declared.event.DiscEvent.TheVariants.{Turn, Release, Low, Lowered, Start, Raise, Failed as DiscFailed}
use Rattle.node_machine.specs.declared.event.DumpEvent.TheVariants.{Seal, Sealed, Failed as DumpFailed}
use Rattle.node_machine.specs.declared.event.Event.{Event}
use Rattle.node_machine.specs.declared.event.Event.TheVariants.{OfWorker, OfDisc, OfTrail, OfMonitor, OfDump}
use Rattle.node_machine.specs.declared.event.MonitorEvent.TheVariants.{Failed as MonitorFailed}
use Rattle.node_machine.specs.declared.event.TrailEvent.TheVariants.{Failed as TrailFailed}
use Rattle.node_machine.specs.declared.event.WorkerEvent.{WorkerEvent}
use Rattle.node_machine.specs.declared.event.WorkerEvent.TheVariants.{Begin, Enlist, Finish, Quit}
pub use Rattle.node_machine.specs.Disc.{is_lock}
use Rattle.node_machine.specs.Law.{Deed, after_list, deeds_of}
use Rattle.node_machine.specs.Law.Deed.{Changed, Saw, Locked}
use Rattle.node_machine.specs.Node.{node}
use Rattle.node_machine.specs.Opening.{Found, disc_part, dump_part, opening_parts, worker_part}
use Rattle.node_machine.specs.Parts.{PartState}
use Rattle.node_machine.specs.Parts.PartState.{Worker, Disc, Trail, Monitor, Dump, Idle}
use Rattle.node_machine.specs.Same.{Among}

-- a history: each entry has the number of its part
abbrev pub Log : Type 0
Log = List (ℕ × Event)

-- STEPS AND TURNS

-- the step of a script that locks a file
abbrev pub lock_step : ℕ → Step
lock_step file = record { file = file; key = whole_file; op = LockOp }

-- the step of a script that a deed carries out
abbrev pub step_of : Deed → Step
step_of (Changed r op) = record { file = r.file; key = r.key; op = op }
step_of (Saw file key value) = record { file = file; key = key; op = ReadOp }
step_of (Locked file) = lock_step file

-- the value that it has found, if it is a read
abbrev pub value_of : Deed → Option (Option (List ℕ))
value_of (Changed r op) = None
value_of (Saw file key value) = Some value
value_of (Locked file) = None

-- the steps that the attempt has carried out, in their order
abbrev pub steps_done : Transid → Log → List Step
steps_done t log = map step_of (deeds_of t log)

-- what its reads have found, in their order
abbrev pub values_found : Transid → Log → List (Option (List ℕ))
values_found t log = filter_map value_of (deeds_of t log)

-- the attempt's turn, if the event is one
abbrev pub turn_of : Transid → Event → Option Cause
turn_of t (OfDisc (Turn u cause)) = if is_same_transid t u then Some cause else None
turn_of t _ = None

-- why it was turned away, each time in order
abbrev pub turns_of : Transid → Log → List Cause
turns_of t log = filter_map (λ entry. turn_of t entry.1) log

-- all steps were carried out, each once and in their order, and no turn has met the attempt
pub record IsWhole (log : Log) (t : Transid) (steps : List Step) : Type 0 where
  pub done : steps_done t log ≡ steps
  pub unturned : turns_of t log ≡ []

-- the turn is on this step
abbrev pub IsOn : Step → Cause → Type 0
IsOn step (Busy other holder) = other ≡ step
IsOn step (BusyFile file holder) = lock_step file ≡ step
IsOn step (Full other) = other ≡ step
IsOn step (Refused other reason) = other ≡ step
IsOn step Dumping = ⊥

-- The attempt was turned away at its step of this number, from 1, and at no other. It has carried out the steps before it, each once and in order.
pub record IsTurnedAt (log : Log) (t : Transid) (steps : List Step) (number : ℕ) (cause : Cause) : Type 0 where
  pub before : ℕ
  pub number_is : number ≡ suc before
  pub done : steps_done t log ≡ take before steps
  pub turn : turns_of t log ≡ cause ∷ []
  pub step : Step
  pub at : numbered steps number ≡ Some step
  pub is_on : IsOn step cause

-- The attempt has carried out some first steps, each once and in order, and no turn has met it; or one has, on the step behind them.
pub record IsInOrder (log : Log) (t : Transid) (steps : List Step) : Type 0 where
  pub count : ℕ
  pub done : steps_done t log ≡ take count steps
  pub turn : (turns_of t log ≡ []) ⊎ ((step : Step) × (cause : Cause) × (turns_of t log ≡ cause ∷ []) × (numbered steps (suc count) ≡ Some step) × IsOn step cause)

-- WORKERS AND DISCS

-- the attempt's worker has this event
abbrev pub HasWorkerEvent : Log → Transid → WorkerEvent → Type 0
HasWorkerEvent log t event = Among log (worker_part t.worker, OfWorker event)

abbrev pub HasBegun : Log → Transid → Type 0
HasBegun log t = HasWorkerEvent log t (Begin t)

abbrev pub HasFinished : Log → Transid → Type 0
HasFinished log t = HasWorkerEvent log t (Finish t)

abbrev pub HasQuit : Log → Transid → Type 0
HasQuit log t = HasWorkerEvent log t (Quit t)

abbrev pub HasEnlisted : Log → Transid → ℕ → Type 0
HasEnlisted log t volume = HasWorkerEvent log t (Enlist t volume)

abbrev pub HasReleased : Log → Transid → ℕ → Type 0
HasReleased log t volume = Among log (disc_part volume, OfDisc (Release t))

-- It has let go of all that it held: it has released at each disc that it enlisted, and no later attempt of its worker begins before.
pub record HasLetGo (log : Log) (t : Transid) : Type 0 where
  pub each : (volume : ℕ) → HasEnlisted log t volume → HasReleased log t volume
  pub first : (volume : ℕ) (before after : Log) (other : Transid) → HasEnlisted log t volume → log ≡ before ++ (worker_part t.worker, OfWorker (Begin other)) ∷ after
      → HasBegun before t → HasReleased before t volume

-- CONTROL POINTS AND DUMPS

-- A control point for the item has made this the low position of the volume, and it has landed.
pub record HasLowered (log : Log) (volume : ℕ) (item : Transid) (low : ℕ) : Type 0 where
  pub before : Log
  pub between : Log
  pub after : Log
  pub stands : log ≡ before ++ (disc_part volume, OfDisc (Low low (Attempt item))) ∷ between ++ (disc_part volume, OfDisc Lowered) ∷ after
  pub next : Among between (disc_part volume, OfDisc Lowered) → ⊥

-- A dump for the item was begun at this start, sealed and landed, and the volume's disc has heard of it.
pub record HasDumped (log : Log) (volume : ℕ) (item : Transid) (start : ℕ) : Type 0 where
  pub number : ℕ
  pub started : Among log (disc_part volume, OfDisc (Start number start item))
  pub sealed : Among log (dump_part volume, OfDump (Seal number start))
  pub landed : Among log (dump_part volume, OfDump (Sealed number true))
  pub rest : Option ℕ
  pub raised : Among log (disc_part volume, OfDisc (Raise number rest))

-- DEVICES

-- the device of the part has failed in a call for this one
abbrev pub HasFailedFor : Log → ℕ → By → Type 0
HasFailedFor log part by =
    Among log (part, OfDisc (DiscFailed by)) ⊎ Among log (part, OfTrail (TrailFailed by)) ⊎ Among log (part, OfMonitor (MonitorFailed by)) ⊎ Among log (part, OfDump (DumpFailed by))

-- how many events the part has
abbrev pub count_of : ℕ → Log → ℕ
count_of part log = length (events_of part log)

-- PARTS

-- the events of a part, the newest first
abbrev pub events_at : PartState → List Event
events_at (Worker s) = map (λ e. OfWorker e) s.events
events_at (Disc s) = map (λ e. OfDisc e) s.events
events_at (Trail s) = map (λ e. OfTrail e) s.events
events_at (Monitor s) = map (λ e. OfMonitor e) s.events
events_at (Dump s) = map (λ e. OfDump e) s.events
events_at Idle = []

-- A part's state has the events that the history has of it.
abbrev pub EventsLaw : Type 0
EventsLaw =
    (found : Found) (log : Log) (part : ℕ) (s : PartState) → IsHistory node (opening_parts found) log → slice_get (states_after node (opening_parts found) log) part ≡ Some s
    → events_at s ≡ reverse (events_of part log)

-- THE FOLD

-- the transaction of all steps that the attempt has carried out, which asks for its commit
abbrev pub done : Log → Transid → Transaction
done log t = record { attempts = 1; steps = steps_done t log; close = Committing }

-- The map that the commits of a list come to is that of the transactions of all that they have carried out, their reads too.
abbrev pub DoneLaw : Type 0
DoneLaw = (log : Log) (list : List MonitorRecord) (map_ : RecordMap) → after_list log list map_ ≡ after_commits (λ t. Some (done log t)) (commits_of list) map_
