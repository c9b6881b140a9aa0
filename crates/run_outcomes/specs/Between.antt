-- Between two attempts of a worker: all that it has begun is decided, so that it may begin the next one.
use Rattle.std.specs.Prelude.{◌≡◌, true, false, List, [], ◌++◌, IsSome, Some, None}
use Rattle.chronicle.specs.Histories.{IsHistory}
use Rattle.chronicle.specs.Seats.{Sight, part_state}
use Rattle.node_machine.specs.Deeds.{HasWorkerEvent, Log}
use Rattle.node_machine.specs.Node.{node}
use Rattle.node_machine.specs.Opening.{Found, opening_parts, worker_part}
use Rattle.node_machine.specs.Parts.{PartState, WorkerPart}
use Rattle.node_machine.specs.Parts.PartState.{Worker}
use Rattle.node_machine.specs.Same.{Among, IsBefore}
use Rattle.node_machine.specs.Seats.{CanBegin}
use Rattle.node_machine.specs.Worker.{IsOwn, decision, enlisted_discs, has_begun, has_finished}
use Rattle.node_machine.specs.declared.event.Event.{Event}
use Rattle.node_machine.specs.declared.event.WorkerEvent.{WorkerEvent}
use Rattle.node_machine.specs.declared.event.WorkerEvent.TheVariants.{Begin, Enlist, Finish, End, Quit}
use Rattle.tmf_model.specs.declared.script.Close.{Close}
use Rattle.tmf_model.specs.declared.transid.Transid.{Transid}

-- Each attempt that has begun came earlier and is decided, and the attempt has had no event.
pub record MayBeNext (events : List WorkerEvent) (t : Transid) : Type 0 where
  pub earlier : (u : Transid) → has_begun events u ≡ true → IsBefore u t
  pub decided : (u : Transid) → has_begun events u ≡ true → IsSome (decision events u)
  pub unfinished : has_finished events t ≡ false
  pub undecided : decision events t ≡ None
  pub alone : enlisted_discs events t ≡ []

-- each attempt that is later than this one may be the next
abbrev pub MayGoOn : List WorkerEvent → Transid → Type 0
MayGoOn events last = (t : Transid) → IsBefore last t → MayBeNext events t

-- the event is one of the attempt
abbrev pub IsEventOf : Transid → WorkerEvent → Type 0
IsEventOf t (Begin u) = u ≡ t
IsEventOf t (Enlist u disc) = u ≡ t
IsEventOf t (Finish u) = u ≡ t
IsEventOf t (End u) = u ≡ t
IsEventOf t (Quit u) = u ≡ t

-- its worker has had no event for the attempt or item
abbrev pub HasNone : Log → Transid → Type 0
HasNone log t = (e : WorkerEvent) → IsEventOf t e → HasWorkerEvent log t e → ⊥

-- Behind the events of one attempt, by which it is decided, each later one may be the next. (The newest event comes first.)
abbrev pub GoOnLaw : Type 0
GoOnLaw =
    (events more : List WorkerEvent) (last t : Transid) (close : Close) → MayGoOn events last → IsBefore last t → ((e : WorkerEvent) → Among more e → IsEventOf t e)
    → decision (more ++ events) t ≡ Some close → MayGoOn (more ++ events) t

-- A worker whose next attempt this may be can begin it.
abbrev pub BeginLaw : Type 0
BeginLaw = (opening : List PartState) (v : Sight Event) (s : WorkerPart) (t : Transid) → part_state node opening v ≡ Some (Worker s) → IsOwn s t → MayBeNext s.events t → CanBegin opening v t

-- It has had no event for that.
abbrev pub NextHasNoneLaw : Type 0
NextHasNoneLaw =
    (found : Found) (seat : Sight Event) (s : WorkerPart) (t : Transid) → IsHistory node (opening_parts found) seat.seen → seat.part ≡ Some (worker_part t.worker)
    → part_state node (opening_parts found) seat ≡ Some (Worker s) → MayBeNext s.events t → HasNone seat.seen t
