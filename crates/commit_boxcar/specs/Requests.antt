-- The queue of requests, its rule, and what a pass of it may do.
use Rattle.std.specs.Prelude.{◌≡◌, ◌⊎◌, ℕ, zero, suc, ◌≤◌, List, [], ◌∷◌, ◌++◌, Option, Some, None, MatchOption}
use mathlib.Core.Option.{some}
use lib.ListN.{get_elem?}
use Rattle.crossbeam_queue.specs.SegTies.{SegId}
use Rattle.std.specs.declared.alloc.Global.{Global}
use Rattle.disk_model.specs.Held.{Rose}
use Rattle.tmf_model.specs.declared.transid.Transid.{Transid}
use Rattle.trail_files.specs.declared.monitor_record.MonitorRecord.{MonitorRecord}
use Rattle.node_machine.specs.Monitor.{ended_by, IsLater, AreLater}
use Rattle.node_machine.specs.Same.{Among, IsBefore}

-- the record ends an attempt of this worker
pub record IsOf (worker : ℕ) (x : MonitorRecord) : Type 0 where
  pub tx : Transid
  pub ends : ended_by x ≡ Some tx
  pub worker_is : tx.worker ≡ worker

-- this is the newest request of the worker in the list; none where it has none there
abbrev pub IsNewest : ℕ → Option MonitorRecord → List MonitorRecord → Type 0
IsNewest worker None list = (y : MonitorRecord) → Among list y → IsOf worker y → ⊥
IsNewest worker (Some x) list = IsOf worker x × Among list x × ((y : MonitorRecord) → Among list y → IsOf worker y → (y ≡ x) ⊎ IsLater y x)

-- a worker, and the last request that was pushed for it
pub record LastPush : Type 0 where
  pub worker : ℕ
  pub last : Option MonitorRecord

abbrev pub last_push : ℕ → Option MonitorRecord → LastPush
last_push worker last = record { worker = worker; last = last }

-- what a pass of the queue may do
pub record Sharing : Type 0 where
  -- the workers for which it may push, each with the last request that was pushed for it
  pub asks : List LastPush
  -- where it may pop, what was popped, oldest first
  pub popped : Option (List MonitorRecord)
  -- requests that were pushed, as the pass was told
  pub told : List MonitorRecord

-- so many workers from this one on, for whom nothing was pushed
abbrev pub workers_from : ℕ → ℕ → List LastPush
workers_from worker zero = []
workers_from worker (suc n) = last_push worker None ∷ workers_from (suc worker) n

-- a pass that may push for these workers alone
abbrev pub asking_for : List LastPush → Sharing
asking_for asks = record { asks = asks; popped = None; told = [] }

abbrev pub all_rights : Sharing
all_rights = record { asks = workers_from 0 17; popped = Some []; told = [] }

-- the pass of one worker
abbrev pub asking : ℕ → Option MonitorRecord → Sharing
asking worker last = asking_for (last_push worker last ∷ [])

-- the pass that pops
abbrev pub popping : List MonitorRecord → List MonitorRecord → Sharing
popping popped told = record { asks = []; popped = Some popped; told = told }

-- a pass that may do nothing, and knows that these were pushed
abbrev pub knowing : List MonitorRecord → Sharing
knowing told = record { asks = []; popped = None; told = told }

abbrev pub without_pops : Sharing → Sharing
without_pops v = record { asks = v.asks; popped = None; told = v.told }

abbrev pub pops_of : Sharing → Sharing
pops_of v = record { asks = []; popped = v.popped; told = [] }

abbrev pub first_push : List LastPush → List LastPush
first_push [] = []
first_push (t ∷ ts) = t ∷ []

abbrev pub other_pushes : List LastPush → List LastPush
other_pushes [] = []
other_pushes (t ∷ ts) = ts

-- the right to push for its first worker
abbrev pub first_asking : Sharing → Sharing
first_asking v = asking_for (first_push v.asks)

abbrev pub without_first : Sharing → Sharing
without_first v = record { asks = other_pushes v.asks; popped = v.popped; told = v.told }

-- this one too, where there is one
abbrev pub and_last : Option MonitorRecord → List MonitorRecord → List MonitorRecord
and_last None l = l
and_last (Some x) l = x ∷ l

-- the last requests that were pushed for these workers
abbrev pub lasts : List LastPush → List MonitorRecord
lasts [] = []
lasts (t ∷ ts) = and_last t.last (lasts ts)

-- what another pass was told, this one was told too
abbrev pub with_told : Sharing → Sharing → Sharing
with_told v w = record { asks = v.asks; popped = v.popped; told = w.told ++ v.told }

abbrev pub all_last : MonitorRecord → List LastPush → List LastPush
all_last x [] = []
all_last x (t ∷ ts) = last_push t.worker (Some x) ∷ all_last x ts

-- a worker's pass has pushed the request
abbrev pub HasPushed : Sharing → MonitorRecord → Sharing → Type 0
HasPushed v x w = w ≡ asking_for (all_last x v.asks)

-- the oldest request was popped
abbrev pub HasPopped : Sharing → MonitorRecord → Sharing → Type 0
HasPopped v x w = MatchOption v.popped ⊥ (λ l. w ≡ popping (l ++ x ∷ []) v.told)

-- the monitor's end of the queue: what was popped, oldest first, which requests it was told were pushed, and how often a pop found none, as far as
-- 64 bits count
pub record QueueEnd : Type 0 where
  pub popped : List MonitorRecord
  pub told : List MonitorRecord
  pub empties : ℕ

abbrev pub listed : Option (List MonitorRecord) → List MonitorRecord
listed None = []
listed (Some l) = l

abbrev pub end_of : Sharing → ℕ → QueueEnd
end_of v empties = record { popped = listed v.popped; told = v.told; empties = empties }

-- it was told that this one was pushed
abbrev pub that_heard : MonitorRecord → QueueEnd → QueueEnd
that_heard x e = record e { told = x ∷ e.told }

-- just these were popped meanwhile, oldest first, and nothing was told
pub record ArePopped (front : List MonitorRecord) (e f : QueueEnd) : Type 0 where
  pub popped : f.popped ≡ e.popped ++ front
  pub told : f.told ≡ e.told
  pub later : e.empties ≤ f.empties

-- of all requests that were told, each was popped
abbrev pub AllPopped : List MonitorRecord → List MonitorRecord → Type 0
AllPopped told popped = (x : MonitorRecord) → Among told x → Among popped x

-- A pop found the queue empty meanwhile. So of all requests that the end was told were pushed, each was popped.
pub record HasFoundEmpty (e f : QueueEnd) : Type 0 where
  pub rose : Rose e.empties f.empties
  pub drained : AllPopped f.told f.popped

-- what a pass learns of an empty queue
abbrev pub EmptyTells : Sharing → List MonitorRecord → Type 0
EmptyTells v items = items ≡ [] → AllPopped v.told (listed v.popped)

-- Of all that was pushed, what was popped is the front, and the queue has the rest. Each request is later than those of its worker that were
-- pushed before it. One pass at most may pop, and one push for each worker, which knows the last request that it pushed.
pub record IsRuled (items : List MonitorRecord) (views : List Sharing) : Type 0 where
  pub popped : List MonitorRecord
  pub popper : ℕ
  pub askers : ℕ → ℕ
  pub rises : AreLater [] (popped ++ items)
  pub pops : (port : ℕ) (v : Sharing) (l : List MonitorRecord) → get_elem? views port ≡ some v → v.popped ≡ Some l → (port ≡ popper) × (l ≡ popped)
  pub asks : (port : ℕ) (v : Sharing) (t : LastPush) → get_elem? views port ≡ some v → Among v.asks t → (port ≡ askers t.worker) × IsNewest t.worker t.last (popped ++ items)
  pub tells : (port : ℕ) (v : Sharing) (x : MonitorRecord) → get_elem? views port ≡ some v → Among v.told x → Among (popped ++ items) x

-- each request of this worker in the queue's past is earlier than this one, as its pass knows by the last one
abbrev pub IsDue : Option MonitorRecord → MonitorRecord → Type 0
IsDue None x = Unit {0}
IsDue (Some last) x = IsLater last x

-- the last request that was pushed, if there is one, is of its worker
abbrev pub IsOwnPush : LastPush → Type 0
IsOwnPush t = (x : MonitorRecord) → t.last ≡ Some x → IsOf t.worker x

-- The last request that was pushed for the attempt's worker, where that is not of an earlier attempt; and else it is of an earlier one.
abbrev pub IsCovered : LastPush → Transid → Option MonitorRecord → Type 0
IsCovered t tx (Some last) = (t.last ≡ Some last) × IsOf t.worker last × ((u : Transid) → ended_by last ≡ Some u → IsBefore u tx → ⊥)
IsCovered t tx None = (last : MonitorRecord) (u : Transid) → t.last ≡ Some last → ended_by last ≡ Some u → IsBefore u tx

-- the second request is of the same worker, and of no earlier attempt
pub record IsAsFar (x y : MonitorRecord) : Type 0 where
  pub tx : Transid
  pub ends : ended_by x ≡ Some tx
  pub other : Transid
  pub other_ends : ended_by y ≡ Some other
  pub worker : other.worker ≡ tx.worker
  pub late : IsBefore other tx → ⊥

-- what was asked for, and the request that was pushed for it or that covers it; none where memory ran out
pub record AskedFor : Type 0 where
  pub request : MonitorRecord
  pub pushed : Option MonitorRecord

-- which queue it is
abbrev pub QueueId : Type 0
QueueId = SegId Global

-- stands where a queue has no name
abbrev pub no_queue : QueueId
no_queue = record { web = (0, 0); heap = record { memory = record { seal = tt } } }
