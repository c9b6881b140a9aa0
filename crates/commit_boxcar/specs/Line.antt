-- The records of a run in the order of the monitor trail, and the last of each worker among them.
use Rattle.std.specs.Prelude.{◌≡◌, ◌⊎◌, ℕ, ◌≤◌, ◌+◌, ◌*◌, true, List, [], ◌∷◌, ◌++◌, length, Option, Some, None, slice_get, replicate}
use Rattle.chronicle.specs.Seats.{Sight, Knows}
use Rattle.tmf_model.specs.declared.transid.Transid.{Transid}
use Rattle.trail_files.specs.declared.monitor_record.MonitorRecord.{MonitorRecord}
use Rattle.trail_files.specs.MonitorFormat.{is_monitor_record}
use Rattle.node_machine.specs.declared.event.Event.{Event}
use Rattle.node_machine.specs.Parts.{MonitorPart, PartState, Fact}
use Rattle.node_machine.specs.Monitor.{recorded, offered_car, ended_by, IsLater, IsRequest, AreLater, IsBacked}
use Rattle.node_machine.specs.Node.{node}
use Rattle.node_machine.specs.Same.{Among, IsBefore}
use Rattle.commit_boxcar.specs.declared.room.Taken.{Taken}

-- The requests of the next car, of each worker the last request that was taken, and the last one without those of the next car.
pub record InRoom : Type 0 where
  pub requests : List MonitorRecord
  pub last : List (Option Taken)
  pub written : List (Option Taken)

-- nothing was taken of any worker
abbrev pub nobody : List (Option Taken)
nobody = replicate 17 None

-- the records of this run that have landed, those of the car that is being written, and those that were taken for the next one
abbrev pub line_of : MonitorPart → List MonitorRecord → List MonitorRecord
line_of part room = recorded part.events ++ (offered_car part.events ++ room)

-- the record is later than each of the line of its worker
abbrev pub IsNext : List MonitorRecord → MonitorRecord → Type 0
IsNext line x = (y : MonitorRecord) → Among line y → IsLater y x

-- each record of its worker in the line is this one, or is earlier
abbrev pub MayBeLast : List MonitorRecord → MonitorRecord → Type 0
MayBeLast line x = (y : MonitorRecord) → Among line y → (y ≡ x) ⊎ IsLater y x

-- Of these requests, in order, those are taken behind the line that are later than all before them of their worker; the others are passed over.
abbrev pub AreTaken : List MonitorRecord → List MonitorRecord → List MonitorRecord → Type 0
AreTaken line [] taken = taken ≡ []
AreTaken line (x ∷ xs) taken =
    (IsNext line x × ((rest : List MonitorRecord) × (taken ≡ x ∷ rest) × AreTaken (line ++ x ∷ []) xs rest))
    ⊎ ((IsNext line x → ⊥) × AreTaken line xs taken)

-- a record that ends an attempt of this run, of which all that it asks is known
pub record IsAsked (known : Fact → Type 0) (epoch : ℕ) (x : MonitorRecord) : Type 0 where
  pub request : IsRequest epoch x
  pub valid : is_monitor_record x ≡ true
  pub backed : IsBacked known x

-- the note is of no part, and has seen what the request asks
pub record IsWaiting (opening : List PartState) (epoch : ℕ) (note : Sight Event) (request : MonitorRecord) : Type 0 where
  pub note_is : note.part ≡ None
  pub asked : IsAsked (Knows node opening note) epoch request

-- behind so many places of earlier runs the record stands in the line at this place
pub record StandsIn (places : ℕ) (line : List MonitorRecord) (item : MonitorRecord) (place : ℕ) : Type 0 where
  pub index : ℕ
  pub place_is : place ≡ places + index + 1
  pub at : slice_get line index ≡ Some item

-- a worker's entry names a request of this worker, and where it stands
pub record IsEntry (places : ℕ) (line : List MonitorRecord) (worker : ℕ) (e : Taken) : Type 0 where
  pub tx : Transid
  pub ends : ended_by e.request ≡ Some tx
  pub worker_is : tx.worker ≡ worker
  pub stands : StandsIn places line e.request e.place

abbrev pub AreEntries : ℕ → List MonitorRecord → List (Option Taken) → Type 0
AreEntries places line last = (worker : ℕ) (e : Taken) → slice_get last worker ≡ Some (Some e) → IsEntry places line worker e

-- the worker's entry is this request, or a later one
pub record IsKept (last : List (Option Taken)) (t : Transid) : Type 0 where
  pub entry : Taken
  pub at : slice_get last t.worker ≡ Some (Some entry)
  pub tx : Transid
  pub ends : ended_by entry.request ≡ Some tx
  pub reaches : (t ≡ tx) ⊎ IsBefore t tx

abbrev pub AreKept : List MonitorRecord → List (Option Taken) → Type 0
AreKept line last = (y : MonitorRecord) (t : Transid) → Among line y → ended_by y ≡ Some t → IsKept last t

-- nothing was taken of the attempt's worker, or an earlier attempt was last
abbrev pub IsFree : List (Option Taken) → Transid → Type 0
IsFree last t = (e : Taken) (u : Transid) → slice_get last t.worker ≡ Some (Some e) → ended_by e.request ≡ Some u → IsBefore u t

-- the request's place, where its worker's entry is this very request
abbrev pub HasPlace : List (Option Taken) → MonitorRecord → Option ℕ → Type 0
HasPlace last x (Some place) = (t : Transid) × (ended_by x ≡ Some t) × (slice_get last t.worker ≡ Some (Some (record { request = x; place = place })))
HasPlace last x None = (t : Transid) (place : ℕ) → ended_by x ≡ Some t → slice_get last t.worker ≡ Some (Some (record { request = x; place = place })) → ⊥

-- A number that rises with the attempts of a worker; 0 where there is none.
abbrev pub rank_of : Option Transid → ℕ
rank_of None = 0
rank_of (Some t) = 8 * t.ordinal + t.attempt

abbrev pub rank_at : Option Taken → ℕ
rank_at None = 0
rank_at (Some e) = rank_of (ended_by e.request)

-- the ranks of all workers' last requests
abbrev pub total : List (Option Taken) → ℕ
total [] = 0
total (o ∷ os) = rank_at o + total os

-- The line may be recorded in its order, and the table has the last request of each worker in it.
pub record IsLine (known : Fact → Type 0) (epoch places : ℕ) (line : List MonitorRecord) (last : List (Option Taken)) : Type 0 where
  pub each : (x : MonitorRecord) → Among line x → IsAsked known epoch x
  pub later : AreLater [] line
  pub entries : AreEntries places line last
  pub kept : AreKept line last
  -- no more requests were taken than the ranks count
  pub counted : length line ≤ total last
  pub many : length last ≡ 17
