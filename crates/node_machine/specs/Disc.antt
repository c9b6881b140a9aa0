-- What may happen at a disc, what it asks of the other parts, and what the disc makes true for them.
use Rattle.std.specs.Prelude.{◌≡◌, ◌⊎◌, ℕ, ◌+◌, ◌-◌, ◌<◌, ◌≤◌, Bool, true, false, List, [], ◌∷◌, length, Option, Some, None, IsSome, Ok, Err, bytes_eq}
use Rattle.std.specs.List.{IsDistinct}
use Rattle.tmf_model.specs.Effect.{applied}
use Rattle.tmf_model.specs.RecordMap.{RecordMap}
use Rattle.tmf_model.specs.declared.script.Close.TheVariants.{Abort}
use Rattle.tmf_model.specs.declared.script.Op.{Op}
use Rattle.tmf_model.specs.declared.script.Op.TheVariants.{Put, Add, Del, Read as ReadOp, Lock as LockOp}
use Rattle.tmf_model.specs.declared.transid.Transid.{Transid}
use Rattle.trail_files.specs.MonitorOrder.{is_same_transid}
use Rattle.trail_files.specs.declared.audit_record.AuditKind.TheVariants.{Change, Undo as UndoKind}
use Rattle.trail_files.specs.declared.audit_record.AuditRecord.{AuditRecord}
use Rattle.trail_files.specs.declared.monitor_record.MonitorRecord.TheVariants.{Commit}
use Rattle.node_machine.specs.declared.event.Cause.{Cause}
use Rattle.node_machine.specs.declared.event.Cause.TheVariants.{Busy, BusyFile, Full, Refused, Dumping}
use Rattle.node_machine.specs.declared.event.DiscEvent.{DiscEvent}
use Rattle.node_machine.specs.declared.event.DiscEvent.TheVariants.{Write, Read, Lock, Turn, Undo, Close, Release, Draw, Drawn, Low, Lowered, Start, Raise, Failed}
use Rattle.node_machine.specs.Parts.{Entry, DumpStart, DiscPart, Fact}
use Rattle.node_machine.specs.Parts.Fact.{Enlisted, Finished, Decided, Closed, Made, Durable, Recorded, Started, Over, Floor}
use Rattle.node_machine.specs.Same.{Among}
use Rattle.node_machine.specs.Made.{made, up_to, next_position, position_before, changes_left, last_write, has_closed, has_undone, has_released, map_of, values_after, file_holder, holder, is_changing, volume_of, home_block, is_in_block, drawing, drawn, lowering, lowered, dumps_begun, starts, under_way, rest_start}

-- it has not closed, undone or released here
pub record MayAct (s : DiscPart) (t : Transid) : Type 0 where
  pub unclosed : has_closed s.events t ≡ false
  pub nothing_undone : has_undone s.events t ≡ false
  pub unreleased : has_released s.events t ≡ false

-- nobody, or this one
abbrev pub IsNoOther : Option Transid → Transid → Type 0
IsNoOther holder t = (holder ≡ None) ⊎ (holder ≡ Some t)

-- another one
pub record IsOther (h t : Transid) : Type 0 where
  pub differs : is_same_transid h t ≡ false

-- the file is on this volume
abbrev pub IsHere : DiscPart → ℕ → Type 0
IsHere s file = volume_of s.config file ≡ s.number

-- this is said of the present values; of a volume that tells none it is said of some values
abbrev pub OfValues : Option (List Entry) → List DiscEvent → (RecordMap → Type 0) → Type 0
OfValues None events says = (values : RecordMap) × says values
OfValues (Some entries) events says = says (values_after (map_of entries) events)

-- a transaction that may act has taken the key
pub record MayTake (s : DiscPart) (t : Transid) (file : ℕ) (key : List ℕ) : Type 0 where
  pub here : IsHere s file
  pub acts : MayAct s t
  pub free : IsNoOther (holder s.events file key) t

-- the key takes room: it has a value, or is held by a change
abbrev pub TakesRoom : RecordMap → List DiscEvent → ℕ → List ℕ → Type 0
TakesRoom values events file key = IsSome (values file key) ⊎ (is_changing events file key ≡ true)

-- the key takes room already, or the keys of its block that do are among fewer than 62
abbrev pub HasRoomFor : DiscPart → RecordMap → ℕ → List ℕ → Type 0
HasRoomFor s values file key =
    TakesRoom values s.events file key
    ⊎ ((keys : List (List ℕ)) × (length keys < 62)
    × ((other : List ℕ) → home_block s.config file other ≡ home_block s.config file key → TakesRoom values s.events file other → Among keys other))

-- the key takes no room yet, and 62 keys of its block, no two the same, do
pub record HasNoRoomFor (s : DiscPart) (values : RecordMap) (file : ℕ) (key : List ℕ) : Type 0 where
  pub absent : values file key ≡ None
  pub unchanged : is_changing s.events file key ≡ false
  pub keys : List (List ℕ)
  pub many : 62 ≤ length keys
  pub distinct : IsDistinct bytes_eq keys
  pub each : (other : List ℕ) → Among keys other → (home_block s.config file other ≡ home_block s.config file key) × TakesRoom values s.events file other

abbrev pub IsPut : Op → Type 0
IsPut (Put value) = Unit {0}
IsPut _ = ⊥

-- the operation may change a record
abbrev pub IsChange : Op → Type 0
IsChange ReadOp = ⊥
IsChange LockOp = ⊥
IsChange (Put value) = Unit {0}
IsChange (Add amount) = Unit {0}
IsChange Del = Unit {0}

-- whether the operation locks a whole file
abbrev pub is_lock : Op → Bool
is_lock (Put value) = false
is_lock (Add amount) = false
is_lock Del = false
is_lock ReadOp = false
is_lock LockOp = true

-- a put needs room
abbrev pub HasRoomAt : DiscPart → RecordMap → ℕ → List ℕ → Op → Type 0
HasRoomAt s values file key (Put value) = HasRoomFor s values file key
HasRoomAt s values file key _ = Unit {0}

-- the record tells what the operation does to the value that is there, and there is room
pub record TellsChange (s : DiscPart) (r : AuditRecord) (op : Op) (values : RecordMap) : Type 0 where
  pub before : r.before ≡ values r.file r.key
  pub after : applied op r.before ≡ Ok r.after
  pub room : HasRoomAt s values r.file r.key op

pub record MayWrite (s : DiscPart) (r : AuditRecord) (op : Op) : Type 0 where
  pub takes : MayTake s r.tx r.file r.key
  pub op_changes : IsChange op
  pub kind : r.kind ≡ Change
  pub disc : r.disc ≡ s.number
  pub position : r.position ≡ next_position s
  pub told : OfValues s.base s.events (TellsChange s r op)

pub record MayRead (s : DiscPart) (t : Transid) (file : ℕ) (key : List ℕ) (value : Option (List ℕ)) : Type 0 where
  pub takes : MayTake s t file key
  pub told : OfValues s.base s.events (λ values. value ≡ values file key)

-- no other transaction holds the file or a key of it
pub record MayLock (s : DiscPart) (t : Transid) (file : ℕ) : Type 0 where
  pub here : IsHere s file
  pub acts : MayAct s t
  pub free : IsNoOther (file_holder s.events file) t
  pub keys_free : (key : List ℕ) → IsNoOther (holder s.events file key) t

-- The step was turned away for a reason that stands. A step on a key is turned away for its key's holder, one that locks a file for a holder of the file or of a key of it.
abbrev pub MayTurn : DiscPart → Transid → Cause → Type 0
MayTurn s t (Busy step h) = IsHere s step.file × IsOther h t × (holder s.events step.file step.key ≡ Some h) × (is_lock step.op ≡ false)
MayTurn s t (BusyFile file h) = IsHere s file × IsOther h t × ((file_holder s.events file ≡ Some h) ⊎ ((key : List ℕ) × (holder s.events file key ≡ Some h)))
MayTurn s t (Full step) = MayTake s t step.file step.key × IsPut step.op × OfValues s.base s.events (λ values. HasNoRoomFor s values step.file step.key)
MayTurn s t (Refused step reason) = MayTake s t step.file step.key × OfValues s.base s.events (λ values. applied step.op (values step.file step.key) ≡ Err reason)
MayTurn s t Dumping = IsSome (under_way s.events)

-- the record takes back its transaction's newest change that is left
pub record MayUndo (s : DiscPart) (r : AuditRecord) : Type 0 where
  pub change : AuditRecord
  pub others : List AuditRecord
  pub newest : changes_left s.events r.tx ≡ change ∷ others
  pub file : r.file ≡ change.file
  pub key : r.key ≡ change.key
  pub after : r.after ≡ change.before
  pub kind : r.kind ≡ UndoKind
  pub disc : r.disc ≡ s.number
  pub position : r.position ≡ next_position s
  pub told : OfValues s.base s.events (λ values. r.before ≡ values r.file r.key)

-- behind the block's last record, which its content on the volume lacks
pub record MayDraw (s : DiscPart) (file block position : ℕ) : Type 0 where
  pub here : IsHere s file
  pub idle : drawing s.events file block ≡ None
  pub last : AuditRecord
  pub is_made : Among (made s.events) last
  pub in_block : is_in_block s.config file block last ≡ true
  pub at : last.position ≡ position
  pub none_behind : (r : AuditRecord) → Among (made s.events) r → is_in_block s.config file block r ≡ true → r.position ≤ position
  pub rises : drawn (position_before s) s.events file block < position

-- Below the position nothing is unfinished: each transaction with a record there has released, and if it was backed out, has no record
-- from it on.
pub record IsQuiet (s : DiscPart) (position : ℕ) : Type 0 where
  pub reached : position ≤ next_position s
  pub released : (r : AuditRecord) → Among (made s.events) r → r.position < position → has_released s.events r.tx ≡ true
  pub undone : (r other : AuditRecord) → Among (made s.events) r → r.position < position → has_undone s.events r.tx ≡ true
      → Among (made s.events) other → is_same_transid other.tx r.tx ≡ true → other.position < position

-- the greatest such position
pub record IsGreatestQuiet (s : DiscPart) (position : ℕ) : Type 0 where
  pub quiet : IsQuiet s position
  pub greatest : (other : ℕ) → IsQuiet s other → other ≤ position

-- a record below the low position to be is in its block on the volume, and nothing is being written
pub record MayLower (s : DiscPart) (position : ℕ) : Type 0 where
  pub greatest : IsGreatestQuiet s position
  pub rises : lowered s.low s.events ≤ position
  pub written : (r : AuditRecord) → Among (made s.events) r → r.position < position → r.position ≤ drawn (position_before s) s.events r.file (home_block s.config r.file r.key)
  pub idle : (file block : ℕ) → drawing s.events file block ≡ None
  pub still : lowering s.events ≡ None

pub record MayStart (s : DiscPart) (number start : ℕ) : Type 0 where
  pub next : number ≡ dumps_begun s.events + 1
  pub alone : under_way s.events ≡ None
  pub greatest : IsGreatestQuiet s start
  pub low : lowered s.low s.events ≤ start

-- the rest start does not fall; the first one is the start of the dump
abbrev pub MayRest : Option ℕ → Option ℕ → ℕ → Type 0
MayRest (Some old) (Some new) start = old ≤ new
MayRest (Some old) None start = ⊥
MayRest None (Some new) start = new ≡ start
MayRest None None start = Unit {0}

pub record MayRaise (s : DiscPart) (number : ℕ) (rest : Option ℕ) : Type 0 where
  pub dump : DumpStart
  pub way : under_way s.events ≡ Some dump
  pub is_it : dump.number ≡ number
  pub rests : MayRest (rest_start s.rest s.events) rest dump.start

-- which event a disc may have
abbrev pub DiscMay : DiscPart → DiscEvent → Type 0
DiscMay s (Write r op) = MayWrite s r op
DiscMay s (Read t file key value) = MayRead s t file key value
DiscMay s (Lock t file) = MayLock s t file
DiscMay s (Turn t cause) = MayTurn s t cause
DiscMay s (Undo r) = MayUndo s r
DiscMay s (Close t) = MayAct s t
DiscMay s (Release t) = has_released s.events t ≡ false
DiscMay s (Draw file block position) = MayDraw s file block position
DiscMay s (Drawn file block) = IsSome (drawing s.events file block)
DiscMay s (Low position by) = MayLower s position
DiscMay s Lowered = IsSome (lowering s.events)
DiscMay s (Start number start item) = MayStart s number start
DiscMay s (Raise number rest) = MayRaise s number rest
DiscMay s (Failed by) = Unit {0}

-- its transaction is to be backed out
abbrev pub IsBackedOut : (Fact → Type 0) → Transid → Type 0
IsBackedOut true_ t = (discs : List ℕ) × true_ (Decided t Abort discs)

-- a step that was turned away for want of room or for its operation is of a transaction that the disc knows
abbrev pub TurnAsks : (Fact → Type 0) → ℕ → Transid → Cause → Type 0
TurnAsks true_ disc t (Full step) = true_ (Enlisted t disc)
TurnAsks true_ disc t (Refused step reason) = true_ (Enlisted t disc)
TurnAsks true_ disc t _ = Unit {0}

-- what an event of a disc asks of the true facts
abbrev pub DiscAsks : (Fact → Type 0) → DiscPart → DiscEvent → Type 0
DiscAsks true_ s (Write r op) = true_ (Enlisted r.tx s.number)
DiscAsks true_ s (Read t file key value) = true_ (Enlisted t s.number)
DiscAsks true_ s (Lock t file) = true_ (Enlisted t s.number)
DiscAsks true_ s (Turn t cause) = TurnAsks true_ s.number t cause
DiscAsks true_ s (Undo r) = IsBackedOut true_ r.tx
DiscAsks true_ s (Close t) = true_ (Enlisted t s.number) × true_ (Finished t)
DiscAsks true_ s (Release t) = ((place : ℕ) × true_ (Recorded (Commit t) place)) ⊎ (IsBackedOut true_ t × (changes_left s.events t ≡ []))
DiscAsks true_ s (Draw file block position) = true_ (Durable s.number position)
DiscAsks true_ s (Low position by) = true_ (Durable s.number (position - 1))
DiscAsks true_ s (Raise number rest) = true_ (Over s.number number rest)
DiscAsks true_ s _ = Unit {0}

-- at most what is there, where anything is
abbrev pub IsUpTo : Option ℕ → ℕ → Type 0
IsUpTo None position = Unit {0}
IsUpTo (Some bound) position = position ≤ bound

abbrev pub start_of : Option DumpStart → Option ℕ
start_of None = None
start_of (Some dump) = Some dump.start

-- neither a low position, nor the dump that the disc counts on, nor one under way needs a record below the position
pub record IsFloor (s : DiscPart) (position : ℕ) : Type 0 where
  pub low : position ≤ lowered s.low s.events
  pub lowering_ : IsUpTo (lowering s.events) position
  pub rest : IsUpTo (rest_start s.rest s.events) position
  pub way : IsUpTo (start_of (under_way s.events)) position

-- which facts a disc makes true
abbrev pub DiscMakes : DiscPart → Fact → Type 0
DiscMakes s (Closed t disc position) = (s.number ≡ disc) × (has_closed s.events t ≡ true) × (last_write s.events t ≡ position)
DiscMakes s (Made disc position records) = (s.number ≡ disc) × (s.first ≤ position + 1) × (position < next_position s) × (up_to position (made s.events) ≡ records)
DiscMakes s (Started disc number start) = (s.number ≡ disc) × Among (starts s.events) (record { number = number; start = start })
DiscMakes s (Floor disc position) = (s.number ≡ disc) × IsFloor s position
DiscMakes s _ = ⊥
