-- What a state of a transaction is to its callers.
use Rattle.std.specs.Prelude.{◌≡◌, ℕ, ◌==◌, ◌<◌, ◌≤◌, ◌-◌, ◌&&◌, ◌⊎◌, Bool, true, not, nat_le, List, [], ◌∷◌, ◌++◌, length, Option, Some, None, if◌then◌else◌}
use Rattle.std.specs.Option.{option_map}
use Rattle.std.specs.List.{IsDistinct, list_any}
use mathlib.Core.List.{IsPrefix}
use Rattle.chronicle.specs.Seats.{Sight, Knows, HasGrown, HasLearned, IsUnion, own_events, part_state}
use Rattle.tmf_model.specs.declared.transid.Transid.{Transid}
use Rattle.node_machine.specs.declared.event.Event.{Event}
use Rattle.node_machine.specs.declared.event.Event.TheVariants.{OfDisc, OfWorker}
use Rattle.node_machine.specs.declared.event.WorkerEvent.TheVariants.{Begin, Enlist}
use Rattle.node_machine.specs.declared.event.DiscEvent.TheVariants.{Release}
use Rattle.node_machine.specs.Opening.{Found, opening_parts, disc_part, monitor_part}
use Rattle.txn_states.specs.declared.ended.Receipt.{Receipt}
use Rattle.node_machine.specs.Parts.{WorkerPart, Fact, PartState}
use Rattle.node_machine.specs.Parts.PartState.{Worker}
use Rattle.node_machine.specs.Parts.Fact.{Decided, Enlisted, Recorded}
use Rattle.node_machine.specs.Monitor.{IsFlushed}
use Rattle.node_machine.specs.Same.{Among, IsBefore}
use Rattle.node_machine.specs.Worker.{IsOwn, decision}
use Rattle.node_machine.specs.Node.{node}
use Rattle.node_machine.specs.Seats.{IsActive, IsCommitting}
use Rattle.tmf_model.specs.declared.script.Close.{Close}
use Rattle.tmf_model.specs.declared.script.Close.TheVariants.{Abort as Aborting, Commit as Committing}
use Rattle.trail_files.specs.declared.monitor_record.MonitorRecord.TheVariants.{Abort, Commit}

-- its identifier, the discs that it has enlisted, what its worker's seat has seen, and how many events a part may have before new work is refused
pub record Txn : Type 0 where
  pub tx : Transid
  pub discs : List ℕ
  pub seat : Sight Event
  pub steps : ℕ

-- the numbers of discs, no two the same
pub record AreDiscs (discs : List ℕ) : Type 0 where
  pub distinct : IsDistinct (λ a b. a == b) discs
  pub few : (d : ℕ) → list_any (λ other. other == d) discs ≡ true → d < 9

-- it is under way
pub record IsActiveTxn (opening : List PartState) (t : Txn) : Type 0 where
  pub active : IsActive opening t.seat t.tx t.discs
  pub discs : AreDiscs t.discs
  pub worker : 1 ≤ t.tx.worker

-- the discs with one more, where it is new
abbrev pub with_disc : ℕ → List ℕ → List ℕ
with_disc disc discs = if list_any (λ other. other == disc) discs then discs else discs ++ disc ∷ []

-- the events of enlisting a disc: none where it is not new
abbrev pub enlistings : Txn → ℕ → List Event
enlistings t disc = if list_any (λ other. other == disc) t.discs then [] else OfWorker (Enlist t.tx disc) ∷ []

-- its worker has had as many events as the node allows, and the disc is new to it
abbrev pub is_spent_for : Txn → ℕ → Bool
is_spent_for t disc = not (list_any (λ other. other == disc) t.discs) && nat_le t.steps (length (own_events t.seat))

-- the seat is of the same part, which has had these events more; what it had seen stands first in what it has seen, and what it knew it knows
pub record HasAdvanced (opening : List PartState) (old : Sight Event) (own : List Event) (new : Sight Event) : Type 0 where
  pub part : new.part ≡ old.part
  pub begins : IsPrefix old.seen new.seen
  pub events : own_events new ≡ own_events old ++ own
  pub kept : (f : Fact) → Knows node opening old f → Knows node opening new f

-- it is the same transaction with the same discs, and its worker has had these events more
pub record HasStepped (opening : List PartState) (old : Txn) (own : List Event) (new : Txn) : Type 0 where
  pub tx : new.tx ≡ old.tx
  pub discs : new.discs ≡ old.discs
  pub steps : new.steps ≡ old.steps
  pub seat : HasAdvanced opening old.seat own new.seat

-- the disc is enlisted: by one event where it was new
pub record HasEnlisted (opening : List PartState) (old : Txn) (disc : ℕ) (new : Txn) : Type 0 where
  pub tx : new.tx ≡ old.tx
  pub discs : new.discs ≡ with_disc disc old.discs
  pub steps : new.steps ≡ old.steps
  pub seat : HasAdvanced opening old.seat (enlistings old disc) new.seat
  pub knows : Knows node opening new.seat (Enlisted old.tx disc)
  pub active : IsActiveTxn opening new

-- the attempt has begun, by one event of its worker; neither that worker nor the monitor had as many events as the node allows
pub record HasBegun (opening : List PartState) (before : Sight Event) (t : Transid) (steps monitor : ℕ) (active : Txn) : Type 0 where
  pub worker_below : length (own_events before) < steps
  pub monitor_below : monitor < steps
  pub tx : active.tx ≡ t
  pub discs : active.discs ≡ []
  pub steps_same : active.steps ≡ steps
  pub seat : HasAdvanced opening before (OfWorker (Begin t) ∷ []) active.seat

-- the seat is as it was; the part is the worker's, which has as many events as the node allows, or else the monitor's, which has
pub record IsBeginRefusal (seat : Sight Event) (t : Transid) (steps monitor : ℕ) (left : Sight Event) (part : ℕ) : Type 0 where
  pub same : left ≡ seat
  pub spent : ((part ≡ t.worker - 1) × (steps ≤ length (own_events seat))) ⊎ ((part ≡ monitor_part) × (length (own_events seat) < steps) × (steps ≤ monitor))

-- its worker's seat and another have told each other what they had seen, and nothing else has changed
pub record HasMet (opening : List PartState) (old new : Txn) (other_old other_new : Sight Event) : Type 0 where
  pub tx : new.tx ≡ old.tx
  pub discs : new.discs ≡ old.discs
  pub steps : new.steps ≡ old.steps
  pub first : HasGrown old.seat new.seat
  pub second : HasGrown other_old other_new
  pub same : new.seat.seen ≡ other_new.seen
  pub both : IsUnion old.seat.seen other_old.seen other_new.seen
  pub first_learned : HasLearned node opening old.seat new.seat
  pub second_learned : HasLearned node opening other_old other_new
  pub told : (f : Fact) → Knows node opening other_old f → Knows node opening new.seat f
  pub tells : (f : Fact) → Knows node opening old.seat f → Knows node opening other_new f

-- it asks for no more changes, and is to be committed
pub record IsEndingTxn (opening : List PartState) (t : Txn) : Type 0 where
  pub committing : IsCommitting opening t.seat t.tx t.discs
  pub discs : AreDiscs t.discs
  pub worker : 1 ≤ t.tx.worker

-- The seat is a worker's, whose attempt is decided this way; whatever else the worker has decided came before.
pub record IsLastDecided (opening : List PartState) (v : Sight Event) (t : Transid) (close : Close) : Type 0 where
  pub part : WorkerPart
  pub at : part_state node opening v ≡ Some (Worker part)
  pub is_own : IsOwn part t
  pub decided : decision part.events t ≡ Some close
  pub last : (u : Transid) (other : Close) → decision part.events u ≡ Some other → (u ≡ t) ⊎ IsBefore u t

-- so it is in a run that opened with what it found
abbrev pub HasDecidedLast : List PartState → Txn → Close → Type 0
HasDecidedLast opening t close = (found : Found) → opening ≡ opening_parts found → IsLastDecided opening t.seat t.tx close

-- it is to be backed out
pub record IsAbortingTxn (opening : List PartState) (t : Txn) : Type 0 where
  pub decided : Knows node opening t.seat (Decided t.tx Aborting t.discs)
  pub last : HasDecidedLast opening t Aborting
  pub discs : AreDiscs t.discs

-- it has closed at each of these discs, and what it has changed there has landed
abbrev pub AreFlushed : List PartState → Txn → Type 0
AreFlushed opening t = (d : ℕ) → Among t.discs d → IsFlushed (Knows node opening t.seat) t.tx d

-- its audit has landed at each disc, and it is to be committed
pub record IsFlushedTxn (opening : List PartState) (t : Txn) : Type 0 where
  pub ending : IsEndingTxn opening t
  pub flushed : AreFlushed opening t

-- its commit is decided
pub record IsCommittedTxn (opening : List PartState) (t : Txn) : Type 0 where
  pub decided : Knows node opening t.seat (Decided t.tx Committing t.discs)
  pub last : HasDecidedLast opening t Committing
  pub flushed : AreFlushed opening t
  pub discs : AreDiscs t.discs

-- the monitor trail has its commit at this place; or, where no place is given, it was to be backed out and the trail has its abort
abbrev pub HasEnded : List PartState → Txn → Option ℕ → Type 0
HasEnded opening t (Some place) = Knows node opening t.seat (Recorded (Commit t.tx) place)
HasEnded opening t None = Knows node opening t.seat (Decided t.tx Aborting t.discs) × ((place : ℕ) × Knows node opening t.seat (Recorded (Abort t.tx) place))

-- what callers see of one that has ended
pub record EndedView : Type 0 where
  pub txn : Txn
  pub place : Option ℕ

-- it has ended, by a commit at its place or else by an abort
pub record IsEndedTxn (opening : List PartState) (e : EndedView) : Type 0 where
  pub ended : HasEnded opening e.txn e.place
  pub discs : AreDiscs e.txn.discs

-- where its commit stands; none after a backout
abbrev pub receipt_of : EndedView → Option Receipt
receipt_of e = option_map (λ place. record { tx = e.txn.tx; place = place }) e.place

-- its seat has seen its release at each disc that it has enlisted
abbrev pub HasReleasedAll : Txn → Type 0
HasReleasedAll t = (d : ℕ) → Among t.discs d → Among t.seat.seen (disc_part d, OfDisc (Release t.tx))
