-- What the calls that land batches make of a writer.
use Rattle.std.specs.Prelude.{◌≡◌, ◌≢◌, ◌⊎◌, ℕ, max, slice_index, ◌≤◌, ◌<◌, Bool, true, false, List, [], ◌∷◌, ◌++◌}
use mathlib.Core.List.{IsPrefix}
use Rattle.disk_model.specs.declared.disk.Disk as disk
use Rattle.chronicle.specs.Seats.{Sight, own_events}
use Rattle.trail_files.specs.declared.audit_record.AuditRecord.{AuditRecord}
use Rattle.trail_files.specs.Holds.{Keeps}
use Rattle.node_machine.specs.declared.event.By.{By}
use Rattle.node_machine.specs.declared.event.Event.{Event}
use Rattle.node_machine.specs.declared.event.Event.TheVariants.{OfTrail}
use Rattle.node_machine.specs.declared.event.TrailEvent.TheVariants.{Offer, Land, Failed}
use Rattle.node_machine.specs.Trail.{offered, trail_of, first_of}
use Rattle.node_machine.specs.Same.{Among}
use Rattle.audit_writer.specs.Writer.{Writer, handed_in, with_bounds}

-- Events by which batches come and go: a batch is offered where none is, and what is offered lands. Before and after them a batch is
-- offered or none is.
abbrev pub AreBatches : Bool → List Event → Bool → Type 0
AreBatches from [] to = from ≡ to
AreBatches true (OfTrail Land ∷ es) to = AreBatches false es to
AreBatches false (OfTrail (Offer file records) ∷ es) to = AreBatches true es to
AreBatches _ _ to = ⊥

-- whether there is a record
abbrev pub has_some : List AuditRecord → Bool
has_some [] = false
has_some (x ∷ xs) = true

-- whether a batch is offered
abbrev pub is_offered : {D : Type 0} → Writer D → Bool
is_offered w = has_some (offered w.seat.part.events)

-- What a call that lands batches or removes files keeps: the part, all that was handed in, the bounds and the device.
pub record Writes {D : Type 0} (kind : disk.Ghosts D) (v w : Writer D) : Type 0 where
  pub handed : handed_in w ≡ handed_in v
  pub config : w.seat.part.config ≡ v.seat.part.config
  pub number : w.seat.part.number ≡ v.seat.part.number
  pub firsts : w.seat.part.firsts ≡ v.seat.part.firsts
  pub bounds : w.bounds ≡ v.bounds
  pub seat : w.seat.sight.part ≡ v.seat.sight.part
  pub begins : IsPrefix v.seat.sight.seen w.seat.sight.seen
  pub trail : Keeps kind v.trail w.trail

-- the part has had batches alone
abbrev pub HasWritten : {D : Type 0} → Writer D → Writer D → Type 0
HasWritten v w = (es : List Event) × (own_events w.seat.sight ≡ own_events v.seat.sight ++ es) × AreBatches (is_offered v) es (is_offered w)

-- the part has had batches, and then a failed call
abbrev pub HasStopped : {D : Type 0} → By → Writer D → Writer D → Type 0
HasStopped by v w = (es : List Event) × (own_events w.seat.sight ≡ own_events v.seat.sight ++ (es ++ OfTrail (Failed by) ∷ [])) × AreBatches (is_offered v) es (is_offered w)

-- one of the records is of the disc and reaches the position
pub record HasRecordTo (records : List AuditRecord) (disc position : ℕ) : Type 0 where
  pub item : AuditRecord
  pub is_there : Among records item
  pub of_disc : item.disc ≡ disc
  pub reaches : position ≤ item.position

-- the disc is of this trail, and its records up to the position were there at the opening or were handed in
abbrev pub HasUpTo : {D : Type 0} → Writer D → ℕ → ℕ → Type 0
HasUpTo w disc position =
    (trail_of w.seat.part.config disc ≡ w.seat.part.number) × ((position < first_of w.seat.part.firsts disc) ⊎ HasRecordTo (handed_in w) disc position)

-- a meeting: the part, the trail and what waits are as before
pub record HasTold {D : Type 0} (v w : Writer D) : Type 0 where
  pub trail : w.trail ≡ v.trail
  pub queue : w.queue ≡ v.queue
  pub bounds : w.bounds ≡ v.bounds
  pub part : w.seat.part ≡ v.seat.part
  pub mine : own_events w.seat.sight ≡ own_events v.seat.sight
  pub seat : w.seat.sight.part ≡ v.seat.sight.part
  pub begins : IsPrefix v.seat.sight.seen w.seat.sight.seen

-- a disc has told a bound: of it the greater one counts
pub record IsRaised (disc bound : ℕ) (old new : List ℕ) : Type 0 where
  pub mine : slice_index new disc ≡ max (slice_index old disc) bound
  pub others : (d : ℕ) → d ≢ disc → slice_index new d ≡ slice_index old d

-- a disc has told the writer a bound: of it the greater one counts, all else stays, and its seat has seen what the writer has
pub record HasToldBound {D : Type 0} (disc bound : ℕ) (seat : Sight Event) (v w : Writer D) : Type 0 where
  pub told : HasTold (with_bounds w.bounds v) w
  pub raised : IsRaised disc bound v.bounds w.bounds
  pub same : seat.seen ≡ w.seat.sight.seen
