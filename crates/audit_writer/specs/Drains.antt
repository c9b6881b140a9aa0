-- The writer at its end of the hand-off queue.
use Rattle.std.specs.Prelude.{◌≡◌, ◌⊎◌, ◌+◌, ℕ, List, length, Option, MatchOption}
use mathlib.Core.List.{IsPrefix}
use Rattle.disk_model.specs.declared.disk.Disk as disk
use Rattle.chronicle.specs.Seats.{Sight, Knows}
use Rattle.trail_files.specs.declared.audit_record.AuditRecord.{AuditRecord}
use Rattle.trail_files.specs.declared.rules.Rules.{Rules}
use Rattle.trail_files.specs.Holds.{Keeps}
use Rattle.node_machine.specs.declared.event.Event.{Event}
use Rattle.node_machine.specs.Parts.{PartState}
use Rattle.node_machine.specs.Parts.Fact.{Durable}
use Rattle.node_machine.specs.Opening.{Found}
use Rattle.node_machine.specs.Node.{node}
use Rattle.audit_writer.specs.Handing.{disc_of}
use Rattle.audit_writer.specs.Parcels.{AreMadeBehind, Packed, QueueEnd, Sharing, Follows, Has, reached, and_then, popping}
use Rattle.audit_writer.specs.Writer.{Writer, handed_in}
use Rattle.audit_writer.specs.Writes.{HasUpTo}

-- The records are some that a disc of this trail has made, as the seat knows, and all in front of them is durable, as the seat knows, or the
-- writer has it.
pub record MayTake {D : Type 0} (opening : List PartState) (found : Found) (rules : Rules) (w : Writer D) (caller : Sight Event) (disc : ℕ) (records : List AuditRecord) : Type 0 where
  pub made : AreMadeBehind opening found rules w.seat.part.number caller disc records
  pub before : ℕ
  pub reaches : before + 1 ≡ made.volume.next + length made.front
  pub there : Knows node opening caller (Durable disc before) ⊎ HasUpTo w disc before

-- what callers see of a writer at its end of a queue
pub record AtQueue (D : Type 0) : Type 0 where
  pub writer : Writer D
  pub end : QueueEnd

abbrev pub at_queue : {D : Type 0} → Writer D → QueueEnd → AtQueue D
at_queue writer end = record { writer = writer; end = end }

-- the writer has the records of each disc up to where it was told that they were pushed
abbrev pub HasAllTold : {D : Type 0} → AtQueue D → Type 0
HasAllTold v = (x : ℕ × ℕ) → Has v.end.pass.told x → (x.1 ≡ 0) ⊎ HasUpTo v.writer x.0 x.1

-- The writer has the records of all parcels that were popped, but for one at most, which it holds and takes in next.
pub record IsTied {D : Type 0} (w : Writer D) (held : Option Packed) (pass : Sharing) : Type 0 where
  pub popped : List (ℕ × ℕ)
  pub view : pass ≡ popping popped pass.told
  pub taken : List (ℕ × ℕ)
  pub has : (d : ℕ) → (reached taken d ≡ 0) ⊎ HasUpTo w d (reached taken d)
  pub rest : MatchOption held (popped ≡ taken) (λ p. (popped ≡ and_then p taken) × Follows (reached taken (disc_of p.records)) p)

-- What a call that takes parcels in and lands batches keeps: the part, the bounds and the device, and all that was handed in, in front of
-- what it has taken in.
pub record Drains {D : Type 0} (kind : disk.Ghosts D) (v w : Writer D) : Type 0 where
  pub handed : IsPrefix (handed_in v) (handed_in w)
  pub config : w.seat.part.config ≡ v.seat.part.config
  pub number : w.seat.part.number ≡ v.seat.part.number
  pub firsts : w.seat.part.firsts ≡ v.seat.part.firsts
  pub bounds : w.bounds ≡ v.bounds
  pub seat : w.seat.sight.part ≡ v.seat.sight.part
  pub begins : IsPrefix v.seat.sight.seen w.seat.sight.seen
  pub trail : Keeps kind v.trail w.trail
