-- What callers outside a writer's lock know, and what a flush of records under it has come to.
use Rattle.std.specs.Prelude.{◌≡◌, ℕ}
use Rattle.disk_model.specs.Held.{Rose}
use Rattle.chronicle.specs.Seats.{Sight, HasNewlySeen}
use Rattle.node_machine.specs.declared.event.By.{By}
use Rattle.node_machine.specs.declared.event.Event.{Event}
use Rattle.node_machine.specs.declared.event.Event.TheVariants.{OfTrail}
use Rattle.node_machine.specs.declared.event.TrailEvent.TheVariants.{Failed}
use Rattle.node_machine.specs.Opening.{trail_part}
use Rattle.audit_writer.specs.Writer.{Writer}
use Rattle.audit_writer.specs.Writes.{HasStopped}
use Rattle.audit_writer.specs.declared.lock.FlushRefused.{FlushRefused}
use Rattle.audit_writer.specs.declared.lock.FlushRefused.TheVariants as refused

-- where the trail's device failed, the caller has seen that it failed for it, and had not seen that before
abbrev pub HasFailed : ℕ → By → Sight Event → Sight Event → FlushRefused → Type 0
HasFailed trail by old new (refused.Failed device) = (device ≡ trail) × HasNewlySeen (trail_part trail) (OfTrail (Failed by)) old new
HasFailed trail by old new refused.NoMemory = Unit {0}

-- a failed call stands behind what has landed in this call, and the device's count rose; where memory ran out the writer is as before
abbrev pub IsFlushStop : {D : Type 0} → (D → ℕ) → By → Writer D → Writer D → FlushRefused → Type 0
IsFlushStop faults by v w (refused.Failed device) = HasStopped by v w × Rose (faults v.trail.device) (faults w.trail.device)
IsFlushStop faults by v w refused.NoMemory = w ≡ v

-- A hold of the lock of the trail with this number: a writer that is one of these stood behind it, and one stands there, of which this is so.
pub record WasHeld {D : Type 0} (IsOne : Writer D → Type 0) (trail : ℕ) (says : Writer D → Writer D → Type 0) : Type 0 where
  pub before : Writer D
  pub after : Writer D
  pub was_one : IsOne before
  pub is_one : IsOne after
  pub number_was : before.seat.part.number ≡ trail
  pub number_is : after.seat.part.number ≡ trail
  pub so : says before after
