-- The purge of a trail, of its writer as it stood behind its lock.
use Rattle.std.specs.Prelude.{◌≡◌, ◌≤◌, ℕ, Result, Ok, slice_index}
use Rattle.disk_model.specs.declared.disk.Disk as disk
use Rattle.disk_model.specs.declared.disk.DiskFault.{DiskFault}
use Rattle.audit_writer.specs.Purge.{HasPurged, HasRemoved}
use Rattle.audit_writer.specs.Writer.{Writer}
use Rattle.audit_writer.specs.Writes.{Writes}

-- the answer of a purge that is whole
abbrev pub whole : Result (Unit {0}) DiskFault
whole = Ok tt

-- A hold of the lock of the trail with this number, whose writer is one of these. It had been told that the disc with this number needs no record below this floor. In it exactly those files before the present one were removed in which all
-- records stand below the bounds that the writer had of their discs: the trail's part has had one purge, or no event where no file went. All else of the
-- writer stayed.
pub record WasPurged {D : Type 0} (kind : disk.Ghosts D) (IsOne : Writer D → Type 0) (trail number floor : ℕ) : Type 0 where
  pub before : Writer D
  pub after : Writer D
  pub is_one : IsOne before
  pub number_is : before.seat.part.number ≡ trail
  pub floor_told : floor ≤ slice_index before.bounds number
  pub removed : HasRemoved kind before.bounds before.trail after.trail whole
  pub told : HasPurged before after
  pub kept : Writes kind before after × (after.queue ≡ before.queue)
