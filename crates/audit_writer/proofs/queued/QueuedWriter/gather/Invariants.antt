use Rattle.std.proofs.Common.{◌≤◌}
use Rattle.audit_writer.specs.Drains.{Drains}
use Rattle.audit_writer.specs.Parcels.{HasTurned, IsSameEnd}
use Rattle.audit_writer.specs.Writes.{HasWritten}
use Rattle.audit_writer.proofs.queued.QueuedWriter.gather.Given as goal

abbrev pub invariant-loop : goal.invariant-loop
invariant-loop g l = Drains g.D.Disk l.fn.self.writer l.self.writer × HasWritten l.fn.self.writer l.self.writer × IsSameEnd l.fn.self.end l.self.end × (g.D.Disk.faults l.fn.self.writer.trail.device ≤ g.D.Disk.faults l.self.writer.trail.device) × HasTurned l.counter 0 l.fn.self.end l.self.end
