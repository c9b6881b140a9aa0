use Rattle.std.proofs.Common.{◌≤◌, length}
use Rattle.audit_writer.specs.Writes.{Writes, HasWritten}
use Rattle.audit_writer.proofs.writer.WriterState.land_all.Given as goal

abbrev pub invariant-loop-self : goal.invariant-loop-self
invariant-loop-self g l = Writes g.D.Disk l.fn.self l.self × HasWritten l.fn.self l.self × (g.D.Disk.faults l.fn.self.trail.device ≤ g.D.Disk.faults l.self.trail.device)

abbrev pub decreases-loop-self : goal.decreases-loop-self
decreases-loop-self g l = length l.self.queue
