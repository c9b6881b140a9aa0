use Rattle.std.proofs.Common.{◌≡◌, length}
use Rattle.disk_model.specs.MemDisk.{earlier_byte}
use Rattle.disk_model.proofs.base.earlier_byte.Given as goal

abbrev pub invariant-loop-range : goal.invariant-loop-range
invariant-loop-range l = earlier_byte l.rest l.at l.now ≡ earlier_byte l.replaced l.at l.now

abbrev pub decreases-loop-range : goal.decreases-loop-range
decreases-loop-range l = length l.rest
