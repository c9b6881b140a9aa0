use Rattle.disk_model.proofs.Picking.{IsPickedUpTo, left_from}
use Rattle.disk_model.proofs.mem_disk.scatter_files.Given as goal

abbrev pub invariant-loop-next : goal.invariant-loop-next
invariant-loop-next l = IsPickedUpTo l.cut l.initial.draws.state l.initial.files l.files l.next l.draws.state

abbrev pub decreases-loop-next : goal.decreases-loop-next
decreases-loop-next l = left_from l.next
