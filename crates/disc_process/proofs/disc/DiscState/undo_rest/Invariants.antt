use Rattle.std.proofs.Common.{◌≤◌, length}
use Rattle.node_machine.specs.Made.{changes_left}
use Rattle.disc_process.specs.Later.{IsLaterDisc}
use Rattle.disc_process.specs.Undo.{HasUndoneSome}
use Rattle.disc_process.proofs.disc.DiscState.undo_rest.Given as goal

abbrev pub invariant-loop-t : goal.invariant-loop-t
invariant-loop-t g l = HasUndoneSome g.J.Run.opening l.fn.self l.self l.t × IsLaterDisc g.J.Run.opening l.fn.self l.self × (g.D.Disk.faults l.fn.self.blocks.device ≤ g.D.Disk.faults l.self.blocks.device)

abbrev pub decreases-loop-t : goal.decreases-loop-t
decreases-loop-t g l = length (changes_left l.self.part.events l.t)
