use Rattle.std.proofs.Common.{sym, subst}
use Rattle.disc_process.specs.Disc.{AreTrails}
use Rattle.one_node.specs.OneNode.{one_config}
use Rattle.one_node.proofs.OneNode.{one_writer}
use Rattle.one_node.proofs.tests.run_queued.Goals as goal

pub done-requires-clause-trails : goal.done-requires-clause-trails
done-requires-clause-trails g c κs within = subst (AreTrails one_config) (sym c.one-trails.ensures) (one_writer c.in_ok-writer.writer c.in_ok-writer.ensures)
