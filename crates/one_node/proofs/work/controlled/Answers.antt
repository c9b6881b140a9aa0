use Rattle.std.proofs.Common.{sym, subst}
use Rattle.node_machine.specs.Opening.{Found}
use Rattle.disc_process.specs.Disc.{AreTrails}
use Rattle.one_node.proofs.work.controlled.Goals as goal

pub control-requires-clause-trails : goal.control-requires-clause-trails
control-requires-clause-trails g c = subst (λ (f : Found). AreTrails f.config c.args.trails.now) (sym c.requires.found) c.requires.trails
