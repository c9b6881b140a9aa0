use Rattle.std.proofs.Common.{sym, subst}
use Rattle.node_machine.specs.Opening.{Found}
use Rattle.disc_process.specs.Disc.{AreTrails}
use Rattle.one_node.specs.OneNode.{AreOnly}
use Rattle.one_node.proofs.OnlyDisc.{have_only}
use Rattle.one_node.proofs.work.phase_of.Goals as goal

pub run-requires : goal.run-requires
run-requires g c = record {
  discs = have_only c.args.discs.now c.end.result.discs c.requires.discs (subst AreOnly (sym c.end.ensures.discs) c.requires.active.discs);
  trails = subst (λ (f : Found). AreTrails f.config c.args.trails.now) (sym c.requires.found) c.requires.trails;
}
