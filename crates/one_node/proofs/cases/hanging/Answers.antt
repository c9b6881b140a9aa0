use Rattle.std.proofs.Common.{sym, subst}
use Rattle.node_machine.specs.Opening.{Found}
use Rattle.tmf_model.specs.declared.transid.Transid.{Transid}
use Rattle.commit_boxcar.specs.Settled.{IsOfRun}
use Rattle.disc_process.specs.Disc.{AreTrails}
use Rattle.one_node.specs.OneNode.{AreOnly, one_found}
use Rattle.one_node.proofs.OnlyDisc.{have_only}
use Rattle.one_node.proofs.cases.hanging.Goals as goal

pub back_out-requires : goal.back_out-requires
back_out-requires g c = record {
  discs = have_only c.args.discs.now c.quit.result.discs c.requires.discs (subst AreOnly (sym c.quit.ensures.discs) c.requires.active.discs);
  trails = subst (λ (f : Found). AreTrails f.config c.args.trails.now) (sym c.requires.found) c.requires.trails;
  run = subst (λ (f : Found). IsOfRun f c.quit.result.tx) (sym c.requires.found) (subst (λ (t : Transid). IsOfRun one_found t) (sym c.quit.ensures.tx) c.requires.active.of_run);
}
