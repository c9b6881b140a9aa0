use Rattle.std.proofs.Common.{sym, subst, ◌∙◌}
use Rattle.node_machine.specs.Opening.{Found}
use Rattle.tmf_model.specs.declared.transid.Transid.{Transid}
use Rattle.commit_boxcar.specs.Settled.{IsOfRun}
use Rattle.disc_process.specs.Disc.{AreTrails}
use Rattle.one_node.specs.OneNode.{AreOnly, one_found}
use Rattle.one_node.proofs.OnlyDisc.{have_only}
use Rattle.one_node.proofs.work.committed.Goals as goal

pub run-requires : goal.run-requires
run-requires g c = record {
  discs = have_only c.args.discs.now c.end.result.discs c.requires.discs (subst AreOnly (sym c.end.ensures.discs) c.requires.work.0.discs);
  trails = subst (λ (f : Found). AreTrails f.config c.args.trails.now) (sym c.requires.found) c.requires.trails;
}

pub settle-requires : goal.settle-requires
settle-requires g c = record {
  run =
      subst (λ (f : Found). IsOfRun f c.in-Ok.flushed.tx) (sym c.requires.found) (subst (λ (t : Transid). IsOfRun one_found t) (sym (c.in-Ok.ensures.txn.tx ∙ c.end.ensures.tx)) c.requires.work.0.of_run);
}
