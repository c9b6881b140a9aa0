use Rattle.std.proofs.Common.{sym, subst, ◌∙◌}
use Rattle.tmf_model.specs.declared.config.Config.{Config}
use Rattle.disc_process.specs.Disc.{AreTrails, IsOpening}
use Rattle.one_disc.specs.OneDisc.{disc_config}
use Rattle.one_disc.proofs.OneDisc.{one_writer, the_opening}
use Rattle.one_disc.proofs.tests.locking.run_locked.Goals as goal

pub new-disc-requires : goal.new-disc-requires
new-disc-requires g c =
    subst (λ (k : Config). IsOpening g.D.Disk g.J.Run.opening g.J.NodeRun.found g.J.NodeRun.rules g.J.NodeRun.faults g.J.DeviceRun.devices k 1 c.args.blocks 1 _ c.dealt-first.result.2) (sym c.requires.config)
    (the_opening g.D.Disk g.J.Run.opening g.J.NodeRun.found g.J.NodeRun.rules g.J.NodeRun.faults g.J.NodeRun.premise g.J.DeviceRun.devices c.args.trail c.args.blocks c.requires.run c.dealt-first.result.2 c.dealt-first.ensures.disc)

pub locked-requires-clause-trails : goal.locked-requires-clause-trails
locked-requires-clause-trails g c = subst (AreTrails disc_config) (sym (c.as_slice.ensures.value ∙ c.in_ok-trails.ensures.items)) (one_writer c.in_ok-writer.writer c.in_ok-writer.ensures)
