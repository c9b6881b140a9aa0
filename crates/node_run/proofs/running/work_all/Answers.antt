use Rattle.std.proofs.Common.{ap, sym, subst, length, List, ◌∙◌, ℕ}
use Rattle.std.proofs.lemmas.List.{length-map}
use Rattle.disc_lock.specs.Locks.{number_of}
use Rattle.run_threads.specs.Hands.{HaveBegun}
use Rattle.node_run.proofs.Works.{is_work, run_named}
use Rattle.node_run.proofs.running.work_all.Goals as goal

pub take_turns-requires-clause-named : goal.take_turns-requires-clause-named
take_turns-requires-clause-named g c κs within =
    run_named g.D.Disk g.J.Run.opening g.J.NodeRun.found g.J.MonitorRun.before g.J.NodeRun.rules g.J.NodeRun.faults g.J.NodeRun.premise g.J.DeviceRun.devices c.requires.name

pub take_turns-requires-clause-work : goal.take_turns-requires-clause-work
take_turns-requires-clause-work g c κs within =
    is_work g.J.Run.opening g.J.NodeRun.found g.J.MonitorRun.before g.J.NodeRun.rules g.J.NodeRun.faults g.J.NodeRun.premise g.J.DeviceRun.devices
    c.args.run.config.now c.args.run.phase.now c.args.run.epoch c.args.node.now.steps c.args.node.now.monitor c.args.stage.now.rows _ _ _
    c.requires.name c.requires.run c.requires.node c.requires.locked c.trails.ensures c.discs.ensures c.dumpers.ensures

pub take_turns-requires-clause-begun : goal.take_turns-requires-clause-begun
take_turns-requires-clause-begun g c κs within =
    subst (λ (n : ℕ). HaveBegun n c.args.run.phase.now c.args.hands.now)
    (sym (sym (length-map _ number_of) ∙ ap (λ (l : List ℕ). length l) c.discs.ensures)) c.requires.begun
