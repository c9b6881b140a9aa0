use Rattle.node_run.proofs.Ends.{run_over}
use Rattle.node_run.proofs.closing.gather_all.Goals as goal

pub returns : goal.returns
returns g c =
    run_over g.D.Disk g.J.NodeRun.found c.args.phase.now g.J.NodeRun.faults g.J.DeviceRun.devices c.closing_law.ensures g.J.Run.opening c.args.left.outcomes.items c.args.left.seats.items c.args.left.devices.items
    c.as_slice.result.now c.gather-history.result c.requires.opens c.as_slice.ensures.value c.requires.down c.gather-history.ensures.left c.gather-history.ensures.whole
