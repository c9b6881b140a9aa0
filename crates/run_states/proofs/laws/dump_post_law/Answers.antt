use Rattle.run_states.proofs.DumpPosts.{dump_post_law}
use Rattle.run_states.proofs.laws.dump_post_law.Goals as goal

pub returns : goal.returns
returns g c = dump_post_law g.D.Disk g.J.Run.opening g.J.NodeRun.found g.J.NodeRun.faults g.J.NodeRun.premise g.J.DeviceRun.devices c.shown_law.ensures.opening c.shown_law.ensures.own
