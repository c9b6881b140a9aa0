use Rattle.std.proofs.Common.{⊎_elim}
use Rattle.run_states.proofs.LostPosts.{lost_post}
use Rattle.run_states.proofs.Posts.{untouched_post}
use Rattle.run_states.proofs.post.Post.of_aside.Goals as goal

pub new-requires : goal.new-requires
new-requires g c =
    let J = g.J.NodeRun in
    let opening = g.J.Run.opening in
    let devices = g.J.DeviceRun.devices in
    ⊎_elim
    (λ h. untouched_post g.D.Disk opening J.found J.faults devices c.args.number c.args.device c.args.seat h.2 h.0 h.1 c.requires.idle)
    (λ h. lost_post g.D.Disk opening J.found J.faults J.premise devices c.args.number c.args.device c.args.seat c.requires.named c.requires.idle h c.resting_law.ensures.dump)
    c.requires.alone
