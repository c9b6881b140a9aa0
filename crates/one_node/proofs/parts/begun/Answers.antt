use Rattle.std.proofs.Common.{◌∙◌}
use Rattle.one_node.proofs.parts.begun.Goals as goal

pub returns : goal.returns
returns g c =
    let t = c.in_ok-trail.ensures in
    let e = c.in_ok-land_start.ensures in
    record { tells = c.land_start.ensures.keeps.device.tells ∙ t.tells; ready = e.phase; writable = e.writable; holds = e.holds t.holds }
