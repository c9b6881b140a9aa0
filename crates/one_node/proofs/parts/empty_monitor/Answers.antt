use Rattle.std.proofs.Common.{◌∙◌}
use Rattle.one_node.proofs.parts.empty_monitor.Goals as goal

pub returns-in-Ok : goal.returns-in-Ok
returns-in-Ok g c =
    let e = c.in-Ok.ensures in
    record { tells = e.keeps.tells ∙ c.requires; ready = e.opens.0; writable = e.opens.3; holds = e.holds }
