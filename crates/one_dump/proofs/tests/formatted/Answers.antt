use Rattle.std.proofs.Common.{◌∙◌}
use Rattle.one_dump.proofs.tests.formatted.Goals as goal

pub returns-in-Ok : goal.returns-in-Ok
returns-in-Ok g c =
    let e = c.in-Ok.ensures in
    record { tells = e.keeps.tells ∙ c.requires; ready = e.opens.0; file = e.holds.file; rules = e.opens.1 ∙ c.in_ok-rules.ensures; writable = e.opens.3; holds = e.holds }
