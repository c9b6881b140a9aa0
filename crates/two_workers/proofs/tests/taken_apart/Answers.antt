use Rattle.std.proofs.Common.{ℕ, Some, ap, ◌∙◌}
use Rattle.node_machine.specs.Opening.{trail_part}
use Rattle.two_workers.proofs.tests.taken_apart.Goals as goal

pub returns : goal.returns
returns g c =
    let parts = c.into_parts-trail.ensures in
    ap (λ v. v.part) parts.seat ∙ parts.lawful.at.seat ∙ ap (λ (n : ℕ). Some (trail_part n)) (c.into_state-state.ensures ∙ c.requires)
