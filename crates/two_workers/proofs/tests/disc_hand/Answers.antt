use Rattle.std.proofs.Common.{ℕ, Some, ap, ◌∙◌}
use Rattle.node_machine.specs.Opening.{disc_part}
use Rattle.two_workers.proofs.tests.disc_hand.Goals as goal

pub returns-clause-part : goal.returns-clause-part
returns-clause-part g c =
    let parts = c.into_parts-seat.ensures in
    ap (λ v. v.part) parts.seat ∙ parts.lawful.place ∙ ap (λ (n : ℕ). Some (disc_part n)) (c.into_state-state.ensures.disc.number ∙ c.requires)
