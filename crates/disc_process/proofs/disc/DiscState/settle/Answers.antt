use Rattle.std.proofs.Common.{◌≡◌, ℕ, List, ap, sym, subst, ◌∙◌}
use Rattle.chronicle.specs.Seats.{Knows}
use Rattle.node_machine.specs.declared.event.Event.{Event}
use Rattle.node_machine.specs.Node.{node}
use Rattle.node_machine.specs.Parts.{DiscPart}
use Rattle.node_machine.specs.Parts.Fact.{Durable}
use Rattle.disc_process.specs.Handover.{HandoverView}
use Rattle.disc_process.proofs.Handovers.{handover_more}
use Rattle.disc_process.proofs.disc.DiscState.settle.Goals as goal

pub forget-requires : goal.forget-requires
forget-requires g c =
    let o = g.J.Run.opening in
    let h = c.handover.inside in
    let m = c.meet.ensures in
    let knows : Knows node o c.meet.new.caller (Durable h.volume h.landed) = m.seats.caller_learned.knows _ c.handover.invariant.durable in
    let number : h.volume ≡ c.meet.new.self.part.number = ap (λ (v : HandoverView). v.disc) c.handover.view_is ∙ c.requires ∙ sym (ap (λ (s : DiscPart). s.number) m.part) in
    let told : Knows node o c.meet.new.self.seat (Durable h.volume h.landed) =
    subst (λ (l : List (ℕ × Event)). Knows node o (record { part = c.meet.new.self.seat.part; seen = l }) (Durable h.volume h.landed)) (sym m.same) knows in
    subst (λ (n : ℕ). Knows node o c.meet.new.self.seat (Durable n h.landed)) number told

pub invariant_of-handover : goal.invariant_of-handover
invariant_of-handover g c = handover_more c.handover.invariant c.meet.new.caller c.meet.ensures.seats.caller_learned.knows
