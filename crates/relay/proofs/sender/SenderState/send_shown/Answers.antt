use Rattle.std.proofs.Common.{◌≡◌, ℕ, ◌+◌, List, [], ◌∷◌, ◌++◌, ap, ◌∙◌}
use Rattle.chronicle.specs.Seats.{own_events}
use Rattle.chronicle.proofs.Facts.{newly_seen}
use Rattle.relay.specs.declared.machine.Event.{Event}
use Rattle.relay.specs.declared.machine.Event.TheVariants.{Sent}
use Rattle.relay.proofs.sender.SenderState.send_shown.Goals as goal

pub returns-clause-shown : goal.returns-clause-shown
returns-clause-shown g c =
    let m = c.meet.ensures in
    let n = c.meet-2.ensures in
    let next : c.self.inside.sent ≡ c.args.self.now.0 = ap (λ (x : ℕ × List Event). x.0) c.self.view_is in
    let added : own_events c.self-2.inside.seat ≡ own_events c.meet.new.a ++ Sent (c.args.self.now.0 + 1) ∷ [] =
    ap (λ (x : ℕ × List Event). x.1) (c.self-2.view_is ∙ c.send.ensures) ∙ ap (λ (k : ℕ). own_events c.meet.new.a ++ Sent (k + 1) ∷ []) next in
    newly_seen 0 (Sent (c.args.self.now.0 + 1)) c.args.other.now c.meet.new.a c.meet.new.b c.self-2.inside.seat c.meet-2.new.a c.meet-2.new.b (m.first.part ∙ c.self.invariant.0) m.same m.second added c.self-2.invariant.0 n.first n.same
