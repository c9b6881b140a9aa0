use Rattle.std.proofs.Common.{◌≡◌, ◌<◌, ℕ, length, min, ◌-◌, ◌^◌, ap, ◌∙◌, subst}
use Rattle.std.specs.Option.{MatchOption}
use Rattle.chronicle.specs.Histories.{events_of}
use Rattle.node_machine.specs.Opening.{disc_part, trail_part}
use Rattle.node_machine.specs.Parts.{DiscPart}
use Rattle.node_machine.specs.Trail.{trail_of}
use Rattle.tmf_model.specs.declared.config.Config.{Config}
use Rattle.disc_process.specs.Disc.{HasReached}
use Rattle.disc_lock.specs.Locks.{held_disc, number_of}
use Rattle.control_point.proofs.Moves.{counted}
use Rattle.control_point.proofs.Stops.{more_then}
use Rattle.control_point.proofs.spending.spent.Goals as goal

pub returns-clause-is : goal.returns-clause-is
returns-clause-is g c =
    let config = g.J.NodeRun.found.config in
    let number : ℕ = number_of c.args.disc.now in
    let first = held_disc c.meet.new.self in
    let named : first.part.number ≡ number = ap (λ (s : DiscPart). s.number) c.meet.ensures.part ∙ c.lock-held.ensures.number in
    let configured : first.part.config ≡ config = ap (λ (s : DiscPart). s.config) c.meet.ensures.part ∙ c.lock-held.ensures.config in
    let steps : c.config.result.now.steps ≡ config.steps = ap (λ (k : Config). k.steps) (c.config.ensures ∙ configured) in
    let disc : c.number.result ≡ number = c.number.ensures in
    let trail : c.number-2.result ≡ trail_of config number = c.number-2.ensures ∙ c.requires in
    counted g.D.Disk g.J.Run.opening config number c.args.seat.now c.meet.new.caller c.events-trail_events.new.caller c.meet-2.new.caller first (held_disc c.meet-2.new.self) c.events-disc_events.result c.events-trail_events.result c.first_spent.result
    c.lawful.ensures named configured c.meet-2.ensures.seats.disc_grown c.meet.ensures.same c.meet-2.ensures.same
    c.meet.ensures.seats.caller_grown.begins c.events-trail_events.ensures.grown.begins c.meet-2.ensures.seats.caller_grown.begins
    c.events-disc_events.ensures
    (subst (λ (n : ℕ). c.events-trail_events.result ≡ min (length (events_of (trail_part n) c.events-trail_events.new.caller.seen)) (2 ^ 64 - 1)) c.requires c.events-trail_events.ensures.count)
    (subst (λ (x : ℕ × (ℕ × ℕ)). MatchOption c.first_spent.result ((c.events-disc_events.result < x.0) × (c.events-trail_events.result < x.0))
    (λ part. HasReached x.0 c.events-disc_events.result (part ≡ disc_part x.1.0) (HasReached x.0 c.events-trail_events.result (part ≡ trail_part x.1.1) ⊥))) (λ i. (steps i, (disc i, trail i))) c.first_spent.ensures)

pub returns-clause-seat : goal.returns-clause-seat
returns-clause-seat g c =
    let o = g.J.Run.opening in
    let one = c.meet.new.caller in
    let two = c.events-trail_events.new.caller in
    more_then o c.args.seat.now two c.meet-2.new.caller (more_then o c.args.seat.now one two (c.meet.ensures.seats.caller_grown, c.meet.ensures.seats.caller_learned) (c.events-trail_events.ensures.grown, c.events-trail_events.ensures.learned)) (c.meet-2.ensures.seats.caller_grown, c.meet-2.ensures.seats.caller_learned)
