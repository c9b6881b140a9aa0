use Rattle.std.proofs.Common.{◌≡◌, ℕ, List, ap, sym, ◌∙◌, subst}
use mathlib.Core.List.{IsPrefix}
use Rattle.node_machine.specs.declared.event.Event.{Event}
use Rattle.node_machine.specs.Parts.{DiscPart}
use Rattle.tmf_model.specs.declared.config.Config.{Config}
use Rattle.disc_process.specs.Disc.{AreTrails}
use Rattle.disc_lock.specs.Locks.{held_disc, number_of}
use Rattle.control_point.proofs.Stops.{more_then, refused_here}
use Rattle.control_point.proofs.lowering.draw_in_one_hold.Goals as goal

pub draw_some-answer-requires : goal.draw_some-answer-requires
draw_some-answer-requires g c = subst (λ (k : Config). AreTrails k c.args.trails.now) (sym (ap (λ (s : DiscPart). s.config) c.meet.ensures.part ∙ c.lock-held.ensures.config)) c.requires

pub returns-clause-refused : goal.returns-clause-refused
returns-clause-refused g c =
    let first = held_disc c.meet.new.self in
    let last = held_disc c.draw_some-answer.new.disc in
    let new = c.meet-2.new.caller in
    let named : first.part.number ≡ number_of c.args.disc.now = ap (λ (s : DiscPart). s.number) c.meet.ensures.part ∙ c.lock-held.ensures.number in
    let configured : first.part.config ≡ g.J.NodeRun.found.config = ap (λ (s : DiscPart). s.config) c.meet.ensures.part ∙ c.lock-held.ensures.config in
    refused_here g.J.NodeRun.found.config (number_of c.args.disc.now) c.args.by c.args.seat.now new first last c.draw_some-answer.result named configured
    (subst (λ (l : List (ℕ × Event)). IsPrefix c.args.seat.now.seen l) (sym c.meet.ensures.same) c.meet.ensures.seats.caller_grown.begins)
    (subst (λ (l : List (ℕ × Event)). IsPrefix last.seat.seen l) c.meet-2.ensures.same c.meet-2.ensures.seats.disc_grown.begins)
    c.draw_some-answer.ensures.refused

pub returns-clause-seat : goal.returns-clause-seat
returns-clause-seat g c = more_then g.J.Run.opening c.args.seat.now c.meet.new.caller c.meet-2.new.caller (c.meet.ensures.seats.caller_grown, c.meet.ensures.seats.caller_learned) (c.meet-2.ensures.seats.caller_grown, c.meet-2.ensures.seats.caller_learned)
