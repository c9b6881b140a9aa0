use Rattle.std.proofs.Common.{◌≡◌, ℕ, List, Option, Result, IfErr, IfOk, ap, sym, ◌∙◌, subst}
use Rattle.std.specs.Prelude.{IfSome}
use Rattle.std.specs.Option.{MatchOption}
use mathlib.Core.List.{IsPrefix}
use Rattle.chronicle.proofs.Facts.{known_of_part}
use Rattle.chronicle.specs.Seats.{Knows}
use Rattle.audit_writer.specs.declared.lock.FlushRefused.{FlushRefused}
use Rattle.node_machine.specs.declared.event.By.TheVariants.{Attempt}
use Rattle.node_machine.specs.declared.event.Event.{Event}
use Rattle.node_machine.specs.Node.{node}
use Rattle.node_machine.specs.Parts.{DiscPart}
use Rattle.node_machine.specs.Parts.Fact.{Floor}
use Rattle.node_machine.specs.Parts.PartState.{Disc}
use Rattle.tmf_model.specs.declared.config.Config.{Config}
use Rattle.disc_process.specs.Disc.{AreTrails}
use Rattle.disc_lock.specs.Locks.{held_disc, number_of}
use Rattle.control_point.specs.Control.{HasMoved, IsDiscRefusal, IsDiscSpent, IsMove, IsSpentHere, WasSo}
use Rattle.control_point.specs.Given.{HasGivenToMove}
use Rattle.control_point.proofs.Given.{floored_given, given_wider}
use Rattle.control_point.proofs.Moves.{floored, floored_known, floored_refused, moved_here, spent_here}
use Rattle.control_point.proofs.Stops.{more_then, refused_here}
use Rattle.control_point.proofs.lowering.move_in_one_hold.Goals as goal

pub move_low-answer-requires-clause-trails : goal.move_low-answer-requires-clause-trails
move_low-answer-requires-clause-trails g c = subst (λ (k : Config). AreTrails k c.args.trails.now) (sym (ap (λ (s : DiscPart). s.config) c.meet.ensures.part ∙ c.lock-held.ensures.config)) c.requires.trails

pub returns-clause-moved : goal.returns-clause-moved
returns-clause-moved g c =
    let o = g.J.Run.opening in
    let config = g.J.NodeRun.found.config in
    let number : ℕ = number_of c.args.disc.now in
    let first = held_disc c.meet.new.self in
    let last = held_disc c.move_low-answer.new.disc in
    let met = held_disc c.meet-2.new.self in
    let old = c.args.seat.now in
    let new = c.meet-2.new.caller in
    let by = Attempt c.args.item in
    let floor : ℕ = c.floor-floor.result in
    let named : first.part.number ≡ number = ap (λ (s : DiscPart). s.number) c.meet.ensures.part ∙ c.lock-held.ensures.number in
    let configured : first.part.config ≡ config = ap (λ (s : DiscPart). s.config) c.meet.ensures.part ∙ c.lock-held.ensures.config in
    let began : IsPrefix old.seen first.seat.seen = subst (λ (l : List (ℕ × Event)). IsPrefix old.seen l) (sym c.meet.ensures.same) c.meet.ensures.seats.caller_grown.begins in
    let later = c.move_low-answer.ensures.disc in
    let grown = c.meet-2.ensures.seats.disc_grown in
    subst (λ (r : Result (Option (ℕ × ℕ)) FlushRefused). IfOk r (λ p. MatchOption p (WasSo g.D.Disk o config number old new (IsDiscSpent config number)) (λ x. HasMoved g.D.Disk o config number by x.0 x.1 old new)))
    (sym c.with_floor.ensures)
    (floored floor (IsSpentHere g.D.Disk o last) (WasSo g.D.Disk o config number old new (IsDiscSpent config number)) (λ low. IsMove g.D.Disk o by low first last) (λ low f. HasMoved g.D.Disk o config number by low f old new) c.move_low-answer.result
    (λ h. spent_here g.D.Disk o config number old new first last met named configured began h later grown c.meet-2.ensures.same)
    (λ low move. moved_here g.D.Disk o config number by low floor old new first last met named configured began move later c.lawful.ensures grown c.meet-2.ensures.same c.floor-floor.ensures)
    c.move_low-answer.ensures.moved)

pub returns-clause-floor : goal.returns-clause-floor
returns-clause-floor g c =
    let o = g.J.Run.opening in
    let number : ℕ = number_of c.args.disc.now in
    let first = held_disc c.meet.new.self in
    let last = held_disc c.move_low-answer.new.disc in
    let new = c.meet-2.new.caller in
    let floor : ℕ = c.floor-floor.result in
    let named : last.part.number ≡ number = ap (λ (s : DiscPart). s.number) c.move_low-answer.ensures.disc.part ∙ ap (λ (s : DiscPart). s.number) c.meet.ensures.part ∙ c.lock-held.ensures.number in
    let known = known_of_part node o last.seat (Disc last.part) (Floor number floor) c.lawful.ensures.at (named, c.floor-floor.ensures.is_floor) in
    subst (λ (r : Result (Option (ℕ × ℕ)) FlushRefused). IfOk r (λ p. IfSome p (λ x. Knows node o new (Floor number x.1)))) (sym c.with_floor.ensures)
    (floored_known floor (λ f. Knows node o new (Floor number f)) c.move_low-answer.result (c.meet-2.ensures.tells (Floor number floor) known))

pub returns-clause-refused : goal.returns-clause-refused
returns-clause-refused g c =
    let config = g.J.NodeRun.found.config in
    let number : ℕ = number_of c.args.disc.now in
    let first = held_disc c.meet.new.self in
    let last = held_disc c.move_low-answer.new.disc in
    let new = c.meet-2.new.caller in
    let by = Attempt c.args.item in
    let named : first.part.number ≡ number = ap (λ (s : DiscPart). s.number) c.meet.ensures.part ∙ c.lock-held.ensures.number in
    let configured : first.part.config ≡ config = ap (λ (s : DiscPart). s.config) c.meet.ensures.part ∙ c.lock-held.ensures.config in
    subst (λ (r : Result (Option (ℕ × ℕ)) FlushRefused). IfErr r (IsDiscRefusal config number by c.args.seat.now new)) (sym c.with_floor.ensures)
    (floored_refused c.floor-floor.result (IsDiscRefusal config number by c.args.seat.now new) c.move_low-answer.result
    (refused_here config number by c.args.seat.now new first last c.move_low-answer.result named configured
    (subst (λ (l : List (ℕ × Event)). IsPrefix c.args.seat.now.seen l) (sym c.meet.ensures.same) c.meet.ensures.seats.caller_grown.begins)
    (subst (λ (l : List (ℕ × Event)). IsPrefix last.seat.seen l) c.meet-2.ensures.same c.meet-2.ensures.seats.disc_grown.begins)
    c.move_low-answer.ensures.refused))

pub returns-clause-seat : goal.returns-clause-seat
returns-clause-seat g c =
    let o = g.J.Run.opening in
    let one = c.meet.new.caller in
    let two = c.move_low-answer.new.caller in
    more_then o c.args.seat.now two c.meet-2.new.caller (more_then o c.args.seat.now one two (c.meet.ensures.seats.caller_grown, c.meet.ensures.seats.caller_learned) c.move_low-answer.ensures.caller) (c.meet-2.ensures.seats.caller_grown, c.meet-2.ensures.seats.caller_learned)

pub returns-clause-given : goal.returns-clause-given
returns-clause-given g c =
    let config = g.J.NodeRun.found.config in
    let number : ℕ = number_of c.args.disc.now in
    let first = held_disc c.meet.new.self in
    let last = held_disc c.move_low-answer.new.disc in
    let old = c.args.seat.now in
    let new = c.meet-2.new.caller in
    let r = c.move_low-answer.result in
    let named : first.part.number ≡ number = ap (λ (s : DiscPart). s.number) c.meet.ensures.part ∙ c.lock-held.ensures.number in
    let configured : first.part.config ≡ config = ap (λ (s : DiscPart). s.config) c.meet.ensures.part ∙ c.lock-held.ensures.config in
    let here : HasGivenToMove config number c.args.item first.seat last.seat r c.args.share.now c.move_low-answer.new.share =
    subst (λ (n : ℕ). HasGivenToMove config n c.args.item first.seat last.seat r c.args.share.now c.move_low-answer.new.share) named
    (subst (λ (k : Config). HasGivenToMove k first.part.number c.args.item first.seat last.seat r c.args.share.now c.move_low-answer.new.share) configured c.move_low-answer.ensures.given) in
    subst (λ (x : Result (Option (ℕ × ℕ)) FlushRefused). HasGivenToMove config number c.args.item old new x c.args.share.now c.move_low-answer.new.share) (sym c.with_floor.ensures)
    (floored_given c.floor-floor.result config number c.args.item old new r c.args.share.now c.move_low-answer.new.share
    (given_wider config number c.args.item old first.seat last.seat new r c.args.share.now c.move_low-answer.new.share
    (subst (λ (l : List (ℕ × Event)). IsPrefix old.seen l) (sym c.meet.ensures.same) c.meet.ensures.seats.caller_grown.begins)
    (subst (λ (l : List (ℕ × Event)). IsPrefix last.seat.seen l) c.meet-2.ensures.same c.meet-2.ensures.seats.disc_grown.begins)
    here))
