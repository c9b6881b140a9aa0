use Rattle.std.proofs.Common.{◌≡◌, ◌-◌, sym, subst, ◌∙◌}
use mathlib.Core.List.{IsPrefix}
use Rattle.chronicle.specs.Seats.{Knows}
use Rattle.audit_writer.specs.Locked.{HasFailed as HasTrailFailed}
use Rattle.node_machine.specs.Made.{next_position}
use Rattle.node_machine.specs.Node.{node}
use Rattle.node_machine.specs.Parts.{DiscPart}
use Rattle.node_machine.specs.Parts.Fact.{Durable}
use Rattle.node_machine.specs.Trail.{trail_of}
use Rattle.disc_process.specs.Disc.{AreTrails}
use Rattle.disc_process.proofs.Flushing.{failed_between, met_last}
use Rattle.disc_process.proofs.Later.{met_twice}
use Rattle.disc_process.proofs.disc.DiscState.flush.Goals as goal

pub land-requires : goal.land-requires
land-requires g c = subst (λ (s : DiscPart). AreTrails s.config c.args.trails.now) (sym c.meet.ensures.part) c.requires

pub returns-in-Ok-clause-seats : goal.returns-in-Ok-clause-seats
returns-in-Ok-clause-seats g c = met_twice g.J.Run.opening c.args.self.now.seat c.meet.new.self.seat c.land.new.self.seat c.meet-in-Ok.new.self.seat c.args.caller.now c.meet.new.caller c.meet-in-Ok.new.caller c.meet.ensures.seats c.land.ensures.idle.grown c.meet-in-Ok.ensures.seats

pub returns-in-Err-clause-seats : goal.returns-in-Err-clause-seats
returns-in-Err-clause-seats g c = met_twice g.J.Run.opening c.args.self.now.seat c.meet.new.self.seat c.land.new.self.seat c.meet-in-Err.new.self.seat c.args.caller.now c.meet.new.caller c.meet-in-Err.new.caller c.meet.ensures.seats c.land.ensures.idle.grown c.meet-in-Err.ensures.seats

pub returns-in-Ok-clause-durable : goal.returns-in-Ok-clause-durable
returns-in-Ok-clause-durable g c =
    let o = g.J.Run.opening in
    let b = c.land.new.self in
    let w = c.meet-in-Ok.new.self in
    subst (λ (p : DiscPart). Knows node o w.seat (Durable p.number (next_position p - 1))) (sym c.meet-in-Ok.ensures.part) (c.meet-in-Ok.ensures.seats.disc_learned.knows (Durable b.part.number (next_position b.part - 1)) c.in-Ok.ensures.durable)

pub returns-in-Ok-clause-shown : goal.returns-in-Ok-clause-shown
returns-in-Ok-clause-shown g c =
    let o = g.J.Run.opening in
    let b = c.land.new.self in
    subst (λ (p : DiscPart). Knows node o c.meet-in-Ok.new.caller (Durable p.number (next_position p - 1))) (sym c.meet-in-Ok.ensures.part) (c.meet-in-Ok.ensures.tells (Durable b.part.number (next_position b.part - 1)) c.in-Ok.ensures.durable)

pub returns-in-Err-clause-refused : goal.returns-in-Err-clause-refused
returns-in-Err-clause-refused g c =
    let a = c.meet.new.self in
    let b = c.land.new.self in
    let w = c.meet-in-Err.new.self in
    let u = c.meet.new.caller in
    let e = c.in-Err.refused in
    let old = c.args.self.now in
    let behind : IsPrefix u.seen b.seat.seen = subst (λ l. IsPrefix l b.seat.seen) c.meet.ensures.same c.land.ensures.idle.grown.begins in
    let as_much : w.seat.seen ≡ b.seat.seen = c.meet-in-Err.ensures.same ∙ met_last b.seat.seen u.seen c.meet-in-Err.new.caller.seen c.meet-in-Err.ensures.union behind in
    failed_between (trail_of old.part.config old.part.number) c.args.by old.seat a.seat b.seat w.seat e c.meet.ensures.seats.disc_grown.begins as_much
    (subst (λ (s : DiscPart). HasTrailFailed (trail_of s.config s.number) c.args.by a.seat b.seat e) c.meet.ensures.part c.in-Err.ensures.refused)

pub returns-in-Err-clause-told : goal.returns-in-Err-clause-told
returns-in-Err-clause-told g c =
    let a = c.meet.new.self in
    let b = c.land.new.self in
    let u = c.meet.new.caller in
    let w = c.meet-in-Err.new.caller in
    let e = c.in-Err.refused in
    let old = c.args.self.now in
    let behind : IsPrefix u.seen b.seat.seen = subst (λ l. IsPrefix l b.seat.seen) c.meet.ensures.same c.land.ensures.idle.grown.begins in
    let as_much : w.seen ≡ b.seat.seen = met_last b.seat.seen u.seen w.seen c.meet-in-Err.ensures.union behind in
    let begins : IsPrefix c.args.caller.now.seen a.seat.seen = subst (λ l. IsPrefix c.args.caller.now.seen l) (sym c.meet.ensures.same) c.meet.ensures.seats.caller_grown.begins in
    failed_between (trail_of old.part.config old.part.number) c.args.by c.args.caller.now a.seat b.seat w e begins as_much
    (subst (λ (s : DiscPart). HasTrailFailed (trail_of s.config s.number) c.args.by a.seat b.seat e) c.meet.ensures.part c.in-Err.ensures.refused)
