use Rattle.std.proofs.Common.{subst}
use Rattle.chronicle.specs.Seats.{Sight}
use Rattle.node_machine.specs.declared.event.Event.{Event}
use Rattle.disc_process.specs.Later.{HaveGrown}
use Rattle.disc_process.proofs.Backed.{met_disc}
use Rattle.disc_lock.specs.Locks.{held_disc}
use Rattle.online_dump.specs.Dumper.{Dumper}
use Rattle.online_dump.specs.Seat.{HasMet}
use Rattle.online_dump.proofs.Meetings.{meeting, seen_met}
use Rattle.online_dump.proofs.at_disc.meet_at.Goals as goal

pub returns-clause-disc : goal.returns-clause-disc
returns-clause-disc g c =
    let o = g.J.Run.opening in
    let n = g.J.NodeRun.found in
    let old = held_disc c.args.disc.now in
    let new = held_disc c.meet.new.self in
    let w = c.meet-2.new.self in
    let met = subst (λ (v : Dumper g.row.D.Denot). HasMet o n v.seat w.seat c.meet.new.caller c.meet-2.new.caller) c.note-note.ensures.same c.meet-2.ensures.met in
    let seats = subst (λ (x : Sight Event). HaveGrown o old.seat new.seat x c.meet.new.caller) c.note-note.ensures.note c.meet.ensures.seats in
    meeting o n old new c.args.state.now w c.meet.new.caller c.meet-2.new.caller c.meet.ensures.part c.meet.ensures.blocks seats c.meet.ensures.same met

pub returns-clause-later : goal.returns-clause-later
returns-clause-later g c = met_disc g.J.Run.opening (held_disc c.args.disc.now) (held_disc c.meet.new.self) c.meet.ensures.part c.meet.ensures.seats.disc_grown c.meet.ensures.seats.disc_learned

pub returns-clause-state : goal.returns-clause-state
returns-clause-state g c =
    let o = g.J.Run.opening in
    let n = g.J.NodeRun.found in
    subst (λ (v : Dumper g.row.D.Denot). Rattle.online_dump.specs.AtDisc.HasOnlySeen o n v c.meet-2.new.self) c.note-note.ensures.same
    (seen_met o n c.note-note.new.self c.meet-2.new.self c.meet.new.caller c.meet-2.new.caller c.meet-2.ensures.met c.meet-2.ensures.file c.meet-2.ensures.current)
