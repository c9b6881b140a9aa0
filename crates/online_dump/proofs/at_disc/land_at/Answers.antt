use Rattle.std.proofs.Common.{◌≡◌, ◌-◌, ℕ, ap, sym, ◌∙◌, subst}
use Rattle.chronicle.specs.Seats.{Knows}
use Rattle.node_machine.specs.Made.{next_position}
use Rattle.node_machine.specs.Node.{node}
use Rattle.node_machine.specs.Parts.{DiscPart, DumpPart}
use Rattle.node_machine.specs.Parts.Fact.{Durable}
use Rattle.std.specs.Prelude.{IfErr, IsSome, OnOk, Result, Some}
use Rattle.std.proofs.Common.{Option}
use Rattle.keyed_file.specs.Dump.{blocks_in_all}
use Rattle.node_machine.specs.Trail.{trail_of}
use Rattle.audit_writer.specs.Locked.{HasFailed as HasTrailFailed}
use Rattle.audit_writer.specs.declared.lock.FlushRefused.{FlushRefused}
use Rattle.disc_process.specs.Disc.{AreTrails}
use Rattle.disc_process.proofs.Backed.{disc_then, met_disc}
use Rattle.disc_lock.specs.Locks.{held_disc}
use Rattle.online_dump.specs.Copies.{files_of}
use Rattle.online_dump.specs.declared.copying.Copying.{Copying}
use Rattle.online_dump.proofs.Landing.{seals_open, trail_failed_met}
use Rattle.online_dump.proofs.Meetings.{met_again, same_open, same_part, seen_then}
use Rattle.online_dump.proofs.at_disc.land_at.Goals as goal

pub flush-landed-requires : goal.flush-landed-requires
flush-landed-requires g c = subst (λ (s : DiscPart). AreTrails s.config c.args.trails.now) (sym c.meet_at.ensures.disc.part) c.requires.trails

pub returns-in-Ok-clause-landed : goal.returns-in-Ok-clause-landed
returns-in-Ok-clause-landed g c =
    let o = g.J.Run.opening in
    let n = g.J.NodeRun.found in
    let d = c.meet_at.ensures.disc in
    let mid = held_disc c.meet_at.new.disc in
    let last = held_disc c.flush-landed.new.self in
    let v = c.args.state.now in
    let w = c.meet_at.new.state in
    let u = c.meet.new.self in
    let part : w.seat.part ≡ v.seat.part = same_part o n v w w c.meet_at.ensures.state in
    let is_it : mid.part.number ≡ w.seat.part.number = ap (λ (s : DiscPart). s.number) d.part ∙ c.requires.number ∙ sym (ap (λ (s : DumpPart). s.number) part) in
    let again = met_again o n w c.note-note.new.self u c.flush-landed.new.caller c.meet.new.caller c.note-note.ensures.same c.meet.ensures.met c.meet.ensures.file c.meet.ensures.current in
    let shown = subst (λ (r : Result ℕ FlushRefused). OnOk r (Knows node o c.flush-landed.new.caller (Durable last.part.number (next_position last.part - 1)))) c.in-Ok.is c.flush-landed.ensures.shown in
    let told = c.meet.ensures.met.told (Durable last.part.number (next_position last.part - 1)) shown in
    let moved : Knows node o u.seat.sight (Durable mid.part.number (next_position mid.part - 1)) = subst (λ (s : DiscPart). Knows node o u.seat.sight (Durable s.number (next_position s - 1))) c.flush-landed.ensures.part told in
    let known : Knows node o u.seat.sight (Durable w.seat.part.number (next_position mid.part - 1)) = subst (λ (k : ℕ). Knows node o u.seat.sight (Durable k (next_position mid.part - 1))) is_it moved in
    let opened = subst (λ (x : Option Copying). IsSome x) (sym (same_open o n v w w c.meet_at.ensures.state)) c.requires.open in
    let all = ap (λ f. f.filled) c.meet_at.ensures.state.file ∙ c.requires.all ∙ ap (λ (s : DumpPart). Some (blocks_in_all (files_of s))) (sym part) in
    seals_open g.D.Disk o n mid w u c.lawful-2.ensures c.lawful.ensures.at c.lawful.ensures.within is_it d.same c.lawful.ensures.well c.lawful.ensures.current opened all again known

pub returns-clause-refused : goal.returns-clause-refused
returns-clause-refused g c =
    let old = held_disc c.args.disc.now in
    let mid = held_disc c.meet_at.new.disc in
    let last = held_disc c.flush-landed.new.self in
    let d = c.meet_at.ensures in
    trail_failed_met c.args.by old mid last c.in-Err.refused d.disc.part (record { part = d.later.place; begins = d.later.begins; mine = d.disc.still })
    (subst (λ (r : Result ℕ FlushRefused). IfErr r (HasTrailFailed (trail_of mid.part.config mid.part.number) c.args.by mid.seat last.seat)) c.in-Err.is c.flush-landed.ensures.refused)

pub returns-in-Ok-clause-disc : goal.returns-in-Ok-clause-disc
returns-in-Ok-clause-disc g c =
    let o = g.J.Run.opening in
    let mid = held_disc c.meet_at.new.disc in
    let last = held_disc c.flush-landed.new.self in
    disc_then o (held_disc c.args.disc.now) mid last c.meet_at.ensures.later (met_disc o mid last c.flush-landed.ensures.part c.flush-landed.ensures.seats.disc_grown c.flush-landed.ensures.seats.disc_learned)

pub returns-in-Ok-clause-still : goal.returns-in-Ok-clause-still
returns-in-Ok-clause-still g c = c.flush-landed.ensures.seats.disc_grown.mine ∙ c.meet_at.ensures.disc.still

pub returns-in-Ok-clause-state : goal.returns-in-Ok-clause-state
returns-in-Ok-clause-state g c =
    let o = g.J.Run.opening in
    let n = g.J.NodeRun.found in
    let w = c.meet_at.new.state in
    let u = c.meet.new.self in
    seen_then o n c.args.state.now w u c.meet_at.ensures.state (met_again o n w c.note-note.new.self u c.flush-landed.new.caller c.meet.new.caller c.note-note.ensures.same c.meet.ensures.met c.meet.ensures.file c.meet.ensures.current)

pub returns-clause-disc : goal.returns-clause-disc
returns-clause-disc g c =
    let o = g.J.Run.opening in
    let mid = held_disc c.meet_at.new.disc in
    let last = held_disc c.flush-landed.new.self in
    disc_then o (held_disc c.args.disc.now) mid last c.meet_at.ensures.later (met_disc o mid last c.flush-landed.ensures.part c.flush-landed.ensures.seats.disc_grown c.flush-landed.ensures.seats.disc_learned)

pub returns-clause-still : goal.returns-clause-still
returns-clause-still g c = c.flush-landed.ensures.seats.disc_grown.mine ∙ c.meet_at.ensures.disc.still

pub returns-clause-state : goal.returns-clause-state
returns-clause-state g c =
    let o = g.J.Run.opening in
    let n = g.J.NodeRun.found in
    let w = c.meet_at.new.state in
    let u = c.meet.new.self in
    seen_then o n c.args.state.now w u c.meet_at.ensures.state (met_again o n w c.note-note.new.self u c.flush-landed.new.caller c.meet.new.caller c.note-note.ensures.same c.meet.ensures.met c.meet.ensures.file c.meet.ensures.current)
