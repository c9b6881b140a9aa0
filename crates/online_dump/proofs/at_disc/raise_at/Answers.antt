use Rattle.std.proofs.Common.{◌≡◌, ◌++◌, ℕ, List, Option, ap, sym, ◌∙◌, subst}
use Rattle.chronicle.specs.Seats.{Knows, Sight, own_events}
use Rattle.node_machine.specs.Node.{node}
use Rattle.node_machine.specs.declared.event.Event.{Event}
use Rattle.node_machine.specs.Parts.{DiscPart, DumpPart}
use Rattle.node_machine.specs.Parts.Fact.{Over}
use Rattle.disc_process.specs.Disc.{AreTrails}
use Rattle.disc_process.specs.Dumping.{MayEnd, raisings}
use Rattle.disc_process.proofs.Backed.{disc_then}
use Rattle.disc_lock.specs.Locks.{held_disc}
use Rattle.online_dump.specs.Dumper.{Dumper}
use Rattle.online_dump.specs.Seat.{HasMet}
use Rattle.online_dump.proofs.AtDisc.{ends_here, raised_here}
use Rattle.online_dump.proofs.Meetings.{met_again, same_least, same_part, seen_as_met, seen_then}
use Rattle.online_dump.proofs.at_disc.raise_at.Goals as goal

pub raise-requires-clause-trails : goal.raise-requires-clause-trails
raise-requires-clause-trails g c = subst (λ (s : DiscPart). AreTrails s.config c.args.trails.now) (sym c.meet_at.ensures.disc.part) c.requires.trails

-- the part's seat knows that the dump is over, behind the meeting too
pub raise-requires-clause-over : goal.raise-requires-clause-over
raise-requires-clause-over g c =
    let o = g.J.Run.opening in
    let n = g.J.NodeRun.found in
    let d = c.meet_at.ensures.disc in
    let mid = held_disc c.meet_at.new.disc in
    let v = c.args.state.now in
    let w = c.meet_at.new.state in
    let rest : Option ℕ = c.least_start-rest.result in
    let is_it : v.seat.part.number ≡ mid.part.number = sym (ap (λ (s : DiscPart). s.number) d.part ∙ c.requires.number) in
    let over : Knows node o v.seat.sight (Over v.seat.part.number c.args.number rest) = subst (λ (r : Option ℕ). Knows node o v.seat.sight (Over v.seat.part.number c.args.number r)) (sym c.least_start-rest.ensures) c.requires.over in
    let known : Knows node o w.seat.sight (Over v.seat.part.number c.args.number rest) = c.meet_at.ensures.state.seat.knows (Over v.seat.part.number c.args.number rest) over in
    subst (λ (x : Sight Event). Knows node o x (Over mid.part.number c.args.number rest)) (sym c.note-heard.ensures.note)
    (subst (λ (k : ℕ). Knows node o w.seat.sight (Over k c.args.number rest)) is_it known)

pub raise-requires-clause-rests : goal.raise-requires-clause-rests
raise-requires-clause-rests g c =
    let o = g.J.Run.opening in
    let n = g.J.NodeRun.found in
    let d = c.meet_at.ensures.disc in
    let mid = held_disc c.meet_at.new.disc in
    let v = c.args.state.now in
    let w = c.meet_at.new.state in
    let part : w.seat.part ≡ v.seat.part = same_part o n v w w c.meet_at.ensures.state in
    let is_it : mid.part.number ≡ w.seat.part.number = ap (λ (s : DiscPart). s.number) d.part ∙ c.requires.number ∙ sym (ap (λ (s : DumpPart). s.number) part) in
    subst (λ (r : Option ℕ). MayEnd mid.part c.args.number r) (same_least o n v w w c.meet_at.ensures.state ∙ sym c.least_start-rest.ensures)
    (ends_here g.D.Disk o n mid w.seat c.lawful-2.ensures c.lawful.ensures.at c.lawful.ensures.within is_it d.same w.file c.lawful.ensures.tied c.args.number)

pub returns-clause-ended : goal.returns-clause-ended
returns-clause-ended g c =
    let o = g.J.Run.opening in
    let n = g.J.NodeRun.found in
    let d = c.meet_at.ensures.disc in
    let old = held_disc c.args.disc.now in
    let mid = held_disc c.meet_at.new.disc in
    let v = c.args.state.now in
    let w = c.meet_at.new.state in
    let rest : Option ℕ = c.least_start-rest.result in
    let part : w.seat.part ≡ v.seat.part = same_part o n v w w c.meet_at.ensures.state in
    let is_it : mid.part.number ≡ w.seat.part.number = ap (λ (s : DiscPart). s.number) d.part ∙ c.requires.number ∙ sym (ap (λ (s : DumpPart). s.number) part) in
    let over : Knows node o v.seat.sight (Over v.seat.part.number c.args.number rest) = subst (λ (r : Option ℕ). Knows node o v.seat.sight (Over v.seat.part.number c.args.number r)) (sym c.least_start-rest.ensures) c.requires.over in
    let known : Knows node o w.seat.sight (Over v.seat.part.number c.args.number rest) = c.meet_at.ensures.state.seat.knows (Over v.seat.part.number c.args.number rest) over in
    let known_here : Knows node o w.seat.sight (Over w.seat.part.number c.args.number rest) = subst (λ (k : ℕ). Knows node o w.seat.sight (Over k c.args.number rest)) (sym (ap (λ (s : DumpPart). s.number) part)) known in
    record {
      raised = raised_here g.D.Disk o n mid w.seat c.lawful-2.ensures c.lawful.ensures.at c.lawful.ensures.within is_it d.same c.args.number rest known_here (held_disc c.raise.new.self) c.raise.ensures.disc c.raise.ensures.raised;
      events = c.raise.ensures.raised
          ∙ ap (λ (l : List Event). l ++ raisings mid.part c.args.number rest) d.still
          ∙ ap (λ (s : DiscPart). own_events old.seat ++ raisings s c.args.number rest) d.part
          ∙ ap (λ (r : Option ℕ). own_events old.seat ++ raisings old.part c.args.number r) c.least_start-rest.ensures;
    }

pub returns-clause-met : goal.returns-clause-met
returns-clause-met g c =
    let o = g.J.Run.opening in
    let n = g.J.NodeRun.found in
    let w = c.meet_at.new.state in
    let u = c.meet.new.self in
    let met = subst (λ (x : Dumper g.row.D.Denot). HasMet o n x.seat u.seat c.raise.new.dumper c.meet.new.caller) c.note-heard.ensures.same c.meet.ensures.met in
    seen_as_met o n w u c.note-heard.result c.raise.new.dumper c.meet.new.caller (held_disc c.raise.new.self).seat.seen c.note-heard.ensures.note c.raise.ensures.dumper.0.grown.begins c.raise.ensures.dumper.1 met

pub returns-clause-disc : goal.returns-clause-disc
returns-clause-disc g c = disc_then g.J.Run.opening (held_disc c.args.disc.now) (held_disc c.meet_at.new.disc) (held_disc c.raise.new.self) c.meet_at.ensures.later c.raise.ensures.disc

pub returns-clause-blocks : goal.returns-clause-blocks
returns-clause-blocks g c = c.raise.ensures.blocks ∙ c.meet_at.ensures.disc.blocks

pub returns-clause-state : goal.returns-clause-state
returns-clause-state g c =
    let o = g.J.Run.opening in
    let n = g.J.NodeRun.found in
    let w = c.meet_at.new.state in
    let u = c.meet.new.self in
    seen_then o n c.args.state.now w u c.meet_at.ensures.state (met_again o n w c.note-heard.new.self u c.raise.new.dumper c.meet.new.caller c.note-heard.ensures.same c.meet.ensures.met c.meet.ensures.file c.meet.ensures.current)
