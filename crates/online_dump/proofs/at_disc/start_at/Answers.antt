use Rattle.std.specs.Option.{MatchOption}
use Rattle.std.specs.Prelude.{IfSome}
use Rattle.std.proofs.Common.{◌≡◌, ◌<◌, ℕ, length, List, Option, ap, sym, ◌∙◌, subst}
use Rattle.chronicle.specs.Seats.{Knows, own_events}
use Rattle.node_machine.specs.declared.event.Event.{Event}
use Rattle.node_machine.specs.Dump.{offered_label}
use Rattle.node_machine.specs.Node.{node}
use Rattle.node_machine.specs.Parts.{DiscPart, DumpPart}
use Rattle.node_machine.specs.Parts.Fact.{Started}
use Rattle.disc_process.specs.Dumping.{HasStarted, IsDumping}
use Rattle.disc_process.proofs.Backed.{disc_then}
use Rattle.disc_lock.specs.Locks.{held_disc}
use Rattle.online_dump.proofs.AtDisc.{begins_here}
use Rattle.online_dump.proofs.Meetings.{met_again, same_part, seen_then, started_behind}
use Rattle.online_dump.proofs.at_disc.start_at.Goals as goal

pub start_dump-started-requires-clause-few : goal.start_dump-started-requires-clause-few
start_dump-started-requires-clause-few g c =
    let d = c.meet_at.ensures.disc in
    let mid = held_disc c.meet_at.new.disc in
    subst (λ (s : DiscPart). length (own_events mid.seat) < s.config.steps) (sym d.part) (subst (λ (l : List Event). length l < (held_disc c.args.disc.now).part.config.steps) (sym d.still) c.requires.steps)

pub returns-in-Some-clause-started : goal.returns-in-Some-clause-started
returns-in-Some-clause-started g c =
    let o = g.J.Run.opening in
    let n = g.J.NodeRun.found in
    let d = c.meet_at.ensures.disc in
    let old = held_disc c.args.disc.now in
    let mid = held_disc c.meet_at.new.disc in
    let new = held_disc c.start_dump-started.new.self in
    let note = c.start_dump-started.new.dumper in
    let v = c.args.state.now in
    let w = c.meet_at.new.state in
    let u = c.meet.new.self in
    let begun = c.in-Some.begun in
    let number : ℕ = begun.0 in
    let start : ℕ = begun.1 in
    let first = c.meet_at.ensures.state in
    let part : w.seat.part ≡ v.seat.part = same_part o n v w w first in
    let second = met_again o n w c.note-note.new.self u note c.meet.new.caller c.note-note.ensures.same c.meet.ensures.met c.meet.ensures.file c.meet.ensures.current in
    let is_it : mid.part.number ≡ w.seat.part.number = ap (λ (s : DiscPart). s.number) d.part ∙ c.requires.number ∙ sym (ap (λ (s : DumpPart). s.number) part) in
    let told = subst (λ (r : Option (ℕ × ℕ)). IfSome r (λ x. Knows node o note (Started mid.part.number x.0 x.1))) c.in-Some.is c.start_dump-started.ensures.known in
    let started = subst (λ (r : Option (ℕ × ℕ)). MatchOption r (IsDumping c.args.item mid new) (λ x. HasStarted c.args.item mid new x.0 x.1)) c.in-Some.is c.start_dump-started.ensures.answered in
    let known : Knows node o u.seat.sight (Started w.seat.part.number number start) = subst (λ (k : ℕ). Knows node o u.seat.sight (Started k number start)) is_it (c.meet.ensures.met.told (Started mid.part.number number start) told) in
    record {
      started = started_behind c.args.item old mid new number start d.part d.still started;
      may = begins_here g.D.Disk o n mid w.seat c.lawful-2.ensures c.lawful.ensures.at c.lawful.ensures.within is_it d.same c.lawful.ensures.well c.lawful.ensures.named (ap (λ (s : DumpPart). offered_label s.events) part ∙ c.requires.certain)
          number start started.next started.quiet u.seat second.seat.had.part known;
    }

pub returns-in-Some-clause-disc : goal.returns-in-Some-clause-disc
returns-in-Some-clause-disc g c = disc_then g.J.Run.opening (held_disc c.args.disc.now) (held_disc c.meet_at.new.disc) (held_disc c.start_dump-started.new.self) c.meet_at.ensures.later c.start_dump-started.ensures.disc

pub returns-clause-disc : goal.returns-clause-disc
returns-clause-disc g c = disc_then g.J.Run.opening (held_disc c.args.disc.now) (held_disc c.meet_at.new.disc) (held_disc c.start_dump-started.new.self) c.meet_at.ensures.later c.start_dump-started.ensures.disc

pub returns-in-Some-clause-blocks : goal.returns-in-Some-clause-blocks
returns-in-Some-clause-blocks g c = c.start_dump-started.ensures.blocks ∙ c.meet_at.ensures.disc.blocks

pub returns-in-Some-clause-state : goal.returns-in-Some-clause-state
returns-in-Some-clause-state g c =
    let o = g.J.Run.opening in
    let n = g.J.NodeRun.found in
    let w = c.meet_at.new.state in
    let u = c.meet.new.self in
    seen_then o n c.args.state.now w u c.meet_at.ensures.state (met_again o n w c.note-note.new.self u c.start_dump-started.new.dumper c.meet.new.caller c.note-note.ensures.same c.meet.ensures.met c.meet.ensures.file c.meet.ensures.current)

pub returns-clause-state : goal.returns-clause-state
returns-clause-state g c =
    let o = g.J.Run.opening in
    let n = g.J.NodeRun.found in
    let w = c.meet_at.new.state in
    let u = c.meet.new.self in
    seen_then o n c.args.state.now w u c.meet_at.ensures.state (met_again o n w c.note-note.new.self u c.start_dump-started.new.dumper c.meet.new.caller c.note-note.ensures.same c.meet.ensures.met c.meet.ensures.file c.meet.ensures.current)

pub returns-in-Some-clause-caller : goal.returns-in-Some-clause-caller
returns-in-Some-clause-caller g c = c.start_dump-started.ensures.caller.0

pub returns-in-Some-clause-given : goal.returns-in-Some-clause-given
returns-in-Some-clause-given g c = c.start_dump-started.ensures.given
