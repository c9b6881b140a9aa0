use Rattle.std.proofs.Common.{ℕ, ◌++◌, List, ap, sym, subst, ◌∙◌}
use Rattle.chronicle.specs.Histories.{IsTrueIn, states_after}
use Rattle.tmf_model.specs.declared.config.Config.{Config}
use Rattle.node_machine.specs.declared.event.Event.{Event}
use Rattle.node_machine.specs.Node.{node}
use Rattle.node_machine.specs.Opening.{disc_part}
use Rattle.node_machine.specs.Parts.{DiscPart}
use Rattle.node_machine.specs.Parts.Fact.{Over}
use Rattle.disc_process.specs.Disc.{AreTrails}
use Rattle.disc_process.specs.Dumping.{raisings}
use Rattle.disc_process.proofs.Drawn.{prefix_then}
use Rattle.disc_process.proofs.Dumping.{ends_in, learned_twice, seen_events}
use Rattle.disc_process.proofs.Later.{later_disc}
use Rattle.disc_process.proofs.disc.DiscState.raise.Goals as goal

pub end_dump-requires-clause-over : goal.end_dump-requires-clause-over
end_dump-requires-clause-over g c =
    let o = g.J.Run.opening in
    let m = c.meet.ensures in
    let old = c.args.self.now in
    subst (λ (s : DiscPart). IsTrueIn node (states_after node o c.meet.new.self.seat.seen) (Over s.number c.args.number c.args.rest)) (sym m.part)
    (subst (λ (l : List (ℕ × Event)). IsTrueIn node (states_after node o l) (Over old.part.number c.args.number c.args.rest)) (sym m.same) (m.seats.caller_learned.knows (Over old.part.number c.args.number c.args.rest) c.requires.over))

pub end_dump-requires-clause-rests : goal.end_dump-requires-clause-rests
end_dump-requires-clause-rests g c = ends_in c.args.self.now.part c.meet.new.self.part c.args.number c.args.rest c.meet.ensures.part c.requires.rests

pub tell_floor-requires : goal.tell_floor-requires
tell_floor-requires g c =
    let same = c.end_dump.ensures.config ∙ ap (λ (s : DiscPart). s.config) c.meet.ensures.part in
    subst (λ (x : Config). AreTrails x c.args.trails.now) (sym same) c.requires.trails

pub returns-clause-raised : goal.returns-clause-raised
returns-clause-raised g c =
    let old = c.args.self.now in
    let m = c.meet.ensures in
    c.meet-2.ensures.seats.disc_grown.mine
    ∙ c.tell_floor.ensures.events
    ∙ c.end_dump.ensures.raised
    ∙ ap (λ (x : List Event × DiscPart). x.0 ++ raisings x.1 c.args.number c.args.rest) (λ j. (m.seats.disc_grown.mine j, m.part j))

pub returns-clause-disc : goal.returns-clause-disc
returns-clause-disc g c =
    let old = c.args.self.now in
    let a = c.meet in
    let b = c.end_dump in
    let t = c.tell_floor in
    let d = c.meet-2 in
    later_disc g.D.Disk g.J.Run.opening old d.new.self c.lawful.ensures c.lawful-2.ensures (d.ensures.seats.disc_grown.part ∙ t.ensures.later_seat.place ∙ b.ensures.later_seat.place ∙ a.ensures.seats.disc_grown.part)
    (prefix_then old.seat.seen a.new.self.seat.seen d.new.self.seat.seen a.ensures.seats.disc_grown.begins
    (prefix_then a.new.self.seat.seen b.new.self.seat.seen d.new.self.seat.seen b.ensures.later_seat.begins
    (prefix_then b.new.self.seat.seen t.new.self.seat.seen d.new.self.seat.seen t.ensures.later_seat.begins d.ensures.seats.disc_grown.begins)))

pub returns-clause-dumper : goal.returns-clause-dumper
returns-clause-dumper g c =
    let a = c.meet in
    let d = c.meet-2 in (
      record {
        grown = record {
          part = d.ensures.seats.caller_grown.part ∙ a.ensures.seats.caller_grown.part;
          begins = prefix_then c.args.dumper.now.seen a.new.caller.seen d.new.caller.seen a.ensures.seats.caller_grown.begins d.ensures.seats.caller_grown.begins;
          mine = d.ensures.seats.caller_grown.mine ∙ a.ensures.seats.caller_grown.mine;
        };
        still_knows = learned_twice g.J.Run.opening c.args.dumper.now a.new.caller d.new.caller a.ensures.seats.caller_learned d.ensures.seats.caller_learned;
        events = seen_events d.new.self.seat (disc_part d.new.self.part.number) d.new.caller.seen c.lawful-2.ensures.place (sym d.ensures.same);
      },
      sym d.ensures.same,
    )
