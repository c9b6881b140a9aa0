use Rattle.std.proofs.Common.{ℕ, arith, sym, ◌∙◌}
use Rattle.chronicle.specs.Seats.{Knows}
use Rattle.node_machine.specs.Node.{node}
use Rattle.node_machine.specs.Parts.Fact.{Started}
use Rattle.disc_process.specs.Dumping.{HasStarted, IsDumping}
use Rattle.disc_process.proofs.Drawn.{prefix_then}
use Rattle.disc_process.proofs.Dumping.{dumping_met, if_none, if_some, seen_events, started_met}
use Rattle.disc_process.proofs.Later.{later_disc}
use Rattle.disc_process.proofs.Own.{few_begun, own_count}
use Rattle.node_machine.specs.Opening.{disc_part}
use Rattle.disc_process.proofs.disc.DiscState.start_dump.Goals as goal

pub returns-clause-started : goal.returns-clause-started
returns-clause-started g c =
    let old = c.args.self.now in
    let mid = c.start-started.new.self in
    let new = c.meet-2.new.self in
    if_some c.start-started.result (λ x. HasStarted c.args.item old mid x.0 x.1) (λ x. HasStarted c.args.item old new x.0 x.1)
    (λ x. started_met c.args.item old mid new x.0 x.1 (c.meet-2.ensures.seats.disc_grown.mine ∙ c.meet.ensures.seats.disc_grown.mine)) c.start-started.ensures.started

pub returns-clause-busy : goal.returns-clause-busy
returns-clause-busy g c =
    let old = c.args.self.now in
    let mid = c.start-started.new.self in
    let new = c.meet-2.new.self in
    if_none c.start-started.result (IsDumping c.args.item old mid) (IsDumping c.args.item old new) (dumping_met c.args.item old mid new (c.meet-2.ensures.seats.disc_grown.mine ∙ c.meet.ensures.seats.disc_grown.mine)) c.start-started.ensures.busy

pub returns-clause-disc : goal.returns-clause-disc
returns-clause-disc g c =
    let old = c.args.self.now in
    let a = c.start-started in
    let b = c.meet in
    let d = c.meet-2 in
    later_disc g.D.Disk g.J.Run.opening old d.new.self c.lawful.ensures c.lawful-2.ensures (d.ensures.seats.disc_grown.part ∙ b.ensures.seats.disc_grown.part ∙ a.ensures.later_seat.place)
    (prefix_then old.seat.seen a.new.self.seat.seen d.new.self.seat.seen a.ensures.later_seat.begins (prefix_then a.new.self.seat.seen b.new.self.seat.seen d.new.self.seat.seen b.ensures.seats.disc_grown.begins d.ensures.seats.disc_grown.begins))

pub start-started-requires : goal.start-started-requires
start-started-requires g c =
    let old = c.args.self.now in
    let few = few_begun old.part.events in
    let count = own_count old.seat old.part.events c.lawful.ensures.told in
    let less = c.requires in
    omega (arith, few, count, less)

pub returns-clause-known : goal.returns-clause-known
returns-clause-known g c =
    let o = g.J.Run.opening in
    let n : ℕ = c.args.self.now.part.number in
    let mid = c.start-started.new.self in
    if_some c.start-started.result (λ x. Knows node o mid.seat (Started n x.0 x.1)) (λ x. Knows node o c.meet.new.caller (Started n x.0 x.1)) (λ x. c.meet.ensures.tells (Started n x.0 x.1)) c.start-started.ensures.known

pub returns-clause-dumper : goal.returns-clause-dumper
returns-clause-dumper g c =
    let b = c.meet in
    let d = c.meet-2 in
    record {
      grown = b.ensures.seats.caller_grown;
      still_knows = b.ensures.seats.caller_learned;
      events = seen_events b.new.self.seat (disc_part d.new.self.part.number) b.new.caller.seen (sym d.ensures.seats.disc_grown.part ∙ c.lawful-2.ensures.place) (sym b.ensures.same) ∙ sym d.ensures.seats.disc_grown.mine;
    }

pub returns-clause-caller : goal.returns-clause-caller
returns-clause-caller g c =
    let d = c.meet-2 in (
      record {
        grown = d.ensures.seats.caller_grown;
        still_knows = d.ensures.seats.caller_learned;
        events = seen_events d.new.self.seat (disc_part d.new.self.part.number) d.new.caller.seen c.lawful-2.ensures.place (sym d.ensures.same);
      },
      sym d.ensures.same,
    )
