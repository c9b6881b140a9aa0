use Rattle.std.proofs.Common.{◌++◌, suc, List, ap, arith, ◌≡◌, length}
use Rattle.chronicle.specs.Seats.{Sight}
use Rattle.node_machine.specs.declared.event.Event.{Event}
use Rattle.node_run.proofs.Moving.{one_moved}
use Rattle.node_run.proofs.closing.move_seats.Goals as goal

pub loop-seat-preserved : goal.loop-seat-preserved
loop-seat-preserved g c =
    let i = c.loop-seat.invariant in
    let rest : List (Sight Event) = c.take.new.self in
    let less : length c.loop-seat.rest ≡ suc (length rest) = ap (λ (l : List (Sight Event)). length l) c.in-Some.ensures in
    record {
      moved = one_moved c.loop-seat.seats.items c.loop-seat.rest rest (c.args.seats.now.items ++ c.args.own.items) c.push_reserved.new.self.items c.in-Some.seat i.moved c.in-Some.ensures c.push_reserved.ensures.items;
      room = omega (arith, i.room, less, c.push_reserved.ensures.len, c.push_reserved.ensures.capacity);
      capacity = omega (arith, c.push_reserved.ensures.capacity, i.capacity);
    }
