use Rattle.std.proofs.Common.{ap, ◌∙◌, arith}
use Rattle.chronicle.specs.Seats.{Sight}
use Rattle.node_machine.specs.declared.event.Event.{Event}
use Rattle.run_threads.proofs.Made.{one_more_disc}
use Rattle.run_threads.proofs.making.add_discs.Goals as goal

pub loop-place-preserved : goal.loop-place-preserved
loop-place-preserved g c =
    let i = c.loop-place.invariant in
    let hands = c.loop-place.hands.items in
    let place = c.loop-place.place in
    record {
      note = ap (λ (v : Sight Event). v.part) c.note-own.ensures.same ∙ i.note;
      hands = one_more_disc hands c.push_reserved.new.self.items place c.new.result i.hands c.new.ensures c.push_reserved.ensures.items;
      many = omega (arith, i.many, c.push_reserved.ensures.len);
      capacity = c.push_reserved.ensures.capacity ∙ i.capacity;
      room = i.room;
    }
