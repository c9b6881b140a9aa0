use Rattle.std.proofs.Common.{◌≡◌, ℕ, suc, length, drop, ap, sym, ◌∙◌, arith, add-one}
use Rattle.chronicle.specs.Seats.{new_seats}
use Rattle.node_machine.specs.declared.event.Event.{Event}
use Rattle.run_outcomes.specs.Devices.{workers}
use Rattle.run_threads.specs.Hands.{IsFresh}
use Rattle.run_threads.proofs.Made.{idle_seats, is_fresh, next_room, next_seat, one_made}
use Rattle.run_threads.proofs.making.add_workers.Goals as goal

pub loop-room-preserved : goal.loop-room-preserved
loop-room-preserved g c =
    let i = c.loop-room.invariant in
    let n = c.loop-room.number in
    let phase = c.args.phase.now in
    let rooms = c.args.rooms.items in
    let e = c.new_worker-worker.ensures in
    let hand = c.new_worker-worker.result in
    let pushed = c.push_reserved.ensures in
    let some = i.some in
    let count = c.requires.rooms.count in
    let few = c.requires.few in
    let less : length c.loop-room.rest ≡ suc (length c.take.new.self) = ap length c.in-Some.ensures in
    let seat = next_seat c.loop-room.crew.seats.items n c.remove-seat.result (omega (arith, some, count, few, less)) i.seats c.remove-seat.ensures.value in
    let room = next_room phase rooms c.loop-room.rest c.take.new.self n c.in-Some.room c.requires.rooms i.rooms c.in-Some.ensures in
    let fresh : IsFresh phase hand = is_fresh phase rooms hand n c.in-Some.room c.requires.rooms room.0 e.number (e.seat ∙ seat.0) e.room e.share e.begins in
    record {
      rooms = room.1 ∙ ap (λ (k : ℕ). drop k rooms) (sym (add-one n));
      seats = c.remove-seat.ensures.items ∙ seat.1 ∙ ap (λ (k : ℕ). drop k (new_seats {E = Event} workers)) (sym (add-one n));
      made = one_made phase n c.args.crew.now.hands.items c.loop-room.crew.hands.items c.push_reserved.new.self.items hand i.made pushed.items e.number fresh;
      dealt = record { parts = omega (arith, i.dealt.parts, e.dealt.parts); amount = omega (arith, i.dealt.amount, e.dealt.amount) };
      some = omega (arith, some, less);
      many = omega (arith, i.many, pushed.len);
      left = omega (arith, i.left, c.remove-seat.ensures.len);
      capacity = pushed.capacity ∙ i.capacity;
      seats_capacity = c.remove-seat.ensures.capacity ∙ i.seats_capacity;
    }

pub returns-clause-idle : goal.returns-clause-idle
returns-clause-idle g c =
    let i = c.loop-room.invariant in
    let none = ap length c.in_default.ensures.0 in
    let some = i.some in
    let count = c.requires.rooms.count in
    let left = i.left in
    record {
      has = λ worker past few. idle_seats c.loop-room.crew.seats.items c.loop-room.number i.seats worker (omega (arith, past, some, none, count)) few;
      many = omega (arith, left, some, none, count);
      room = (let whole : length c.args.crew.now.seats.items ≡ 16 = ap length c.requires.seats in let ok = c.args.crew.now.seats.ok in omega (arith, i.seats_capacity, whole, ok.0, ok.1));
    }
