use Rattle.std.proofs.Common.{◌≡◌, ap, sym, subst, ◌∙◌}
use mathlib.Core.List.{IsPrefix}
use Rattle.chronicle.specs.Seats.{Sight, HasGrown, Knows}
use Rattle.tmf_model.specs.declared.transid.Transid.{Transid}
use Rattle.node_machine.specs.declared.event.Event.{Event}
use Rattle.node_machine.specs.Disc.{IsBackedOut}
use Rattle.node_machine.specs.Node.{node}
use Rattle.node_machine.specs.Parts.Fact.{Decided}
use Rattle.tmf_model.specs.declared.script.Close.TheVariants.{Abort as Backing}
use Rattle.disc_process.specs.Device.{device_of}
use Rattle.disc_process.specs.Disc.{DiscView, the_disc}
use Rattle.disc_process.specs.Undo.{IsUndoAnswer}
use Rattle.disc_process.proofs.Answered.{met_same}
use Rattle.disc_process.proofs.Keeping.{disc_seat_same}
use Rattle.disc_process.proofs.Undone.{answer_met}
use Rattle.disc_process.specs.Seats.{IsLaterSeat}
use Rattle.disc_process.proofs.Seats.{seat_grown, seat_then}
use Rattle.disc_process.proofs.disc.DiscState.undo_step.Goals as goal

pub undo-answer-requires-clause-decided : goal.undo-answer-requires-clause-decided
undo-answer-requires-clause-decided g c =
    let o = g.J.Run.opening in
    let a = c.args.tx.now in
    subst (λ (t : Transid). IsBackedOut (Knows node o c.meet.new.other) t) (sym c.tx-t.ensures.tx) (a.discs, c.meet.ensures.met.tells (Decided a.tx Backing a.discs) c.tx-t.ensures.state.decided)

pub returns-clause-undone : goal.returns-clause-undone
returns-clause-undone g c =
    let o = g.J.Run.opening in
    let i = c.self.invariant in
    let m = c.meet.ensures.met in
    let m2 = c.meet-2.ensures.met in
    let a = c.undo-answer in
    let old = c.args.self.now in
    let t : Transid = c.args.tx.now.tx in
    let met : DiscView g.row.D.Denot = record { seat = c.meet.new.other; part = the_disc o c.meet.new.other; blocks = c.self.inside.blocks; handed_in = g.J.DeviceRun.devices (device_of c.self.inside.volume) } in
    let same = disc_seat_same o c.self.inside.config.now c.self.inside.volume _ c.self.inside.seat c.meet.new.other i.seat m.second_learned.state m.second.part in
    let grown : HasGrown old.seat c.meet.new.other = subst (λ (v : DiscView g.row.D.Denot). HasGrown v.seat c.meet.new.other) c.self.view_is m.second in
    let answer : IsUndoAnswer g.D.Disk met a.new.self t a.result = subst (λ (x : Transid). IsUndoAnswer g.D.Disk met a.new.self x a.result) c.tx-t.ensures.tx a.ensures.undone in
    let behind : IsPrefix c.meet.new.self.seat.seen c.self-2.inside.seat.seen =
    subst (λ l. IsPrefix l c.self-2.inside.seat.seen) (sym m.same) (subst (λ (v : DiscView g.row.D.Denot). IsPrefix c.meet.new.other.seen v.seat.seen) (sym c.self-2.view_is) a.ensures.later_seat.begins) in
    let seen = met_same c.meet.new.self.seat.seen c.self-2.inside.seat.seen c.meet-2.new.other.seen m2.both behind in
    let part = m2.second.part in
    let seat : c.meet-2.new.other ≡ c.self-2.inside.seat = λ j. record { part = part j; seen = seen j } in
    let disc : record { seat = c.meet-2.new.other; part = the_disc o c.meet-2.new.other; blocks = c.self-2.inside.blocks; handed_in = g.J.DeviceRun.devices (device_of c.self-2.inside.volume) } ≡ a.new.self =
    ap (λ (v : Sight Event). record { seat = v; part = the_disc o v; blocks = c.self-2.inside.blocks; handed_in = g.J.DeviceRun.devices (device_of c.self-2.inside.volume) }) seat ∙ c.self-2.view_is in
    subst (λ (v : DiscView g.row.D.Denot). IsUndoAnswer g.D.Disk old v t a.result) (sym disc)
    (answer_met g.D.Disk old met a.new.self t (same.0 ∙ ap (λ (v : DiscView g.row.D.Denot). v.part) c.self.view_is) (ap (λ (v : DiscView g.row.D.Denot). v.blocks) c.self.view_is) grown a.ensures.later a.result answer)

pub returns-clause-later_seat : goal.returns-clause-later_seat
returns-clause-later_seat g c =
    let a = c.undo-answer in
    let old = c.args.self.now in
    let met = c.meet.new.other in
    let now = c.meet-2.new.other in
    let first : IsLaterSeat old.seat met = subst (λ (v : DiscView g.row.D.Denot). IsLaterSeat v.seat met) c.self.view_is (seat_grown c.self.inside.seat met c.meet.ensures.met.second) in
    let last : IsLaterSeat a.new.self.seat now = subst (λ (v : DiscView g.row.D.Denot). IsLaterSeat v.seat now) c.self-2.view_is (seat_grown c.self-2.inside.seat now c.meet-2.ensures.met.second) in
    seat_then old.seat met now first (seat_then met a.new.self.seat now a.ensures.later_seat last)
