use Rattle.std.proofs.Common.{◌≡◌, ap, sym, subst, ◌∙◌}
use mathlib.Core.List.{IsPrefix}
use Rattle.chronicle.specs.Seats.{Sight, HasGrown, Knows}
use Rattle.tmf_model.specs.declared.transid.Transid.{Transid}
use Rattle.node_machine.specs.declared.event.DiscEvent.TheVariants as did
use Rattle.node_machine.specs.declared.event.Event.{Event}
use Rattle.node_machine.specs.Disc.{DiscAsks}
use Rattle.node_machine.specs.Node.{node}
use Rattle.disc_process.specs.Device.{device_of}
use Rattle.disc_process.specs.Disc.{DiscView, the_disc}
use Rattle.disc_process.specs.Release.{HasFreed}
use Rattle.disc_process.proofs.Answered.{met_same}
use Rattle.disc_process.proofs.Freeing.{commit_asks, freed_met}
use Rattle.disc_process.proofs.Keeping.{disc_seat_same}
use Rattle.disc_process.proofs.disc.DiscState.release_step.Goals as goal

pub free-requires-clause-ended : goal.free-requires-clause-ended
free-requires-clause-ended g c =
    let o = g.J.Run.opening in
    let v = c.meet.new.other in
    subst (λ (x : Transid). DiscAsks (Knows node o v) (the_disc o v) (did.Release x)) (sym c.tx-t.ensures.tx)
    (commit_asks o c.args.tx.now.txn c.args.tx.now.place v (the_disc o v) (λ f knows. c.meet.ensures.met.tells f knows) c.requires c.tx-t.ensures.state.ended)

pub returns-clause-freed : goal.returns-clause-freed
returns-clause-freed g c =
    let o = g.J.Run.opening in
    let i = c.self.invariant in
    let m = c.meet.ensures.met in
    let m2 = c.meet-2.ensures.met in
    let old = c.args.self.now in
    let met : DiscView g.row.D.Denot = record { seat = c.meet.new.other; part = the_disc o c.meet.new.other; blocks = c.self.inside.blocks; handed_in = g.J.DeviceRun.devices (device_of c.self.inside.volume) } in
    let same = disc_seat_same o c.self.inside.config.now c.self.inside.volume _ c.self.inside.seat c.meet.new.other i.seat m.second_learned.state m.second.part in
    let grown : HasGrown old.seat c.meet.new.other = subst (λ (v : DiscView g.row.D.Denot). HasGrown v.seat c.meet.new.other) c.self.view_is m.second in
    let freed : HasFreed met c.free.new.self c.args.tx.now.txn.tx = subst (λ (x : Transid). HasFreed met c.free.new.self x) c.tx-t.ensures.tx c.free.ensures in
    let behind : IsPrefix c.meet.new.self.txn.seat.seen c.self-2.inside.seat.seen =
    subst (λ l. IsPrefix l c.self-2.inside.seat.seen) (sym m.same) (subst (λ (v : DiscView g.row.D.Denot). IsPrefix c.meet.new.other.seen v.seat.seen) (sym c.self-2.view_is) freed.begins) in
    let seen = met_same c.meet.new.self.txn.seat.seen c.self-2.inside.seat.seen c.meet-2.new.other.seen m2.both behind in
    let part = m2.second.part in
    let seat : c.meet-2.new.other ≡ c.self-2.inside.seat = λ j. record { part = part j; seen = seen j } in
    let disc : record { seat = c.meet-2.new.other; part = the_disc o c.meet-2.new.other; blocks = c.self-2.inside.blocks; handed_in = g.J.DeviceRun.devices (device_of c.self-2.inside.volume) } ≡ c.free.new.self =
    ap (λ (v : Sight Event). record { seat = v; part = the_disc o v; blocks = c.self-2.inside.blocks; handed_in = g.J.DeviceRun.devices (device_of c.self-2.inside.volume) }) seat ∙ c.self-2.view_is in
    subst (λ (v : DiscView g.row.D.Denot). HasFreed old v c.args.tx.now.txn.tx) (sym disc)
    (freed_met old met c.free.new.self c.args.tx.now.txn.tx (same.0 ∙ ap (λ (v : DiscView g.row.D.Denot). v.part) c.self.view_is) (ap (λ (v : DiscView g.row.D.Denot). v.blocks) c.self.view_is) grown freed)
