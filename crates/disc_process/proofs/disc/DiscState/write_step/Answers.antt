use Rattle.std.proofs.Common.{◌≡◌, ℕ, List, ap, sym, subst, ◌∙◌}
use mathlib.Core.List.{IsPrefix}
use Rattle.chronicle.specs.Seats.{Sight}
use Rattle.node_machine.specs.declared.event.Event.{Event}
use Rattle.tmf_model.specs.declared.transid.Transid.{Transid}
use Rattle.disc_process.specs.Device.{device_of}
use Rattle.disc_process.specs.Disc.{DiscView, the_disc}
use Rattle.disc_process.specs.Write.{IsAnswered}
use Rattle.disc_process.specs.InTime.{IsUnended}
use Rattle.disc_process.proofs.Answered.{met_answered, met_same}
use Rattle.disc_process.proofs.InTime.{active_unended}
use Rattle.disc_process.proofs.disc.DiscState.write_step.Goals as goal

pub returns-clause-answered : goal.returns-clause-answered
returns-clause-answered g c =
    let o = g.J.Run.opening in
    let a = c.attempt-answer in
    let m = c.meet.ensures.met in
    let t_mid = a.new.tx in
    let behind : IsPrefix t_mid.seat.seen c.self.inside.seat.seen = subst (λ (v : DiscView g.row.D.Denot). IsPrefix t_mid.seat.seen v.seat.seen) (sym c.self.view_is) a.ensures.behind in
    let seen = met_same t_mid.seat.seen c.self.inside.seat.seen c.meet.new.other.seen m.both behind in
    let part = m.second.part in
    let seat : c.meet.new.other ≡ c.self.inside.seat = λ j. record { part = part j; seen = seen j } in
    let disc : record { seat = c.meet.new.other; part = the_disc o c.meet.new.other; blocks = c.self.inside.blocks; handed_in = g.J.DeviceRun.devices (device_of c.self.inside.volume) } ≡ a.new.self =
    ap (λ (v : Sight Event). record { seat = v; part = the_disc o v; blocks = c.self.inside.blocks; handed_in = g.J.DeviceRun.devices (device_of c.self.inside.volume) }) seat ∙ c.self.view_is in
    subst (λ (v : DiscView g.row.D.Denot). IsAnswered g.D.Disk c.args.self.now v c.args.tx.now c.meet.new.self c.args.step.now a.result) (sym disc)
    (met_answered g.D.Disk c.args.self.now a.new.self c.args.tx.now t_mid c.meet.new.self c.args.step.now (record { events = m.first.mine; discs = m.discs }) a.result a.ensures.answered)

pub returns-clause-in_time : goal.returns-clause-in_time
returns-clause-in_time g c =
    let m = c.meet.ensures in
    let after = c.meet.new.self in
    let unended : IsUnended after.tx after.seat.seen = active_unended g.J.Run.opening after.seat after.tx after.discs c.self.invariant.fresh m.met.first_learned.history m.state.active in
    let same : after.tx ≡ c.args.tx.now.tx = m.met.tx ∙ c.attempt-answer.ensures.txn.tx in
    subst (λ (seen : List (ℕ × Event)). IsUnended c.args.tx.now.tx seen) m.met.same (subst (λ (t : Transid). IsUnended t after.seat.seen) same unended)
