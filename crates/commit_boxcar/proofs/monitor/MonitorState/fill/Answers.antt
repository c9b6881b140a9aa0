use Rattle.std.proofs.Common.{[], ◌∷◌, ap, sym, subst}
use Rattle.commit_boxcar.specs.Monitor.{Monitor}
use Rattle.commit_boxcar.specs.Requests.{ArePopped}
use Rattle.commit_boxcar.proofs.Cars.{filled_none, filled_more}
use Rattle.commit_boxcar.proofs.monitor.MonitorState.fill.Goals as goal

pub loop-init : goal.loop-init
loop-init g c = filled_none c.args.self.now

pub loop-preserved : goal.loop-preserved
loop-preserved g c =
    let view = c.self.view_is in
    let popped : Monitor g.row.D.Denot = record { seat = c.self.inside.seat; trail = c.self.inside.trail; room = c.self.inside.room.requests; end = c.pop.new.self } in
    filled_more c.args.self.now c.loop.self popped c.take.new.self c.in-Some-pop.waiting c.loop.invariant (ap (λ v. v.seat) view) (ap (λ v. v.trail) view) (ap (λ v. v.room) view)
    (subst (λ v. ArePopped (c.in-Some-pop.waiting ∷ []) v.end c.pop.new.self) view c.in-Some-pop.ensures) c.take.ensures
