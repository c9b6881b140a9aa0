use Rattle.std.proofs.Common.{◌≡◌, [], ◌∷◌, sym, subst}
use Rattle.node_machine.specs.declared.event.MonitorEvent.TheVariants.{Offer, Land}
use Rattle.node_machine.specs.Monitor.{StandsAt}
use Rattle.commit_boxcar.specs.Seat.{HasHad}
use Rattle.commit_boxcar.proofs.Cars.{err_anyway, line_after_fault, line_after_land, line_for_offered, line_for_same, line_for_taken, stopped_then}
use Rattle.commit_boxcar.proofs.Records.{alone_taken, stands_alone}
use Rattle.commit_boxcar.proofs.Seats.{had_then}
use Rattle.commit_boxcar.proofs.monitor.MonitorState.car_of.Goals as goal

pub returns-in_err-offer-clause-stopped : goal.returns-in_err-offer-clause-stopped
returns-in_err-offer-clause-stopped g c =
    err_anyway c.from_residual.result (stopped_then c.args.by [] c.args.self.now c.take.new.self c.offer.new.self c.take.ensures.had ([], c.in_err-offer.ensures.err))

pub returns-in_err-land-clause-stopped : goal.returns-in_err-land-clause-stopped
returns-in_err-land-clause-stopped g c =
    let u = c.take.new.self in
    err_anyway c.from_residual-in_err-land.result
    (stopped_then c.args.by (Offer u.room ∷ []) c.args.self.now c.offer.new.self c.land.new.self (had_then [] (Offer u.room ∷ []) c.args.self.now.seat u.seat c.offer.new.self.seat c.take.ensures.had c.in_ok-offer.ensures.ok) ([], c.in_err-land.ensures.err))

pub returns-clause-place : goal.returns-clause-place
returns-clause-place g c =
    let u = c.take.new.self in
    let i = c.self.invariant in
    let view = c.self.view_is in
    let only : u.room ≡ c.args.waiting ∷ [] = alone_taken c.args.self.now u c.args.waiting c.take.ensures c.requires.idle c.requires.next in
    let offer = subst (λ l. HasHad (Offer l ∷ []) u.seat c.offer.new.self.seat) only c.in_ok-offer.ensures.ok in
    let land = subst (λ v. HasHad (Land ∷ []) c.offer.new.self.seat v.seat) (sym view) c.in_ok-land.ensures.ok in
    subst (λ v. StandsAt v.seat.part c.args.waiting c.self.inside.places) view (stands_alone u.seat c.offer.new.self.seat c.self.inside.seat c.args.waiting g.J.NodeRun.found.places c.self.inside.places offer land i.2.at.places i.0)

pub returns-clause-driven : goal.returns-clause-driven
returns-clause-driven g c =
    let u = c.take.new.self in
    let events = Offer u.room ∷ Land ∷ [] in
    (events, had_then (Offer u.room ∷ []) (Land ∷ []) c.args.self.now.seat c.offer.new.self.seat c.land.new.self.seat (had_then [] (Offer u.room ∷ []) c.args.self.now.seat u.seat c.offer.new.self.seat c.take.ensures.had c.in_ok-offer.ensures.ok) c.in_ok-land.ensures.ok)

pub returns-in_err-offer-clause-line : goal.returns-in_err-offer-clause-line
returns-in_err-offer-clause-line g c =
    let v = c.args.self.now in
    let u = c.take.new.self in
    let w = c.offer.new.self in
    line_for_same c.args.waiting v u w (line_for_taken c.args.waiting v u c.take.ensures c.requires.next) (line_after_fault c.args.by u w c.in_err-offer.ensures.err c.in_err-offer.ensures.room) c.offer.ensures.end

pub returns-in_err-land-clause-line : goal.returns-in_err-land-clause-line
returns-in_err-land-clause-line g c =
    let v = c.args.self.now in
    let u = c.offer.new.self in
    let w = c.land.new.self in
    let offered = line_for_offered c.args.waiting v c.take.new.self u c.take.ensures c.requires.idle c.requires.next c.in_ok-offer.ensures.ok c.in_ok-offer.ensures.empty c.offer.ensures.end in
    line_for_same c.args.waiting v u w offered (line_after_fault c.args.by u w c.in_err-land.ensures.err c.land.ensures.requests.0) c.land.ensures.requests.1

pub returns-clause-line : goal.returns-clause-line
returns-clause-line g c =
    let v = c.args.self.now in
    let u = c.offer.new.self in
    let w = c.land.new.self in
    let offered = line_for_offered c.args.waiting v c.take.new.self u c.take.ensures c.requires.idle c.requires.next c.in_ok-offer.ensures.ok c.in_ok-offer.ensures.empty c.offer.ensures.end in
    line_for_same c.args.waiting v u w offered (line_after_land u w c.in_ok-land.ensures.ok c.land.ensures.requests.0) c.land.ensures.requests.1
