use Rattle.std.proofs.Common.{[], ◌∷◌, inl, inr, refl, ◌∙◌}
use Rattle.node_machine.specs.declared.event.MonitorEvent.TheVariants.{Offer, Failed}
use Rattle.commit_boxcar.proofs.Cars.{err_anyway, line_after_land, line_same}
use Rattle.commit_boxcar.proofs.Seats.{had_then}
use Rattle.commit_boxcar.proofs.monitor.MonitorState.next_car.Goals as goal

pub returns-in_err-land-clause-stopped : goal.returns-in_err-land-clause-stopped
returns-in_err-land-clause-stopped g c = err_anyway c.from_residual.result (record { before = []; offer_alone = inl refl; had = c.in_err-land.ensures.err })

pub returns-in_err-offer-clause-stopped : goal.returns-in_err-offer-clause-stopped
returns-in_err-offer-clause-stopped g c =
    err_anyway c.from_residual-in_err-offer.result
    (record {
      before = [];
      offer_alone = inl refl;
      had = had_then [] (Failed c.args.by ∷ []) c.args.self.now.seat c.fill.new.self.seat c.offer.new.self.seat c.fill.ensures.filled.had c.in_err-offer.ensures.err;
    })

pub returns-in_err-land-2-clause-stopped : goal.returns-in_err-land-2-clause-stopped
returns-in_err-land-2-clause-stopped g c =
    let u = c.fill.new.self in
    err_anyway c.from_residual-in_err-land-2.result
    (record {
      before = Offer u.room ∷ [];
      offer_alone = inr (u.room, refl, c.land-then-count-gt0.ensures.requests.0 ∙ c.in_ok-offer.ensures.empty);
      had = had_then (Offer u.room ∷ []) (Failed c.args.by ∷ []) c.args.self.now.seat c.offer.new.self.seat c.land-then-count-gt0.new.self.seat
          (had_then [] (Offer u.room ∷ []) c.args.self.now.seat u.seat c.offer.new.self.seat c.fill.ensures.filled.had c.in_ok-offer.ensures.ok) c.in_err-land-2.ensures.err;
    })

pub returns-then-offered-gt0-clause-line : goal.returns-then-offered-gt0-clause-line
returns-then-offered-gt0-clause-line g c =
    line_same c.args.self.now c.land.new.self (line_after_land c.args.self.now c.land.new.self c.in_ok-land.ensures.ok c.land.ensures.requests.0) c.land.ensures.requests.1
