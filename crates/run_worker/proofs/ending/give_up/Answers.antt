use Rattle.std.proofs.Common.{inl, inr, [], refl, ap, sym, subst}
use Rattle.chronicle.specs.Seats.{Sight}
use Rattle.node_machine.specs.declared.event.Event.{Event}
use Rattle.txn_states.specs.Txn.{HasAdvanced}
use Rattle.run_outcomes.specs.declared.outcome.Told.TheVariants as told
use Rattle.run_worker.specs.Ended.{IsBackedOut}
use Rattle.run_worker.proofs.Leaving.{left_all_of}
use Rattle.run_worker.proofs.ending.give_up.Goals as goal

pub finish-requires : goal.finish-requires
finish-requires g c = c.in-Ok.ensures.backed_out.released c.requires.come

pub returns-in-Ok : goal.returns-in-Ok
returns-in-Ok g c =
    let o = g.J.Run.opening in
    let old = c.args.tx in
    let ended = c.in-Ok.ended in
    let out = c.in-Ok.ensures.backed_out in
    let step = c.in-Ok.ensures.txn in
    record {
      advanced = subst (λ (v : Sight Event). HasAdvanced o old.seat [] v) (sym c.finish.ensures) step.seat;
      how = inl (refl, subst (λ (v : Sight Event). IsBackedOut o old v) (sym c.finish.ensures) (record { place = out.recorded.0; recorded = out.recorded.1; left = left_all_of o old ended.txn [] ended.txn.seat step (out.released c.requires.come) }));
    }

pub returns-in-Err : goal.returns-in-Err
returns-in-Err g c = record {
  advanced = c.in-Err.ensures.txn;
  how = inr (record { hanging = c.in-Err.hanging; tells_is = ap (λ h. told.Hanging h) c.hang_of-why.ensures; cause = c.in-Err.ensures.hanging });
}
