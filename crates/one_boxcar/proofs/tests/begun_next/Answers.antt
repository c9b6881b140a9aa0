use Rattle.std.proofs.Common.{[], ◌∷◌, ◌∙◌, suc, ap, sym, subst, arith, add-one}
use Rattle.node_machine.specs.Seats.{CanBegin}
use Rattle.node_machine.specs.declared.event.Event.TheVariants.{OfWorker}
use Rattle.node_machine.specs.declared.event.WorkerEvent.TheVariants.{Begin}
use Rattle.txn_states.specs.Txn.{HasAdvanced}
use Rattle.commit_boxcar.specs.FirstRun.{attempt_of, decided_events}
use Rattle.one_boxcar.proofs.Turns.{can_begin, with_next}
use Rattle.one_boxcar.proofs.tests.begun_next.Goals as goal

pub begin-requires : goal.begin-requires
begin-requires g c =
    let tx = c.attempt_of.ensures ∙ ap (λ n. attempt_of c.args.worker n) (add-one c.args.done) in
    record {
      can = subst (λ t. CanBegin g.J.Run.opening c.args.seat t) (sym tx) (can_begin g.J.Run.opening c.args.worker c.args.done c.args.seat c.requires.seat);
      worker = (let w = ap (λ t. t.worker) tx in let one = c.requires.worker in omega (arith, w, one));
    }

pub returns-in-Ok : goal.returns-in-Ok
returns-in-Ok g c =
    let o = g.J.Run.opening in
    let tx = c.attempt_of.ensures ∙ ap (λ n. attempt_of c.args.worker n) (add-one c.args.done) in
    let b = c.in-Ok.ensures.begun in
    record {
      tx = b.tx ∙ tx;
      discs = b.discs;
      at = with_next o c.args.worker (decided_events c.args.worker c.args.done) (Begin (attempt_of c.args.worker (suc c.args.done))) c.args.seat c.in-Ok.active.seat c.requires.seat (subst (λ t. HasAdvanced o c.args.seat (OfWorker (Begin t) ∷ []) c.in-Ok.active.seat) tx b.seat);
    }
