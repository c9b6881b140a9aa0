use Rattle.std.proofs.Common.{inl, inr, ℕ, List, [], ◌∷◌, sym, ◌∙◌, subst}
use Rattle.tmf_model.specs.declared.transid.Transid.{Transid}
use Rattle.node_machine.specs.declared.event.Event.{Event}
use Rattle.node_machine.specs.declared.event.Event.TheVariants.{OfWorker}
use Rattle.node_machine.specs.declared.event.WorkerEvent.TheVariants.{End, Finish, Quit}
use Rattle.txn_states.specs.Txn.{HasStepped}
use Rattle.commit_boxcar.specs.Settled.{IsOfRun}
use Rattle.phase_one.specs.Stopped.{HaveDiscs}
use Rattle.run_outcomes.specs.declared.outcome.Told.{Told}
use Rattle.run_worker.specs.Ended.{HasGivenUp, IsSettled}
use Rattle.run_worker.proofs.Closing.{settled_before}
use Rattle.run_worker.proofs.Leaving.{come_on, stepped_then, stopped_before}
use Rattle.run_worker.proofs.ending.commit.Goals as goal

pub run-requires-clause-discs : goal.run-requires-clause-discs
run-requires-clause-discs g c = subst (λ (l : List ℕ). HaveDiscs c.args.shared.now.discs.now l) (sym c.end.ensures.discs) c.requires.discs

pub run-requires-clause-trails : goal.run-requires-clause-trails
run-requires-clause-trails g c = c.requires.shared.trails_are

pub record_commit-requires-clause-discs : goal.record_commit-requires-clause-discs
record_commit-requires-clause-discs g c = subst (λ (l : List ℕ). HaveDiscs c.args.shared.now.discs.now l) (sym (c.in-Ok.ensures.txn.discs ∙ c.end.ensures.discs)) c.requires.discs

pub record_commit-requires-clause-run : goal.record_commit-requires-clause-run
record_commit-requires-clause-run g c = subst (λ (t : Transid). IsOfRun g.J.NodeRun.found t) (sym (c.in-Ok.ensures.txn.tx ∙ c.end.ensures.tx)) c.requires.run

pub record_commit-requires-clause-come : goal.record_commit-requires-clause-come
record_commit-requires-clause-come g c =
    let o = g.J.Run.opening in
    let old = c.args.tx in
    come_on o c.end.result c.in-Ok.flushed [] c.in-Ok.ensures.txn (come_on o old c.end.result (OfWorker (Finish old.tx) ∷ []) c.end.ensures c.requires.come)

pub returns-in-Ok : goal.returns-in-Ok
returns-in-Ok g c =
    let o = g.J.Run.opening in
    let old = c.args.tx in
    let flushed = c.in-Ok.flushed in
    let finish : List Event = OfWorker (Finish old.tx) ∷ [] in
    let step : HasStepped o old finish flushed = stepped_then o old c.end.result flushed finish [] c.end.ensures c.in-Ok.ensures.txn in
    let settled = subst (λ (t : Transid). IsSettled o flushed (OfWorker (End t) ∷ []) c.args.reads.items c.record_commit.result.0 c.record_commit.result.1) step.tx c.record_commit.ensures in
    inl (settled_before o old flushed finish (OfWorker (End old.tx) ∷ []) c.args.reads.items c.record_commit.result.0 c.record_commit.result.1 step settled)

pub give_up-requires-clause-discs : goal.give_up-requires-clause-discs
give_up-requires-clause-discs g c = subst (λ (l : List ℕ). HaveDiscs c.args.shared.now.discs.now l) (sym (c.quit.ensures.discs ∙ c.in-Err.ensures.txn.discs ∙ c.end.ensures.discs)) c.requires.discs

pub give_up-requires-clause-run : goal.give_up-requires-clause-run
give_up-requires-clause-run g c = subst (λ (t : Transid). IsOfRun g.J.NodeRun.found t) (sym (c.quit.ensures.tx ∙ c.in-Err.ensures.txn.tx ∙ c.end.ensures.tx)) c.requires.run

pub give_up-requires-clause-come : goal.give_up-requires-clause-come
give_up-requires-clause-come g c =
    let o = g.J.Run.opening in
    let old = c.args.tx in
    let ending = c.in-Err.ending in
    come_on o ending c.quit.result (OfWorker (Quit ending.tx) ∷ []) c.quit.ensures
    (come_on o c.end.result ending [] c.in-Err.ensures.txn (come_on o old c.end.result (OfWorker (Finish old.tx) ∷ []) c.end.ensures c.requires.come))

pub returns-in-Err : goal.returns-in-Err
returns-in-Err g c =
    let o = g.J.Run.opening in
    let config = g.J.NodeRun.found.config in
    let old = c.args.tx in
    let ending = c.in-Err.ending in
    let finish : List Event = OfWorker (Finish old.tx) ∷ [] in
    let step : HasStepped o old finish ending = stepped_then o old c.end.result ending finish [] c.end.ensures c.in-Err.ensures.txn in
    inr (record {
      ending = ending;
      quitting = c.quit.result;
      stop = c.in-Err.stopped;
      finished = step;
      cause = stopped_before o config old c.end.result ending finish c.in-Err.stopped c.end.ensures c.in-Err.ensures.stopped;
      quit = subst (λ (t : Transid). HasStepped o ending (OfWorker (Quit t) ∷ []) c.quit.result) step.tx c.quit.ensures;
      given_up = subst (λ (why : Told). HasGivenUp g.D.Disk o config g.J.DeviceRun.devices c.quit.result why c.give_up.result.0 c.give_up.result.1) c.told_by_stop.ensures c.give_up.ensures;
    })
