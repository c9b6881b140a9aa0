use Rattle.std.proofs.Common.{ℕ, List, [], ◌∷◌, sym, subst}
use Rattle.tmf_model.specs.declared.script.Close.{Close}
use Rattle.tmf_model.specs.declared.transid.Transid.{Transid}
use Rattle.node_machine.specs.declared.event.Event.TheVariants.{OfWorker}
use Rattle.node_machine.specs.declared.event.WorkerEvent.TheVariants.{Quit}
use Rattle.commit_boxcar.specs.Settled.{IsOfRun}
use Rattle.phase_one.specs.Stopped.{HaveDiscs}
use Rattle.run_outcomes.specs.declared.outcome.Told.TheVariants.{Aborted}
use Rattle.run_worker.specs.Attempted.{HasClosedBy, HasQuitFor}
use Rattle.run_worker.proofs.Leaving.{come_on}
use Rattle.run_worker.proofs.attempting.close_attempt.Goals as goal

pub give_up-requires-clause-discs : goal.give_up-requires-clause-discs
give_up-requires-clause-discs g c = subst (λ (l : List ℕ). HaveDiscs c.args.shared.now.discs.now l) (sym c.quit.ensures.discs) c.requires.discs

pub give_up-requires-clause-run : goal.give_up-requires-clause-run
give_up-requires-clause-run g c = subst (λ (t : Transid). IsOfRun g.J.NodeRun.found t) (sym c.quit.ensures.tx) c.requires.run

pub give_up-requires-clause-come : goal.give_up-requires-clause-come
give_up-requires-clause-come g c = come_on g.J.Run.opening c.args.tx c.quit.result (OfWorker (Quit c.args.tx.tx) ∷ []) c.quit.ensures c.requires.come

pub returns-in-Abort : goal.returns-in-Abort
returns-in-Abort g c =
    let o = g.J.Run.opening in
    let config = g.J.NodeRun.found.config in
    let quit : HasQuitFor g.D.Disk o config g.J.DeviceRun.devices c.args.tx Aborted c.give_up.result.0 c.give_up.result.1 = record { quitting = c.quit.result; quit = c.quit.ensures; given_up = c.give_up.ensures } in
    subst (λ (k : Close). HasClosedBy g.D.Disk o config g.J.DeviceRun.devices k c.args.reads.items c.args.tx c.give_up.result.0 c.give_up.result.1) (sym c.in-Abort.is) quit

pub returns-in-Commit : goal.returns-in-Commit
returns-in-Commit g c =
    subst (λ (k : Close). HasClosedBy g.D.Disk g.J.Run.opening g.J.NodeRun.found.config g.J.DeviceRun.devices k c.args.reads.items c.args.tx c.commit.result.0 c.commit.result.1) (sym c.in-Commit.is) c.commit.ensures
