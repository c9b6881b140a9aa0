use Rattle.std.proofs.Common.{ℕ, List, [], ◌∷◌, sym, subst}
use Rattle.tmf_model.specs.declared.transid.Transid.{Transid}
use Rattle.node_machine.specs.declared.event.Event.TheVariants.{OfWorker}
use Rattle.node_machine.specs.declared.event.WorkerEvent.TheVariants.{Quit}
use Rattle.commit_boxcar.specs.Settled.{IsOfRun}
use Rattle.phase_one.specs.Stopped.{HaveDiscs}
use Rattle.run_worker.proofs.Leaving.{come_on}
use Rattle.run_worker.proofs.attempting.stop_attempt.Goals as goal

pub give_up-requires-clause-discs : goal.give_up-requires-clause-discs
give_up-requires-clause-discs g c = subst (λ (l : List ℕ). HaveDiscs c.args.shared.now.discs.now l) (sym c.quit.ensures.discs) c.requires.discs

pub give_up-requires-clause-run : goal.give_up-requires-clause-run
give_up-requires-clause-run g c = subst (λ (t : Transid). IsOfRun g.J.NodeRun.found t) (sym c.quit.ensures.tx) c.requires.run

pub give_up-requires-clause-come : goal.give_up-requires-clause-come
give_up-requires-clause-come g c = come_on g.J.Run.opening c.args.tx c.quit.result (OfWorker (Quit c.args.tx.tx) ∷ []) c.quit.ensures c.requires.come

pub returns : goal.returns
returns g c = record { quitting = c.quit.result; quit = c.quit.ensures; given_up = c.give_up.ensures }
