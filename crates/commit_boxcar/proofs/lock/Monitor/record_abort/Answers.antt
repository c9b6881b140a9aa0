use Rattle.std.proofs.Common.{[], ap, sym, ◌∙◌, subst}
use Rattle.trail_files.specs.declared.monitor_record.MonitorRecord.TheVariants.{Abort}
use Rattle.commit_boxcar.specs.Settled.{HasAborted, IsInDoubt}
use Rattle.commit_boxcar.proofs.Cars.{on_ok_of}
use Rattle.commit_boxcar.proofs.Endings.{abort_waits, of_run, on_err_of}
use Rattle.commit_boxcar.proofs.lock.Monitor.record_abort.Goals as goal

pub ask_for-asked-requires : goal.ask_for-asked-requires
ask_for-asked-requires g c = record { asks = abort_waits g.J.Run.opening g.J.NodeRun.found c.args.tx c.tx-id.result c.note-note.result c.tx-id.ensures.tx c.note-note.ensures.note c.tx-id.ensures.state c.requires.run }

pub abort-requires : goal.abort-requires
abort-requires g c = record {
  run = of_run g.J.Run.opening g.J.NodeRun.found c.args.tx.tx c.note-note.new.self.tx (ap (λ t. t.tx) c.note-note.ensures.same) c.requires.run;
  asked = c.ask_for-asked.ensures.asked ∙ ap (λ t. Abort t) (c.tx-id.ensures.tx ∙ sym (ap (λ t. t.tx) c.note-note.ensures.same));
}

pub returns-clause-aborted : goal.returns-clause-aborted
returns-clause-aborted g c = on_ok_of c.abort.result (λ e r. subst (λ t. HasAborted g.J.Run.opening t e) c.note-note.ensures.same r) c.abort.ensures.aborted

pub returns-clause-in_doubt : goal.returns-clause-in_doubt
returns-clause-in_doubt g c = on_err_of g.J.Run.opening c.abort.result (λ e d. subst (λ t. IsInDoubt g.J.Run.opening t [] e.tx e.seat) c.note-note.ensures.same d) c.abort.ensures.in_doubt
