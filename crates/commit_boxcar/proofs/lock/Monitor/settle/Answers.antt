use Rattle.std.proofs.Common.{[], ◌∷◌, ap, sym, ◌∙◌}
use Rattle.trail_files.specs.declared.monitor_record.MonitorRecord.TheVariants.{Commit}
use Rattle.node_machine.specs.declared.event.Event.TheVariants.{OfWorker}
use Rattle.node_machine.specs.declared.event.WorkerEvent.TheVariants.{End}
use Rattle.commit_boxcar.proofs.Cars.{on_ok_of}
use Rattle.commit_boxcar.proofs.Endings.{commit_waits, doubt_by, of_run, on_err_of, settled_by}
use Rattle.commit_boxcar.proofs.lock.Monitor.settle.Goals as goal

pub ask_for-asked-requires : goal.ask_for-asked-requires
ask_for-asked-requires g c =
    let o = g.J.Run.opening in
    let t = c.decide-decided.result in
    record { asks = commit_waits o g.J.NodeRun.found t c.tx-id.result c.note-note.result c.tx-id.ensures.tx c.note-note.ensures.note c.tx-id.ensures.state (of_run o g.J.NodeRun.found c.args.tx.tx t.tx c.decide-decided.ensures.tx c.requires.run) }

pub commit-requires : goal.commit-requires
commit-requires g c =
    let o = g.J.Run.opening in
    record {
      run = of_run o g.J.NodeRun.found c.args.tx.tx c.note-note.new.self.tx (ap (λ t. t.tx) c.note-note.ensures.same ∙ c.decide-decided.ensures.tx) c.requires.run;
      asked = c.ask_for-asked.ensures.asked ∙ ap (λ t. Commit t) (c.tx-id.ensures.tx ∙ sym (ap (λ t. t.tx) c.note-note.ensures.same));
    }

pub returns-clause-settled : goal.returns-clause-settled
returns-clause-settled g c =
    on_ok_of c.commit.result (λ e r. settled_by g.J.Run.opening c.args.tx c.decide-decided.result c.note-note.new.self e c.decide-decided.ensures c.note-note.ensures.same r) c.commit.ensures.recorded

pub returns-clause-in_doubt : goal.returns-clause-in_doubt
returns-clause-in_doubt g c =
    let o = g.J.Run.opening in
    let t = c.args.tx in
    on_err_of o c.commit.result (λ e d. doubt_by o (OfWorker (End t.tx) ∷ []) t c.decide-decided.result c.note-note.new.self e.tx e.seat c.decide-decided.ensures c.note-note.ensures.same d) c.commit.ensures.in_doubt
