use Rattle.std.proofs.Common.{[], ◌∷◌, ◌+◌, suc, ◌∙◌, ap, sym, subst, arith, add-one}
use Rattle.node_machine.specs.Same.{Among}
use Rattle.node_machine.specs.declared.event.Event.TheVariants.{OfWorker}
use Rattle.node_machine.specs.declared.event.WorkerEvent.TheVariants.{Begin, Finish, End}
use Rattle.txn_states.specs.Txn.{HasAdvanced}
use Rattle.commit_boxcar.specs.FirstRun.{attempt_of, decided_events, HasDecided}
use Rattle.commit_boxcar.proofs.Endings.{commit_waits}
use Rattle.one_boxcar.proofs.Turns.{of_first_run, valid_attempt, with_next}
use Rattle.one_boxcar.proofs.many.next_request.Goals as goal

pub flushed-requires : goal.flushed-requires
flushed-requires g c = λ d there. absurd (subst (λ l. Among l d) (c.end.ensures.discs ∙ c.in_ok-active.ensures.discs) there)

pub new-waiting-requires : goal.new-waiting-requires
new-waiting-requires g c =
    let o = g.J.Run.opening in
    let n = suc c.args.done in
    let worker = c.requires.worker in
    let done = c.requires.done in
    let t = c.decide-decided.result in
    let tx = c.decide-decided.ensures.tx ∙ ap (λ f. f.tx) c.flushed.ensures ∙ c.end.ensures.tx ∙ c.in_ok-active.ensures.tx in
    commit_waits o g.J.NodeRun.found t c.tx-id.result c.note-note.result c.tx-id.ensures.tx c.note-note.ensures.note c.tx-id.ensures.state
    (of_first_run g.J.NodeRun.found t.tx c.args.worker n c.requires.found tx (valid_attempt c.args.worker n worker.0 worker.1 (omega arith) (omega (arith, done))))

pub returns : goal.returns
returns g c =
    let o = g.J.Run.opening in
    let worker = c.args.worker in
    let t = attempt_of worker (suc c.args.done) in
    let begun = c.in_ok-active.ensures in
    let active = c.in_ok-active.active in
    let ended = c.end.result in
    let decided = c.decide-decided.result in
    let finish = subst (λ x. HasAdvanced o active.seat (OfWorker (Finish x) ∷ []) ended.seat) begun.tx c.end.ensures.seat in
    let flushed_tx = ap (λ f. f.tx) c.flushed.ensures ∙ c.end.ensures.tx ∙ begun.tx in
    let end = subst (λ x. HasAdvanced o c.flushed.result.seat (OfWorker (End x) ∷ []) decided.seat) flushed_tx c.decide-decided.ensures.seat in
    let events = decided_events worker c.args.done in
    let done = with_next o worker (Begin t ∷ events) (Finish t) active.seat ended.seat begun.at finish in
    let all = with_next o worker (Finish t ∷ Begin t ∷ events) (End t) ended.seat decided.seat done (subst (λ s. HasAdvanced o s (OfWorker (End t) ∷ []) decided.seat) (ap (λ f. f.seat) c.flushed.ensures) end) in
    subst (λ s. HasDecided o worker (c.args.done + 1) s) (sym (c.into_seat.ensures ∙ ap (λ d. d.seat) c.note-note.ensures.same)) (subst (λ n. HasDecided o worker n decided.seat) (sym (add-one c.args.done)) all)
