use Rattle.std.proofs.Common.{◌≡◌, inl, inr, ℕ, List, [], ◌∷◌, Option, Some, IsSome, refl, ap, sym, ◌∙◌, subst}
use Rattle.chronicle.specs.Seats.{Knows, Sight}
use Rattle.trail_files.specs.declared.monitor_record.MonitorRecord.TheVariants.{Commit}
use Rattle.node_machine.specs.declared.event.Event.{Event}
use Rattle.node_machine.specs.declared.event.Event.TheVariants.{OfWorker}
use Rattle.node_machine.specs.declared.event.WorkerEvent.TheVariants.{End}
use Rattle.node_machine.specs.Node.{node}
use Rattle.node_machine.specs.Parts.Fact.{Recorded}
use Rattle.phase_one.specs.Stopped.{HaveDiscs}
use Rattle.run_outcomes.specs.declared.outcome.Told.TheVariants as told
use Rattle.run_worker.specs.Ended.{HasLeftAll, IsCommitted}
use Rattle.run_worker.proofs.Leaving.{come_on, left_all, left_all_of, released_all, stepped_then}
use Rattle.run_worker.proofs.ending.record_commit.Goals as goal

pub release_all-requires-clause-discs : goal.release_all-requires-clause-discs
release_all-requires-clause-discs g c = subst (λ (l : List ℕ). HaveDiscs c.args.shared.now.discs.now l) (sym c.in-Ok.ensures.settled.stepped.discs) c.requires.discs

pub release_all-requires-clause-committed : goal.release_all-requires-clause-committed
release_all-requires-clause-committed g c = subst (λ (p : Option ℕ). IsSome p) (sym c.in-Ok.ensures.settled.place_is) refl

pub commit_place-place-requires : goal.commit_place-place-requires
commit_place-place-requires g c = subst (λ (p : Option ℕ). IsSome p) (sym (c.release_all.ensures.place ∙ c.in-Ok.ensures.settled.place_is)) refl

pub finish-requires : goal.finish-requires
finish-requires g c =
    let o = g.J.Run.opening in
    let old = c.args.tx in
    let ended = c.in-Ok.ended.txn in
    let last = c.release_all.new.tx.txn in
    let came = come_on o old ended (OfWorker (End old.tx) ∷ []) c.in-Ok.ensures.settled.stepped c.requires.come in
    released_all o ended last c.release_all.ensures.txn (left_all o ended last.seat c.release_all.ensures.left came)

pub returns-in-Ok : goal.returns-in-Ok
returns-in-Ok g c =
    let o = g.J.Run.opening in
    let old = c.args.tx in
    let ended = c.in-Ok.ended.txn in
    let last = c.release_all.new.tx.txn in
    let own : List Event = OfWorker (End old.tx) ∷ [] in
    let settled = c.in-Ok.ensures.settled in
    let step = c.release_all.ensures.txn in
    let whole = stepped_then o old ended last own [] settled.stepped step in
    let came = come_on o old ended own settled.stepped c.requires.come in
    let left : HasLeftAll old last.seat = left_all_of o old ended own last.seat settled.stepped (left_all o ended last.seat c.release_all.ensures.left came) in
    let both : Some c.commit_place-place.result ≡ Some settled.place = sym c.commit_place-place.ensures ∙ c.release_all.ensures.place ∙ settled.place_is in
    let place : settled.place ≡ c.commit_place-place.result = cc (both) in
    let known : Knows node o last.seat (Recorded (Commit old.tx) settled.place) = step.seat.kept (Recorded (Commit old.tx) settled.place) settled.recorded in
    inl (
      c.commit_place-place.result,
      ap (λ (r : List (ℕ × Option (List ℕ))). told.Committed c.commit_place-place.result r) c.new-reads.ensures,
      subst (λ (v : Sight Event). IsCommitted o old own v c.commit_place-place.result) (sym c.finish.ensures) (record {
        advanced = whole.seat;
        recorded = subst (λ (n : ℕ). Knows node o last.seat (Recorded (Commit old.tx) n)) place known;
        left = left;
      }),
    )

pub returns-in-Err : goal.returns-in-Err
returns-in-Err g c = inr (refl, record { advanced = c.in-Err.ensures.in_doubt.advanced; failed = c.in-Err.ensures.in_doubt.failed })
