-- A worker that has had no event of its own goes on as it was.
use Rattle.std.proofs.Common.{◌≡◌, ℕ, suc, List, Some, ap, sym, ◌∙◌, subst}
use Rattle.chronicle.specs.Histories.{events_of}
use Rattle.chronicle.specs.Seats.{Sight}
use Rattle.chronicle.proofs.Facts.{own_events_of}
use Rattle.node_machine.specs.declared.event.DiscEvent.TheVariants.{Release}
use Rattle.node_machine.specs.declared.event.Event.{Event}
use Rattle.node_machine.specs.declared.event.Event.TheVariants.{OfDisc, OfWorker}
use Rattle.node_machine.specs.declared.event.WorkerEvent.TheVariants.{Enlist}
use Rattle.node_machine.specs.Deeds.{HasEnlisted}
use Rattle.node_machine.specs.Opening.{disc_part, worker_part}
use Rattle.node_machine.specs.Parts.{PartState}
use Rattle.node_machine.specs.Same.{Among}
use Rattle.tmf_model.specs.declared.transid.Transid.{Transid}
use Rattle.disc_lock.specs.Seats.{HasSeenMore}
use Rattle.run_outcomes.specs.Outcomes.{first_attempt}
use Rattle.run_worker.specs.Known.{HaveLetGo}
use Rattle.run_worker.specs.Tried.{IsBetween, MayBeginNext}
use Rattle.worker_thread.proofs.Entries.{among_event, among_on, event_among}
use Rattle.worker_thread.proofs.Identifiers.{before_item}

-- each later item may be its next too
pub next_item : (opening : List PartState) (seat : Sight Event) (epoch worker ordinal : ℕ) → MayBeginNext opening seat (first_attempt epoch worker ordinal) → MayBeginNext opening seat (first_attempt epoch worker (suc ordinal))
next_item opening seat epoch worker ordinal next = (next.0, before_item next.0 epoch worker ordinal next.1, next.2)

module _ (opening : List PartState) (old new : Sight Event) (seen : HasSeenMore opening old new) where
  between_on : (worker epoch : ℕ) (last : Transid) → IsBetween opening old worker epoch last → IsBetween opening new worker epoch last
  between_on worker epoch last between = record {
    part = seen.0.part ∙ between.part;
    state = between.state;
    at = seen.1.state ∙ between.at;
    number = between.number;
    epoch_is = between.epoch_is;
    next = between.next;
  }

  pub next_on : (t : Transid) → MayBeginNext opening old t → MayBeginNext opening new t
  next_on t next = (next.0, next.1, between_on t.worker t.epoch next.0 next.2)

  -- what it has enlisted is what it had, which it has let go of
  pub let_go_on : (worker : ℕ) → old.part ≡ Some (worker_part worker) → HaveLetGo worker old.seen → HaveLetGo worker new.seen
  let_go_on worker part let_go u volume same enlisted =
      let p = worker_part u.worker in
      let e : Event = OfWorker (Enlist u volume) in
      let mine : old.part ≡ Some p = part ∙ ap (λ (n : ℕ). Some (worker_part n)) (sym same) in
      let events : events_of p new.seen ≡ events_of p old.seen = sym (own_events_of new p (seen.0.part ∙ mine)) ∙ seen.0.mine ∙ own_events_of old p mine in
      let before : HasEnlisted old.seen u volume = among_event p old.seen e (subst (λ (l : List Event). Among l e) events (event_among p new.seen e enlisted)) in
      among_on old.seen new.seen (disc_part volume, OfDisc (Release u)) seen.0.begins (let_go u volume same before)
