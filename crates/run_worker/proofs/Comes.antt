-- What a worker comes to by an attempt, by the events that it has had.
use Rattle.std.specs.Prelude.{◌≢◌, ◌⊎◌, ◌≤◌}
use Rattle.std.proofs.Common.{◌≡◌, inl, inr, ⊎_elim, ℕ, List, [], ◌++◌, append-nil, length, Some, refl, sym, ◌∙◌, subst, arith}
use Rattle.chronicle.specs.Histories.{events_of}
use Rattle.chronicle.specs.Seats.{Sight, own_events}
use Rattle.chronicle.proofs.Facts.{own_events_of}
use Rattle.tmf_model.specs.declared.transid.Transid.{Transid}
use Rattle.node_machine.specs.Acts.{acts_by}
use Rattle.node_machine.specs.Deeds.{HasWorkerEvent, Log}
use Rattle.node_machine.specs.Opening.{Found, worker_part}
use Rattle.node_machine.specs.Parts.{PartState}
use Rattle.node_machine.specs.Same.{Among}
use Rattle.node_machine.specs.SameLaws.{among_append}
use Rattle.node_machine.specs.declared.event.Event.{Event}
use Rattle.node_machine.specs.declared.event.Event.TheVariants.{OfWorker}
use Rattle.node_machine.specs.declared.event.WorkerEvent.{WorkerEvent}
use Rattle.node_machine.specs.declared.event.WorkerEvent.TheVariants.{Begin, Enlist, Finish, End, Quit}
use Rattle.run_outcomes.specs.Between.{IsEventOf}
use Rattle.run_outcomes.specs.Joined.{HasComeTo}
use Rattle.run_outcomes.specs.Knowing.{most_tokens}
use Rattle.run_outcomes.specs.Reach.{HasActed, KnowsActsAndMoves, Reach}
use Rattle.run_outcomes.specs.Told.{Account}
use Rattle.run_outcomes.specs.Worker.{IsToldBehind}
use Rattle.run_outcomes.specs.declared.outcome.Told.{Told}
use Rattle.run_outcomes.specs.declared.outcome.Told.TheVariants.{Dumping}
use Rattle.run_worker.specs.Tried.{IsBetween}
use Rattle.run_worker.proofs.Begins.{entry_event, unmapped}
use Rattle.run_worker.proofs.Had.{Had, of_worker}
use Rattle.run_worker.proofs.Logs.{event_entry}

-- an event is of one attempt
one_of : (t u : Transid) (e : WorkerEvent) → IsEventOf t e → IsEventOf u e → u ≡ t
one_of t u (Begin w) its other = sym other ∙ its
one_of t u (Enlist w disc) its other = sym other ∙ its
one_of t u (Finish w) its other = sym other ∙ its
one_of t u (End w) its other = sym other ∙ its
one_of t u (Quit w) its other = sym other ∙ its

module _ (t : Transid) (old new : Sight Event) (more : List WorkerEvent) (part : old.part ≡ Some (worker_part t.worker)) (had : Had old new more) where
  -- an event of the worker's was there before, or is one of these
  pub own_event : (u : Transid) (e : WorkerEvent) → u.worker ≡ t.worker → HasWorkerEvent new.seen u e → HasWorkerEvent old.seen u e ⊎ Among more e
  own_event u e same h =
      let p = worker_part t.worker in
      let x : Event = OfWorker e in
      let here : Among new.seen (p, x) = subst (λ (n : ℕ). Among new.seen (worker_part n, x)) same h in
      let own : events_of p new.seen ≡ own_events old ++ of_worker more = sym (own_events_of new p (had.part ∙ part)) ∙ had.own in
      ⊎_elim
      (λ (before : Among (own_events old) x).
      inl (subst (λ (n : ℕ). Among old.seen (worker_part n, x)) (sym same) (event_entry p old.seen x (subst (λ (l : List Event). Among l x) (own_events_of old p part) before))))
      (λ (after : Among (of_worker more) x). inr (unmapped more e after))
      (among_append (own_events old) (of_worker more) x (subst (λ (l : List Event). Among l x) own (entry_event p new.seen x here)))

  -- where these are the attempt's, none of another attempt is new
  others_kept : ((e : WorkerEvent) → Among more e → IsEventOf t e) → (u : Transid) (e : WorkerEvent) → u.worker ≡ t.worker → u ≢ t → IsEventOf u e → HasWorkerEvent new.seen u e → HasWorkerEvent old.seen u e
  others_kept its u e same differ of_u h = ⊎_elim
      (λ (before : HasWorkerEvent old.seen u e). before)
      (λ (after : Among more e). absurd (differ (one_of t u e (its e after) of_u)))
      (own_event u e same h)

-- The worker may go on before and behind the attempt, has had these events of it alone, and knows these acts of it, by which it is told.
pub come_to : (opening : List PartState) (found : Found) (account : Log → Account) (t last : Transid) (tells : Told) (old new : Reach) (more : List WorkerEvent) → IsBetween opening old.seat t.worker t.epoch last
    → IsBetween opening new.seat t.worker t.epoch t → Had old.seat new.seat more → ((e : WorkerEvent) → Among more e → IsEventOf t e) → (acts : Log) → HasActed t.worker old new acts → acts_by t acts ≡ acts → length acts ≤ most_tokens
    → ((volume : ℕ) → tells ≡ Dumping volume → ⊥) → IsToldBehind opening found account new.seat (record { tx = t; told = tells }) acts [] → HasComeTo opening found account (record { tx = t; told = tells }) old new acts []
come_to opening found account t last tells old new more before behind had its acts acted own few undumped told = record {
  part = had.part;
  begins = had.begins;
  others = others_kept t old.seat new.seat more before.part had its;
  behind = record { before = before.state; was = before.at; after = behind.state; is = behind.at; next = λ u later may. behind.next u later };
  known = λ a m knows. subst (λ (l : Log). KnowsActsAndMoves t.worker new (a ++ acts) l) (sym (append-nil m)) (acted a m knows);
  few = omega (arith, few);
  acts_of_it = own;
  moves_of_it = refl;
  told = told;
  dumps = record {
    more = had.begins.0;
    seen = sym had.begins.1;
    begun = λ volume u number start among. absurd among;
    ended = λ volume u number start among. absurd among;
    turned = λ volume is. absurd (undumped volume is);
  };
}
