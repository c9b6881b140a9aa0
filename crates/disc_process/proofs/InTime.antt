-- A worker whose attempt is under way has not ended its steps; and a seat whose part has had no event is in time.
use Rattle.std.proofs.Common.{◌≡◌, ℕ, ◌⊎◌, inl, inr, ⊎_elim, true, List, [], ◌∷◌, Option, Some, None, slice_get, refl, ap, sym, ◌∙◌, subst}
use Rattle.std.specs.Option.{option_map}
use Rattle.chronicle.specs.Histories.{IsEnabled, IsHistory, IsTrueIn, next_states, states_after}
use Rattle.chronicle.specs.Seats.{Sight, own_events, state_of}
use Rattle.chronicle.proofs.Facts.{own_events_of}
use Rattle.chronicle.proofs.States.{changed_at_here, stays_true}
use Rattle.tmf_model.specs.declared.script.Close.TheVariants.{Abort as Aborting}
use Rattle.tmf_model.specs.declared.transid.Transid.{Transid}
use Rattle.trail_files.specs.MonitorOrder.{is_same_transid}
use Rattle.node_machine.specs.declared.event.Event.{Event}
use Rattle.node_machine.specs.declared.event.Event.TheVariants.{OfWorker}
use Rattle.node_machine.specs.declared.event.WorkerEvent.{WorkerEvent}
use Rattle.node_machine.specs.declared.event.WorkerEvent.TheVariants.{Finish, Quit}
use Rattle.node_machine.specs.Laws.{node_facts_stay}
use Rattle.node_machine.specs.Node.{node}
use Rattle.node_machine.specs.Opening.{worker_part}
use Rattle.node_machine.specs.Parts.{PartState, WorkerPart, Fact}
use Rattle.node_machine.specs.Parts.Fact.{Finished, Decided}
use Rattle.node_machine.specs.Parts.PartState.{Worker, Disc, Trail, Monitor, Dump, Idle}
use Rattle.node_machine.specs.Same.{Among}
use Rattle.node_machine.specs.SameLaws.{among_right, case_true, same_self}
use Rattle.node_machine.specs.Seats.{IsActive}
use Rattle.node_machine.specs.Worker.{IsOwn, decision, enlisted_discs, has_finished}
use Rattle.disc_process.specs.Disc.{IsFresh}
use Rattle.disc_process.specs.InTime.{EndsSteps, IsInTime, IsUnended}
use Rattle.disc_process.proofs.Acting.{IsDecided, after_opening, not_decided, not_finished}
use Rattle.disc_process.proofs.Released.{among_entry}

-- its worker has finished the attempt, or its close is decided
abbrev IsOver : (Fact → Type 0) → Transid → Type 0
IsOver true_ t = true_ (Finished t) ⊎ IsDecided true_ t

-- a worker has this event more
next_worker : (ss : List PartState) (q : ℕ) (s : WorkerPart) (e : WorkerEvent) → slice_get ss q ≡ Some (Worker s) → slice_get (next_states node ss (q, OfWorker e)) q ≡ Some (Worker (record s { events = e ∷ s.events }))
next_worker ss q s e at = changed_at_here (λ y. node.step y (OfWorker e)) q ss ∙ ap (option_map (λ y. node.step y (OfWorker e))) at

finished_now : (ss : List PartState) (q : ℕ) (t : Transid) → IsEnabled node ss (q, OfWorker (Finish t)) → IsTrueIn node (next_states node ss (q, OfWorker (Finish t))) (Finished t)
finished_now ss q t (Worker s, at, may, asks) =
    let own : IsOwn (record s { events = Finish t ∷ s.events }) t = record { worker = may.is_open.is_own.worker; epoch = may.is_open.is_own.epoch } in
    (q, Worker (record s { events = Finish t ∷ s.events }), next_worker ss q s (Finish t) at, (own, case_true (is_same_transid t t) true (has_finished s.events t) (same_self t)))
finished_now ss q t (Disc s, at, may, asks) = absurd may
finished_now ss q t (Trail s, at, may, asks) = absurd may
finished_now ss q t (Monitor s, at, may, asks) = absurd may
finished_now ss q t (Dump s, at, may, asks) = absurd may
finished_now ss q t (Idle, at, may, asks) = absurd may

decided_now : (ss : List PartState) (q : ℕ) (t : Transid) → IsEnabled node ss (q, OfWorker (Quit t)) → IsDecided (IsTrueIn node (next_states node ss (q, OfWorker (Quit t)))) t
decided_now ss q t (Worker s, at, may, asks) =
    let own : IsOwn (record s { events = Quit t ∷ s.events }) t = record { worker = may.is_own.worker; epoch = may.is_own.epoch } in
    (Aborting, enlisted_discs (Quit t ∷ s.events) t, (q, Worker (record s { events = Quit t ∷ s.events }), next_worker ss q s (Quit t) at, (own, case_true (is_same_transid t t) (Some Aborting) (decision s.events t) (same_self t), refl)))
decided_now ss q t (Disc s, at, may, asks) = absurd may
decided_now ss q t (Trail s, at, may, asks) = absurd may
decided_now ss q t (Monitor s, at, may, asks) = absurd may
decided_now ss q t (Dump s, at, may, asks) = absurd may
decided_now ss q t (Idle, at, may, asks) = absurd may

over_now : (ss : List PartState) (q : ℕ) (t : Transid) (end : WorkerEvent) → EndsSteps t end → IsEnabled node ss (q, OfWorker end) → IsOver (IsTrueIn node (next_states node ss (q, OfWorker end))) t
over_now ss q t end (inl is) en = subst (λ (e : WorkerEvent). IsOver (IsTrueIn node (next_states node ss (q, OfWorker e))) t) (sym is) (inl (finished_now ss q t (subst (λ (e : WorkerEvent). IsEnabled node ss (q, OfWorker e)) is en)))
over_now ss q t end (inr is) en = subst (λ (e : WorkerEvent). IsOver (IsTrueIn node (next_states node ss (q, OfWorker e))) t) (sym is) (inr (decided_now ss q t (subst (λ (e : WorkerEvent). IsEnabled node ss (q, OfWorker e)) is en)))

over_stays : (ss : List PartState) (log : List (ℕ × Event)) (t : Transid) → IsHistory node ss log → IsOver (IsTrueIn node ss) t → IsOver (IsTrueIn node (states_after node ss log)) t
over_stays ss log t h (inl f) = inl (stays_true node node_facts_stay ss log (Finished t) h f)
over_stays ss log t h (inr (close, discs, f)) = inr (close, discs, stays_true node node_facts_stay ss log (Decided t close discs) h f)

-- an event that ends the steps of an attempt leaves its fact
over : (ss : List PartState) (log : List (ℕ × Event)) (q : ℕ) (t : Transid) (end : WorkerEvent) → EndsSteps t end → IsHistory node ss log → Among log (q, OfWorker end) → IsOver (IsTrueIn node (states_after node ss log)) t
over ss [] q t end ends h there = absurd there
over ss (x ∷ xs) q t end ends h (inl same) =
    let now : IsOver (IsTrueIn node (next_states node ss x)) t =
    subst (λ (y : ℕ × Event). IsOver (IsTrueIn node (next_states node ss y)) t) (sym same) (over_now ss q t end ends (subst (λ (y : ℕ × Event). IsEnabled node ss y) same h.0)) in
    over_stays (next_states node ss x) xs t h.1 now
over ss (x ∷ xs) q t end ends h (inr later) = over (next_states node ss x) xs q t end ends h.1 later

-- the worker of an attempt that is under way has not ended its steps, in what its seat has seen
pub active_unended : (opening : List PartState) (v : Sight Event) (t : Transid) (discs : List ℕ) → IsFresh opening → IsHistory node opening v.seen → IsActive opening v t discs → IsUnended t v.seen
active_unended opening v t discs fresh h a = record { none = λ end ends there. of v.part a.at end ends there }
  where
    of : (p : Option ℕ) → state_of (states_after node opening v.seen) p ≡ Some (Worker a.part) → (end : WorkerEvent) → EndsSteps t end → Among v.seen (worker_part t.worker, OfWorker end) → ⊥
    of None at end ends there = absurd (cc (at))
    of (Some p) at end ends there =
        let ss = states_after node opening v.seen in
        let backs = after_opening opening v.seen fresh h in
        ⊎_elim
        (λ (f : IsTrueIn node ss (Finished t)). not_finished ss backs p a.part at t a.is_open.is_own a.unfinished f)
        (λ (d : IsDecided (IsTrueIn node ss) t). not_decided ss backs p a.part at t a.is_open.is_own a.is_open.undecided d)
        (over opening v.seen (worker_part t.worker) t end ends h there)

-- a seat whose part has had no event is in time
pub idle_in_time : (v : Sight Event) → own_events v ≡ [] → IsInTime v
idle_in_time v none = record {
  steps = λ part at t end e front rest ends same there is.
      let x : ℕ × Event = (worker_part t.worker, OfWorker end) in
      let seen : Among v.seen (part, e) = subst (λ (l : List (ℕ × Event)). Among l (part, e)) (sym same) (among_right front (x ∷ rest) (part, e) (inr there)) in
      let own : Among (own_events v) e = subst (λ (l : List Event). Among l e) (sym (own_events_of v part at)) (among_entry part v.seen e seen) in
      subst (λ (l : List Event). Among l e) none own;
}
