-- Each record of the monitor trail is of an outcome.
use Rattle.std.specs.Prelude.{◌≡◌, ℕ, Bool, true, false, List, [], ◌∷◌, ◌++◌, slice_get, Option, Some, None, if◌then◌else◌}
use Rattle.std.proofs.Common.{refl, sym, ap, subst, ◌∙◌, arith, inl, inr, ⊎_elim}
use Rattle.chronicle.proofs.States.{history_front, history_rest}
use Rattle.chronicle.specs.Histories.{IsEnabled, IsHistory, IsTrueIn, events_of, states_after}
use Rattle.disk_model.specs.declared.disk.Disk as disk
use Rattle.run_outcomes.specs.Reach.{Reach}
use Rattle.node_machine.specs.Deeds.{EventsLaw, HasBegun, HasQuit, HasWorkerEvent, Log, events_at}
use Rattle.node_machine.specs.Monitor.{IsBacked, offered_car, recorded}
use Rattle.node_machine.specs.Node.{Asks, IsAllowed, Makes, node}
use Rattle.node_machine.specs.Opening.{Found, monitor_part, opening_parts, worker_part}
use Rattle.node_machine.specs.Parts.{Fact, PartState, WorkerPart}
use Rattle.node_machine.specs.Parts.Fact.{Decided}
use Rattle.node_machine.specs.Parts.PartState.{Worker, Disc, Trail, Monitor, Dump, Idle}
use Rattle.node_machine.specs.Same.{Among}
use Rattle.node_machine.specs.SameLaws.{among_append, among_left, same_is}
use Rattle.node_machine.specs.Worker.{IsOwn, decision, has_begun}
use Rattle.node_machine.specs.declared.event.Event.{Event}
use Rattle.node_machine.specs.declared.event.Event.TheVariants.{OfMonitor, OfWorker}
use Rattle.node_machine.specs.declared.event.MonitorEvent.{MonitorEvent}
use Rattle.node_machine.specs.declared.event.MonitorEvent.TheVariants.{Offer, Land, Failed}
use Rattle.node_machine.specs.declared.event.WorkerEvent.{WorkerEvent}
use Rattle.node_machine.specs.declared.event.WorkerEvent.TheVariants.{Begin, Enlist, Finish, End, Quit}
use Rattle.tmf_model.specs.declared.script.Close.{Close}
use Rattle.tmf_model.specs.declared.script.Close.TheVariants.{Commit as Committing, Abort as Aborting}
use Rattle.tmf_model.specs.declared.transid.Transid.{Transid}
use Rattle.trail_files.specs.MonitorOrder.{is_same_transid}
use Rattle.trail_files.specs.declared.monitor_record.MonitorRecord.{MonitorRecord}
use Rattle.trail_files.specs.declared.monitor_record.MonitorRecord.TheVariants.{Start, Commit, Abort}
use Rattle.run_outcomes.proofs.Elements.{among_map, reversed_among}
use Rattle.run_outcomes.proofs.PartKinds.{worker_is}
use Rattle.run_outcomes.proofs.Telling.{among_event, among_split, begun, goes_on, told_behind}
use Rattle.run_outcomes.specs.Ends.{monitor_events, monitor_events_in}
use Rattle.run_outcomes.specs.Run.{account_of}
use Rattle.run_outcomes.specs.Telling.{AreWorkers, RecordsLaw}
use Rattle.run_outcomes.specs.Told.{Account, HasOutcome, IsCommitted, IsRecordOf, MayBeCommitted}
use Rattle.run_outcomes.specs.declared.outcome.Outcome.{Outcome}

-- WHAT A PART HAS HAD STANDS IN THE HISTORY

stands : EventsLaw → (found : Found) (log : Log) (part : ℕ) (s : PartState) (e : Event) → IsHistory node (opening_parts found) log → slice_get (states_after node (opening_parts found) log) part ≡ Some s
    → Among (events_at s) e → Among log (part, e)
stands law found log part s e history at has =
    among_event part log e (reversed_among (events_of part log) e (subst (λ (l : List Event). Among l e) (law found log part s history at) has))

-- a moment of a history, at which an entry is next
record Moment (found : Found) (log : Log) (x : ℕ × Event) : Type 0 where
  front : Log
  history : IsHistory node (opening_parts found) front
  enabled : IsEnabled node (states_after node (opening_parts found) front) x
  on : (y : ℕ × Event) → Among front y → Among log y

moment : (found : Found) (log : Log) (x : ℕ × Event) → IsHistory node (opening_parts found) log → Among log x → Moment found log x
moment found log x history among =
    let cut = among_split log x among in
    let whole = subst (λ (l : Log). IsHistory node (opening_parts found) l) cut.2 history in
    record {
      front = cut.0;
      history = history_front node (opening_parts found) cut.0 (x ∷ cut.1) whole;
      enabled = (history_rest node (opening_parts found) cut.0 (x ∷ cut.1) whole).0;
      on = λ y has. subst (λ (l : Log). Among l y) (sym cut.2) (among_left cut.0 (x ∷ cut.1) y has);
    }

-- WHAT WAS OFFERED

-- a record of the car that is being written, or one that has landed, was offered
abbrev WasOffered : List MonitorEvent → MonitorRecord → Type 0
WasOffered events item = (records : List MonitorRecord) × Among events (Offer records) × Among records item

later_offer : (e : MonitorEvent) (events : List MonitorEvent) (item : MonitorRecord) → WasOffered events item → WasOffered (e ∷ events) item
later_offer e events item was = (was.0, inr was.1, was.2)

car_offered : (events : List MonitorEvent) (item : MonitorRecord) → Among (offered_car events) item → WasOffered events item
car_offered [] item among = absurd among
car_offered (Offer records ∷ events) item among = (records, inl refl, among)
car_offered (Land ∷ events) item among = absurd among
car_offered (Failed by ∷ events) item among = later_offer (Failed by) events item (car_offered events item among)

landed_offered : (events : List MonitorEvent) (item : MonitorRecord) → Among (recorded events) item → WasOffered events item
landed_offered [] item among = absurd among
landed_offered (Offer records ∷ events) item among = later_offer (Offer records) events item (landed_offered events item among)
landed_offered (Land ∷ events) item among = later_offer Land events item (⊎_elim
    (λ (landed : Among (recorded events) item). landed_offered events item landed)
    (λ (last : Among (offered_car events) item). car_offered events item last)
    (among_append (recorded events) (offered_car events) item among))
landed_offered (Failed by ∷ events) item among = later_offer (Failed by) events item (landed_offered events item among)

was_offered : (events : List MonitorEvent) (item : MonitorRecord) → Among (recorded events ++ offered_car events) item → WasOffered events item
was_offered events item among = ⊎_elim (λ (landed : Among (recorded events) item). landed_offered events item landed) (λ (car : Among (offered_car events) item). car_offered events item car)
    (among_append (recorded events) (offered_car events) item among)

-- then the history has the offer
offered_at : EventsLaw → (found : Found) (log : Log) (item : MonitorRecord) → IsHistory node (opening_parts found) log → (o : Option PartState)
    → slice_get (states_after node (opening_parts found) log) monitor_part ≡ o → Among (recorded (monitor_events_in o) ++ offered_car (monitor_events_in o)) item
    → (records : List MonitorRecord) × Among log (monitor_part, OfMonitor (Offer records)) × Among records item
offered_at law found log item history None at among = absurd among
offered_at law found log item history (Some (Worker s)) at among = absurd among
offered_at law found log item history (Some (Disc s)) at among = absurd among
offered_at law found log item history (Some (Trail s)) at among = absurd among
offered_at law found log item history (Some (Monitor s)) at among =
    let was = was_offered s.events item among in
    (was.0, stands law found log monitor_part (Monitor s) (OfMonitor (Offer was.0)) history at (among_map (λ e. OfMonitor e) s.events (Offer was.0) was.1), was.2)
offered_at law found log item history (Some (Dump s)) at among = absurd among
offered_at law found log item history (Some Idle) at among = absurd among

-- what an offer asks of the true facts
offer_asks : (true_ : Fact → Type 0) (s : PartState) (records : List MonitorRecord) → IsAllowed s (OfMonitor (Offer records)) → Asks true_ s (OfMonitor (Offer records))
    → (item : MonitorRecord) → Among records item → IsBacked true_ item
offer_asks true_ (Worker s) records may asks = absurd may
offer_asks true_ (Disc s) records may asks = absurd may
offer_asks true_ (Trail s) records may asks = absurd may
offer_asks true_ (Monitor s) records may asks = asks
offer_asks true_ (Dump s) records may asks = absurd may
offer_asks true_ Idle records may asks = absurd may

-- WHAT WAS DECIDED

-- the event with which a worker decides so
abbrev deciding : Close → Transid → WorkerEvent
deciding Committing t = End t
deciding Aborting t = Quit t

decided_end : (u t : Transid) (close : Close) (events : List WorkerEvent) (b : Bool) → is_same_transid u t ≡ b → (decision events t ≡ Some close → Among events (deciding close t))
    → (if b then Some Committing else decision events t) ≡ Some close → Among (End u ∷ events) (deciding close t)
decided_end u t close events true same rest is =
    let how : Committing ≡ close = cc (is) in
    subst (λ (c : Close). Among (End u ∷ events) (deciding c t)) how (inl (ap (λ (x : Transid). End x) (same_is u t same)))
decided_end u t close events false same rest is = inr (rest is)

decided_quit : (u t : Transid) (close : Close) (events : List WorkerEvent) (b : Bool) → is_same_transid u t ≡ b → (decision events t ≡ Some close → Among events (deciding close t))
    → (if b then Some Aborting else decision events t) ≡ Some close → Among (Quit u ∷ events) (deciding close t)
decided_quit u t close events true same rest is =
    let how : Aborting ≡ close = cc (is) in
    subst (λ (c : Close). Among (Quit u ∷ events) (deciding c t)) how (inl (ap (λ (x : Transid). Quit x) (same_is u t same)))
decided_quit u t close events false same rest is = inr (rest is)

decided_by : (events : List WorkerEvent) (t : Transid) (close : Close) → decision events t ≡ Some close → Among events (deciding close t)
decided_by [] t close is = absurd (cc (is))
decided_by (Begin u ∷ events) t close is = inr (decided_by events t close is)
decided_by (Enlist u disc ∷ events) t close is = inr (decided_by events t close is)
decided_by (Finish u ∷ events) t close is = inr (decided_by events t close is)
decided_by (End u ∷ events) t close is = decided_end u t close events (is_same_transid u t) refl (decided_by events t close) is
decided_by (Quit u ∷ events) t close is = decided_quit u t close events (is_same_transid u t) refl (decided_by events t close) is

begun_one : (u t : Transid) (events : List WorkerEvent) (b : Bool) → is_same_transid u t ≡ b → (has_begun events t ≡ true → Among events (Begin t))
    → (if b then true else has_begun events t) ≡ true → Among (Begin u ∷ events) (Begin t)
begun_one u t events true same rest is = inl (ap (λ (x : Transid). Begin x) (same_is u t same))
begun_one u t events false same rest is = inr (rest is)

begun_by : (events : List WorkerEvent) (t : Transid) → has_begun events t ≡ true → Among events (Begin t)
begun_by [] t is = absurd (cc (is))
begun_by (Begin u ∷ events) t is = begun_one u t events (is_same_transid u t) refl (begun_by events t) is
begun_by (Enlist u disc ∷ events) t is = inr (begun_by events t is)
begun_by (Finish u ∷ events) t is = inr (begun_by events t is)
begun_by (End u ∷ events) t is = inr (begun_by events t is)
begun_by (Quit u ∷ events) t is = inr (begun_by events t is)

-- the part that makes a decision true is a worker's
decider : (s : PartState) (t : Transid) (close : Close) (discs : List ℕ) → Makes s (Decided t close discs) → (w : WorkerPart) × (s ≡ Worker w) × IsOwn w t × (decision w.events t ≡ Some close)
decider (Worker w) t close discs makes = (w, refl, makes.0, makes.1)
decider (Disc s) t close discs makes = absurd makes
decider (Trail s) t close discs makes = absurd makes
decider (Monitor s) t close discs makes = absurd makes
decider (Dump s) t close discs makes = absurd makes
decider Idle t close discs makes = absurd makes

-- a decision that is true stands in the history
decision_stands : EventsLaw → (found : Found) (log : Log) (t : Transid) (close : Close) (discs : List ℕ) → IsHistory node (opening_parts found) log
    → IsTrueIn node (states_after node (opening_parts found) log) (Decided t close discs) → HasWorkerEvent log t (deciding close t)
decision_stands law found log t close discs history is =
    let by = decider is.1 t close discs is.3 in
    let at : slice_get (states_after node (opening_parts found) log) is.0 ≡ Some (Worker by.0) = is.2 ∙ ap (λ (s : PartState). Some s) by.1 in
    let number = (worker_is found log is.0 by.0 at).1 in
    let own = by.2.worker in
    let part : is.0 ≡ worker_part t.worker = omega (arith, number, own) in
    let has = stands law found log is.0 (Worker by.0) (OfWorker (deciding close t)) history at (among_map (λ e. OfWorker e) by.0.events (deciding close t) (decided_by by.0.events t close by.3)) in
    subst (λ (p : ℕ). Among log (p, OfWorker (deciding close t))) part has

-- whoever may decide has begun
opener : (s : PartState) (t : Transid) (close : Close) → IsAllowed s (OfWorker (deciding close t)) → (w : WorkerPart) × (s ≡ Worker w) × (has_begun w.events t ≡ true)
opener (Worker w) t Committing may = (w, refl, may.is_open.begun)
opener (Worker w) t Aborting may = (w, refl, may.begun)
opener (Disc s) t Committing may = absurd may
opener (Disc s) t Aborting may = absurd may
opener (Trail s) t Committing may = absurd may
opener (Trail s) t Aborting may = absurd may
opener (Monitor s) t Committing may = absurd may
opener (Monitor s) t Aborting may = absurd may
opener (Dump s) t Committing may = absurd may
opener (Dump s) t Aborting may = absurd may
opener Idle t Committing may = absurd may
opener Idle t Aborting may = absurd may

begun_before : EventsLaw → (found : Found) (log : Log) (t : Transid) (close : Close) → IsHistory node (opening_parts found) log → HasWorkerEvent log t (deciding close t) → HasBegun log t
begun_before law found log t close history has =
    let m = moment found log (worker_part t.worker, OfWorker (deciding close t)) history has in
    let by = opener m.enabled.0 t close m.enabled.2 in
    let at : slice_get (states_after node (opening_parts found) m.front) (worker_part t.worker) ≡ Some (Worker by.0) = m.enabled.1 ∙ ap (λ (s : PartState). Some s) by.1 in
    m.on (worker_part t.worker, OfWorker (Begin t))
    (stands law found m.front (worker_part t.worker) (Worker by.0) (OfWorker (Begin t)) m.history at (among_map (λ e. OfWorker e) by.0.events (Begin t) (begun_by by.0.events t by.2)))

-- THE RECORDS

module _ (law : EventsLaw) (account : Log → Account) (found : Found) (log : Log) (reach : ℕ → Reach) (acts moves : ℕ → Log) (of : ℕ → List Outcome) (outcomes : List Outcome)
    (all : AreWorkers account found log reach acts moves of outcomes) where
  -- the outcome of an attempt that was decided
  its : (t : Transid) (close : Close) → HasWorkerEvent log t (deciding close t) → (outcome : Outcome) × Among outcomes outcome × (outcome.tx ≡ t)
  its t close has = begun account found log reach acts moves of outcomes all t (begun_before law found log t close all.history has)

  committed : (t : Transid) → HasWorkerEvent log t (End t) → HasOutcome outcomes t MayBeCommitted
  committed t has =
      let o = its t Committing has in
      let behind = told_behind account found log reach acts moves of outcomes all o.0 o.1 in
      record {
        outcome = o.0;
        among = o.1;
        tx_is = o.2;
        is_so = behind.committed log (goes_on account found log reach acts moves of outcomes all o.0 o.1) (subst (λ (u : Transid). HasWorkerEvent log u (End u)) (sym o.2) has);
      }

  backed_out : (t : Transid) → HasWorkerEvent log t (Quit t) → HasOutcome outcomes t (λ told. IsCommitted told → ⊥)
  backed_out t has =
      let o = its t Aborting has in
      let behind = told_behind account found log reach acts moves of outcomes all o.0 o.1 in
      record {
        outcome = o.0;
        among = o.1;
        tx_is = o.2;
        is_so = behind.backed_out log (goes_on account found log reach acts moves of outcomes all o.0 o.1) (subst (λ (u : Transid). HasQuit log u) (sym o.2) has);
      }

  record_of : (front : Log) → IsHistory node (opening_parts found) front → ((y : ℕ × Event) → Among front y → Among log y) → (item : MonitorRecord)
      → IsBacked (IsTrueIn node (states_after node (opening_parts found) front)) item → IsRecordOf outcomes item
  record_of front history on (Start epoch) backed = absurd backed
  record_of front history on (Commit t) backed =
      committed t (on (worker_part t.worker, OfWorker (End t)) (decision_stands law found front t Committing backed.0 history backed.1))
  record_of front history on (Abort t) backed =
      backed_out t (on (worker_part t.worker, OfWorker (Quit t)) (decision_stands law found front t Aborting backed.0 history backed.1))

  pub recorded_of : (item : MonitorRecord)
      → Among (recorded (monitor_events (states_after node (opening_parts found) log)) ++ offered_car (monitor_events (states_after node (opening_parts found) log))) item
      → IsRecordOf outcomes item
  recorded_of item among =
      let offer = offered_at law found log item all.history (slice_get (states_after node (opening_parts found) log) monitor_part) refl among in
      let m = moment found log (monitor_part, OfMonitor (Offer offer.0)) all.history offer.1 in
      let asked = offer_asks (IsTrueIn node (states_after node (opening_parts found) m.front)) m.enabled.0 offer.0 m.enabled.2 m.enabled.3 in
      record_of m.front m.history m.on item (asked item offer.2)

pub records_law : EventsLaw → {D : Type 0} (kind : disk.Ghosts D) → RecordsLaw kind
records_law law kind = λ config phase epoch handed_in found log reach acts moves of outcomes all.
    recorded_of law (account_of kind config phase epoch handed_in found) found log reach acts moves of outcomes all
