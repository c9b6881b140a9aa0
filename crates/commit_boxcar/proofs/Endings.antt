-- What a transaction's seat has seen once a note of it has met the monitor.
use Rattle.std.specs.Prelude.{ℕ, ◌≤◌, List, [], ◌∷◌, ◌++◌, Some, None, Result, Ok, Err, IfErr}
use Rattle.std.proofs.Common.{◌≡◌, refl, ap, sym, ◌∙◌, subst, append_assoc, append-nil}
use Rattle.chronicle.specs.Histories.{events_of}
use Rattle.chronicle.specs.Seats.{Sight, HasGrown, HasNewlySeen, Knows, note_of, own_events}
use Rattle.tmf_model.specs.Transid.{is_transid}
use Rattle.tmf_model.specs.declared.script.Close.{Close}
use Rattle.tmf_model.specs.declared.transid.Transid.{Transid}
use Rattle.trail_files.specs.MonitorFormat.{is_monitor_record}
use Rattle.trail_files.specs.declared.monitor_record.MonitorRecord.{MonitorRecord}
use Rattle.trail_files.specs.declared.monitor_record.MonitorRecord.TheVariants.{Commit, Abort}
use Rattle.node_machine.specs.declared.event.By.TheVariants.{Attempt}
use Rattle.node_machine.specs.declared.event.Event.{Event}
use Rattle.node_machine.specs.declared.event.Event.TheVariants.{OfMonitor, OfWorker}
use Rattle.node_machine.specs.declared.event.WorkerEvent.TheVariants.{End}
use Rattle.node_machine.specs.Monitor.{ended_by, IsBacked}
use Rattle.node_machine.specs.Same.{Among}
use Rattle.node_machine.specs.declared.event.MonitorEvent.TheVariants.{Failed}
use Rattle.node_machine.specs.Node.{node}
use Rattle.node_machine.specs.Opening.{Found, opening_parts, monitor_part}
use Rattle.node_machine.specs.Parts.Fact.{Recorded}
use Rattle.node_machine.specs.Parts.{PartState, Fact}
use Rattle.txn_states.specs.Txn.{Txn, EndedView, HasAdvanced, HasStepped, HasMet, HasDecidedLast, IsAbortingTxn, IsCommittedTxn}
use Rattle.commit_boxcar.specs.Line.{IsNext, IsWaiting, MayBeLast}
use Rattle.commit_boxcar.specs.Settled.{HasAborted, HasSettled, IsInDoubt, IsOfRun, IsRecordedAt}
use Rattle.commit_boxcar.proofs.Lines.{backed_more, range_of}
use Rattle.commit_boxcar.proofs.Newest.{may_be_last, record_of}
use Rattle.commit_boxcar.proofs.Records.{newly_then, union_is}

module _ (opening : List PartState) where
  pub stepped_met : (v w : Txn) (caller met : Sight Event) → HasMet opening v w caller met → HasStepped opening v [] w
  stepped_met v w caller met m = record {
    tx = m.tx;
    discs = m.discs;
    steps = m.steps;
    seat = record { part = m.first.part; begins = m.first.begins; events = m.first.mine ∙ sym (append-nil (own_events v.seat)); kept = m.first_learned.knows };
  }

  -- what the note has newly seen, the seat has newly seen
  pub doubt_met : (v w : Txn) (caller met : Sight Event) → HasGrown (note_of v.seat) caller → HasMet opening v w caller met → HasNewlySeen monitor_part (OfMonitor (Failed (Attempt v.tx))) (note_of v.seat) caller → IsInDoubt opening v [] v.tx w.seat
  doubt_met v w caller met grown m new =
      let same : w.seat.seen ≡ caller.seen = m.same ∙ union_is v.seat.seen caller.seen met.seen grown.begins m.both in
      record {
        tx_is = refl;
        advanced = (stepped_met v w caller met m).seat;
        failed = record { more = new.more; events = ap (events_of monitor_part) same ∙ new.events };
      }

  pub advanced_then : (es fs : List Event) (a b c : Sight Event) → HasAdvanced opening a es b → HasAdvanced opening b fs c → HasAdvanced opening a (es ++ fs) c
  advanced_then es fs a b c p q = record {
    part = q.part ∙ p.part;
    begins = (p.begins.0 ++ q.begins.0, sym (append_assoc a.seen p.begins.0 q.begins.0) ∙ ap (λ l. l ++ q.begins.0) p.begins.1 ∙ q.begins.1);
    events = q.events ∙ ap (λ (l : List Event). l ++ fs) p.events ∙ append_assoc (own_events a) es fs;
    kept = λ f known. q.kept f (p.kept f known);
  }

  pub stepped_then : (es fs : List Event) (a b c : Txn) → HasStepped opening a es b → HasStepped opening b fs c → HasStepped opening a (es ++ fs) c
  stepped_then es fs a b c p q = record { tx = q.tx ∙ p.tx; discs = q.discs ∙ p.discs; steps = q.steps ∙ p.steps; seat = advanced_then es fs a.seat b.seat c.seat p.seat q.seat }

  -- what came in doubt behind these events
  pub doubt_then : (es fs : List Event) (a b : Txn) (tx : Transid) (seat : Sight Event) → HasStepped opening a es b → IsInDoubt opening b fs tx seat → IsInDoubt opening a (es ++ fs) tx seat
  doubt_then es fs a b tx seat p q = record {
    tx_is = q.tx_is ∙ p.tx;
    advanced = advanced_then es fs a.seat b.seat seat p.seat q.advanced;
    failed = subst (λ (t : Transid). HasNewlySeen monitor_part (OfMonitor (Failed (Attempt t))) a.seat seat) p.tx
        (newly_then monitor_part (OfMonitor (Failed (Attempt b.tx))) a.seat b.seat seat p.seat.begins q.failed);
  }

  -- what a decided transaction asks of the monitor
  pub commit_waits : (found : Found) (t : Txn) (id : Transid) (note : Sight Event) → id ≡ t.tx → note ≡ note_of t.seat → IsCommittedTxn opening t → IsOfRun found t.tx → IsWaiting opening found.epoch note (Commit id)
  commit_waits found t id note same from state run =
      subst (λ n. IsWaiting opening found.epoch n (Commit id)) (sym from)
      (subst (λ (i : Transid). IsWaiting opening found.epoch (note_of t.seat) (Commit i)) (sym same)
      (record { note_is = refl; asked = record { request = run.epoch; valid = run.valid; backed = (t.discs, state.decided, state.flushed) } }))

  pub abort_waits : (found : Found) (t : Txn) (id : Transid) (note : Sight Event) → id ≡ t.tx → note ≡ note_of t.seat → IsAbortingTxn opening t → IsOfRun found t.tx → IsWaiting opening found.epoch note (Abort id)
  abort_waits found t id note same from state run =
      subst (λ n. IsWaiting opening found.epoch n (Abort id)) (sym from)
      (subst (λ (i : Transid). IsWaiting opening found.epoch (note_of t.seat) (Abort i)) (sym same)
      (record { note_is = refl; asked = record { request = run.epoch; valid = run.valid; backed = (t.discs, state.decided) } }))

  -- A note of the transaction has met the monitor, and then the transaction's seat: what is known of them, by the transaction at first.
  pub record HasAsked (v w : Txn) (id : Transid) (caller met : Sight Event) : Type 0 where
    pub same : id ≡ v.tx
    pub grown : HasGrown (note_of v.seat) caller
    pub met_is : HasMet opening v w caller met

  pub asked : (v mid last w : Txn) (id : Transid) (note caller met_ : Sight Event) → id ≡ v.tx → mid ≡ v → last ≡ mid → note ≡ note_of mid.seat → HasGrown note caller → HasMet opening last w caller met_ → HasAsked v w id caller met_
  asked v mid last w id note caller met_ same one two from grown met = record {
    same = same;
    grown = subst (λ s. HasGrown s caller) (from ∙ ap (λ (t : Txn). note_of t.seat) one) grown;
    met_is = subst (λ (t : Txn). HasMet opening t w caller met_) (two ∙ one) met;
  }

  module _ (v w : Txn) (id : Transid) (caller met : Sight Event) (a : HasAsked v w id caller met) where
    pub same_tx : id ≡ w.tx
    same_tx = a.same ∙ sym a.met_is.tx

    -- the transaction's seat knows what the note knew
    pub told : (f : Fact) → Knows node opening caller f → Knows node opening w.seat f
    told = a.met_is.told

    pub recorded_at : (e : EndedView) (place : ℕ) → e ≡ record { txn = w; place = Some place } → Knows node opening caller (Recorded (Commit id) place) → IsRecordedAt opening v e
    recorded_at e place is known = subst (λ (x : EndedView). IsRecordedAt opening v x) (sym is) (record {
      stepped = stepped_met v w caller met a.met_is;
      place = place;
      place_is = refl;
      recorded = subst (λ (t : Transid). Knows node opening w.seat (Recorded (Commit t) place)) a.same (told (Recorded (Commit id) place) known);
    })

    pub aborted : (e : EndedView) (place : ℕ) → e ≡ record { txn = w; place = None } → Knows node opening caller (Recorded (Abort id) place) → HasAborted opening v e
    aborted e place is known = subst (λ (x : EndedView). HasAborted opening v x) (sym is) (record {
      stepped = stepped_met v w caller met a.met_is;
      none = refl;
      place = place;
      recorded = subst (λ (t : Transid). Knows node opening w.seat (Recorded (Abort t) place)) a.same (told (Recorded (Abort id) place) known);
    })

    pub in_doubt : (seat : Sight Event) → seat ≡ w.seat → HasNewlySeen monitor_part (OfMonitor (Failed (Attempt id))) (note_of v.seat) caller → IsInDoubt opening v [] id seat
    in_doubt seat from new =
        subst (λ s. IsInDoubt opening v [] id s) (sym from)
        (subst (λ (i : Transid). IsInDoubt opening v [] i w.seat) (sym a.same)
        (doubt_met v w caller met a.grown a.met_is (subst (λ (i : Transid). HasNewlySeen monitor_part (OfMonitor (Failed (Attempt i))) (note_of v.seat) caller) a.same new)))

    -- a request of the attempt that was decided last is later than all of the line
    pub next_of : (found : Found) (close : Close) → opening ≡ opening_parts found → HasDecidedLast opening w close → (line : List MonitorRecord) → ((x : MonitorRecord) → Among line x → IsBacked (Knows node opening caller) x)
        → (MayBeLast line (record_of close id) → IsNext line (record_of close id)) → IsNext line (record_of close w.tx)
    next_of found close opens last line backed may =
        subst (λ (t : Transid). IsNext line (record_of close t)) same_tx (may (subst (λ (t : Transid). MayBeLast line (record_of close t)) (sym same_tx)
        (may_be_last opening found opens w.seat a.met_is.first_learned.history w.tx close (last found opens) line (λ x there. backed_more (Knows node opening caller) (Knows node opening w.seat) told x (backed x there)))))

    pub recorded_then : (e : EndedView) → IsRecordedAt opening w e → IsRecordedAt opening v e
    recorded_then e r = record { stepped = stepped_then [] [] v w e.txn (stepped_met v w caller met a.met_is) r.stepped; place = r.place; place_is = r.place_is; recorded = subst (λ (t : Transid). Knows node opening e.txn.seat (Recorded (Commit t) r.place)) a.met_is.tx r.recorded }

    pub aborted_then : (e : EndedView) → HasAborted opening w e → HasAborted opening v e
    aborted_then e r = record { stepped = stepped_then [] [] v w e.txn (stepped_met v w caller met a.met_is) r.stepped; none = r.none; place = r.place; recorded = subst (λ (t : Transid). Knows node opening e.txn.seat (Recorded (Abort t) r.place)) a.met_is.tx r.recorded }

    pub in_doubt_then : (tx : Transid) (seat : Sight Event) → IsInDoubt opening w [] tx seat → IsInDoubt opening v [] tx seat
    in_doubt_then tx seat d = doubt_then [] [] v w tx seat (stepped_met v w caller met a.met_is) d

  pub settled : (v w : Txn) (e : EndedView) → HasStepped opening v (OfWorker (End v.tx) ∷ []) w → IsRecordedAt opening w e → HasSettled opening v e
  settled v w e s r = record { stepped = stepped_then (OfWorker (End v.tx) ∷ []) [] v w e.txn s r.stepped; place = r.place; place_is = r.place_is; recorded = subst (λ (t : Transid). Knows node opening e.txn.seat (Recorded (Commit t) r.place)) s.tx r.recorded }

  pub of_run : (found : Found) (v w : Transid) → w ≡ v → IsOfRun found v → IsOfRun found w
  of_run found v w same is = subst (λ (t : Transid). IsOfRun found t) (sym same) is

  pub on_err_of : {T E : Type 0} {P Q : E → Type 0} (r : Result T E) → ((e : E) → P e → Q e) → IfErr r P → IfErr r Q
  on_err_of (Ok x) f h = tt
  on_err_of (Err e) f h = f e h

  -- a worker's number
  pub worker_small : (found : Found) (id : Transid) (r : MonitorRecord) → ended_by r ≡ Some id → is_monitor_record r ≡ is_transid id → IsOfRun found id → (t : Transid) → ended_by r ≡ Some t → t.worker ≤ 16
  worker_small found id r is valid run t t_is = (range_of r t (valid ∙ run.valid) t_is).0

  pub settled_by : (v w noted : Txn) (e : EndedView) → HasStepped opening v (OfWorker (End v.tx) ∷ []) w → noted ≡ w → IsRecordedAt opening noted e → HasSettled opening v e
  settled_by v w noted e s same r = settled v w e s (subst (λ (t : Txn). IsRecordedAt opening t e) same r)

  pub doubt_by : (es : List Event) (v w noted : Txn) (tx : Transid) (seat : Sight Event) → HasStepped opening v es w → noted ≡ w → IsInDoubt opening noted [] tx seat → IsInDoubt opening v es tx seat
  doubt_by es v w noted tx seat s same d = subst (λ (l : List Event). IsInDoubt opening v l tx seat) (append-nil es) (doubt_then es [] v w tx seat s (subst (λ (t : Txn). IsInDoubt opening t [] tx seat) same d))
