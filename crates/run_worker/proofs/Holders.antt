-- Whoever holds what an attempt was turned away from is an attempt of another worker, where its own worker has let go of all that it held.
use Rattle.std.specs.Prelude.{◌⊎◌, Bool, true, false, if◌then◌else◌}
use Rattle.std.specs.Option.{option_or}
use Rattle.std.proofs.Common.{◌≡◌, inl, inr, ⊎_elim, ℕ, List, [], ◌∷◌, ◌++◌, map, Option, Some, None, slice_get, refl, ap, sym, ◌∙◌, subst, arith}
use Rattle.chronicle.specs.Histories.{IsEnabled, IsHistory, IsTrueIn, events_of, states_after}
use Rattle.chronicle.proofs.States.{history_front, history_rest}
use Rattle.tmf_model.specs.declared.script.Step.{Step}
use Rattle.tmf_model.specs.declared.transid.Transid.{Transid}
use Rattle.trail_files.specs.MonitorOrder.{is_same_transid}
use Rattle.node_machine.specs.Deeds.{EventsLaw, HasEnlisted, HasReleased, Log}
use Rattle.node_machine.specs.Disc.{IsOther, MayTurn, is_lock}
use Rattle.node_machine.specs.Holders.{HolderLaw}
use Rattle.node_machine.specs.Made.{file_holder, has_released, holder, key_holder}
use Rattle.node_machine.specs.Node.{IsAllowed, node}
use Rattle.node_machine.specs.Opening.{Found, disc_part, opening_parts, worker_part}
use Rattle.node_machine.specs.Parts.{DiscPart, PartState}
use Rattle.node_machine.specs.Parts.Fact.{Enlisted}
use Rattle.node_machine.specs.Parts.PartState.{Worker, Disc, Trail, Monitor, Dump, Idle}
use Rattle.node_machine.specs.Same.{Among}
use Rattle.node_machine.specs.SameLaws.{among_append, case_true, same_is, same_self}
use Rattle.node_machine.specs.Worker.{enlisted_discs}
use Rattle.node_machine.specs.declared.event.Cause.{Cause}
use Rattle.node_machine.specs.declared.event.Cause.TheVariants as cause
use Rattle.node_machine.specs.declared.event.DiscEvent.{DiscEvent}
use Rattle.node_machine.specs.declared.event.DiscEvent.TheVariants as did
use Rattle.node_machine.specs.declared.event.Event.{Event}
use Rattle.node_machine.specs.declared.event.Event.TheVariants.{OfDisc, OfWorker}
use Rattle.node_machine.specs.declared.event.WorkerEvent.{WorkerEvent}
use Rattle.node_machine.specs.declared.event.WorkerEvent.TheVariants.{Begin, Enlist, Finish, End, Quit}
use Rattle.node_machine.proofs.Placed.{parts_placed}
use Rattle.run_outcomes.specs.Told.{busy_cause}
use Rattle.run_worker.proofs.Begins.{among_reverse, among_unreversed, entry_event, if_or_true}
use Rattle.run_worker.proofs.Logs.{event_entry, mapped}

-- WHAT EVENTS SAY

if_enlisted : (b : Bool) (u t : Transid) (l : List ℕ) (d disc : ℕ) (events : List WorkerEvent) → is_same_transid u t ≡ b → (Among l disc → Among events (Enlist t disc)) → Among (if b then l ++ d ∷ [] else l) disc → Among (Enlist u d ∷ events) (Enlist t disc)
if_enlisted true u t l d disc events same rest h = ⊎_elim
    (λ (old : Among l disc). inr (rest old))
    (λ (new : Among (d ∷ []) disc). ⊎_elim (λ (is : d ≡ disc). inl (ap (λ (x : Transid). Enlist x d) (same_is u t same) ∙ ap (λ (n : ℕ). Enlist t n) is)) (λ (none : Among [] disc). absurd none) new)
    (among_append l (d ∷ []) disc h)
if_enlisted false u t l d disc events same rest h = inr (rest h)

-- a disc that is enlisted was, by an event
enlisted_by : (events : List WorkerEvent) (t : Transid) (disc : ℕ) → Among (enlisted_discs events t) disc → Among events (Enlist t disc)
enlisted_by [] t disc h = absurd h
enlisted_by (Enlist u d ∷ events) t disc h = if_enlisted (is_same_transid u t) u t (enlisted_discs events t) d disc events refl (enlisted_by events t disc) h
enlisted_by (Begin u ∷ events) t disc h = inr (enlisted_by events t disc h)
enlisted_by (Finish u ∷ events) t disc h = inr (enlisted_by events t disc h)
enlisted_by (End u ∷ events) t disc h = inr (enlisted_by events t disc h)
enlisted_by (Quit u ∷ events) t disc h = inr (enlisted_by events t disc h)

-- who has released has
released_of : (events : List DiscEvent) (t : Transid) → Among events (did.Release t) → has_released events t ≡ true
released_of [] t h = absurd h
released_of (did.Release u ∷ events) t h = ⊎_elim
    (λ (is : did.Release u ≡ did.Release t). let same : u ≡ t = cc (is) in case_true (is_same_transid u t) true (has_released events t) (ap (λ (x : Transid). is_same_transid x t) same ∙ same_self t))
    (λ (later : Among events (did.Release t)). if_or_true (is_same_transid u t) (has_released events t) (released_of events t later))
    h
released_of (did.Write r op ∷ events) t h = ⊎_elim (λ (is : did.Write r op ≡ did.Release t). absurd (cc (is))) (λ (later : Among events (did.Release t)). released_of events t later) h
released_of (did.Read u file key value ∷ events) t h = ⊎_elim (λ (is : did.Read u file key value ≡ did.Release t). absurd (cc (is))) (λ (later : Among events (did.Release t)). released_of events t later) h
released_of (did.Lock u file ∷ events) t h = ⊎_elim (λ (is : did.Lock u file ≡ did.Release t). absurd (cc (is))) (λ (later : Among events (did.Release t)). released_of events t later) h
released_of (did.Turn u why ∷ events) t h = ⊎_elim (λ (is : did.Turn u why ≡ did.Release t). absurd (cc (is))) (λ (later : Among events (did.Release t)). released_of events t later) h
released_of (did.Undo r ∷ events) t h = ⊎_elim (λ (is : did.Undo r ≡ did.Release t). absurd (cc (is))) (λ (later : Among events (did.Release t)). released_of events t later) h
released_of (did.Close u ∷ events) t h = ⊎_elim (λ (is : did.Close u ≡ did.Release t). absurd (cc (is))) (λ (later : Among events (did.Release t)). released_of events t later) h
released_of (did.Draw file block position ∷ events) t h = ⊎_elim (λ (is : did.Draw file block position ≡ did.Release t). absurd (cc (is))) (λ (later : Among events (did.Release t)). released_of events t later) h
released_of (did.Drawn file block ∷ events) t h = ⊎_elim (λ (is : did.Drawn file block ≡ did.Release t). absurd (cc (is))) (λ (later : Among events (did.Release t)). released_of events t later) h
released_of (did.Low position by ∷ events) t h = ⊎_elim (λ (is : did.Low position by ≡ did.Release t). absurd (cc (is))) (λ (later : Among events (did.Release t)). released_of events t later) h
released_of (did.Lowered ∷ events) t h = ⊎_elim (λ (is : did.Lowered ≡ did.Release t). absurd (cc (is))) (λ (later : Among events (did.Release t)). released_of events t later) h
released_of (did.Start number start item ∷ events) t h = ⊎_elim (λ (is : did.Start number start item ≡ did.Release t). absurd (cc (is))) (λ (later : Among events (did.Release t)). released_of events t later) h
released_of (did.Raise number rest ∷ events) t h = ⊎_elim (λ (is : did.Raise number rest ≡ did.Release t). absurd (cc (is))) (λ (later : Among events (did.Release t)). released_of events t later) h
released_of (did.Failed by ∷ events) t h = ⊎_elim (λ (is : did.Failed by ≡ did.Release t). absurd (cc (is))) (λ (later : Among events (did.Release t)). released_of events t later) h

unmapped_disc : (events : List DiscEvent) (e : DiscEvent) → Among (map (λ (x : DiscEvent). OfDisc x) events) (OfDisc e) → Among events e
unmapped_disc [] e h = absurd h
unmapped_disc (x ∷ events) e h = ⊎_elim (λ (is : OfDisc x ≡ OfDisc e). inl (cc (is))) (λ (later : Among (map (λ (y : DiscEvent). OfDisc y) events) (OfDisc e)). inr (unmapped_disc events e later)) h

-- WHO HOLDS

one_holder : (o p : Option Transid) (h : Transid) → option_or o p ≡ Some h → (o ≡ Some h) ⊎ (p ≡ Some h)
one_holder None p h is = inr is
one_holder (Some x) p h is = inl is

-- another one holds the file, or a key
record IsHeld (s : DiscPart) (t h : Transid) : Type 0 where
  other : IsOther h t
  by : ((file : ℕ) × (file_holder s.events file ≡ Some h)) ⊎ ((file : ℕ) × (key : List ℕ) × (key_holder s.events file key ≡ Some h))

holder_held : (s : DiscPart) (t h : Transid) (file : ℕ) (key : List ℕ) → IsOther h t → holder s.events file key ≡ Some h → IsHeld s t h
holder_held s t h file key other is = record {
  other = other;
  by = ⊎_elim (λ (f : file_holder s.events file ≡ Some h). inl (file, f)) (λ (k : key_holder s.events file key ≡ Some h). inr (file, key, k)) (one_holder (file_holder s.events file) (key_holder s.events file key) h is);
}

turn_held : (s : DiscPart) (t h : Transid) (step : Step) (b : Bool) → MayTurn s t (if b then cause.BusyFile step.file h else cause.Busy step h) → IsHeld s t h
turn_held s t h step true may = ⊎_elim
    (λ (f : file_holder s.events step.file ≡ Some h). record { other = may.1; by = inl (step.file, f) })
    (λ (k : (key : List ℕ) × (holder s.events step.file key ≡ Some h)). holder_held s t h step.file k.0 may.1 k.1)
    may.2
turn_held s t h step false may = holder_held s t h step.file step.key may.1 may.2

disc_turns : (s : PartState) (t : Transid) (why : Cause) → IsAllowed s (OfDisc (did.Turn t why)) → (d : DiscPart) × (s ≡ Disc d) × MayTurn d t why
disc_turns (Disc d) t why may = (d, refl, may)
disc_turns (Worker s) t why may = absurd may
disc_turns (Trail s) t why may = absurd may
disc_turns (Monitor s) t why may = absurd may
disc_turns (Dump s) t why may = absurd may
disc_turns Idle t why may = absurd may

module _ (law : EventsLaw) (holders : HolderLaw) (found : Found) (t : Transid) where
  -- an attempt that has enlisted a disc has had the event
  enlisted_entry : (front : Log) (h : Transid) (volume : ℕ) → IsHistory node (opening_parts found) front → IsTrueIn node (states_after node (opening_parts found) front) (Enlisted h volume) → HasEnlisted front h volume
  enlisted_entry front h volume history (q, Worker w, at, makes) =
      let placed : q ≡ worker_part w.number = parts_placed found front history q (Worker w) at in
      let same : q ≡ worker_part h.worker = placed ∙ ap worker_part (sym makes.0.worker) in
      let had : Among (map (λ (e : WorkerEvent). OfWorker e) w.events) (OfWorker (Enlist h volume)) = mapped w.events (Enlist h volume) (enlisted_by w.events h volume makes.1) in
      let own : Among (events_of q front) (OfWorker (Enlist h volume)) = among_unreversed (events_of q front) (OfWorker (Enlist h volume)) (subst (λ (l : List Event). Among l (OfWorker (Enlist h volume))) (law found front q (Worker w) history at) had) in
      subst (λ (p : ℕ). Among front (p, OfWorker (Enlist h volume))) same (event_entry q front (OfWorker (Enlist h volume)) own)
  enlisted_entry front h volume history (q, Disc s, at, makes) = absurd makes
  enlisted_entry front h volume history (q, Trail s, at, makes) = absurd makes
  enlisted_entry front h volume history (q, Monitor s, at, makes) = absurd makes
  enlisted_entry front h volume history (q, Dump s, at, makes) = absurd makes
  enlisted_entry front h volume history (q, Idle, at, makes) = absurd makes

  -- where each attempt of the worker but this one has released, in front of the turn, where it had enlisted a disc, the holder is of another worker
  pub other_worker : (front rest : Log) (volume : ℕ) (h : Transid) (step : Step) → IsHistory node (opening_parts found) (front ++ (disc_part volume, OfDisc (did.Turn t (busy_cause h step))) ∷ rest)
      → ((u : Transid) (disc : ℕ) → u.worker ≡ t.worker → is_same_transid u t ≡ false → HasEnlisted front u disc → HasReleased front u disc) → h.worker ≡ t.worker → ⊥
  other_worker front rest volume h step history let_go same =
      let x : ℕ × Event = (disc_part volume, OfDisc (did.Turn t (busy_cause h step))) in
      let opening : List PartState = opening_parts found in
      let first : IsHistory node opening front = history_front node opening front (x ∷ rest) history in
      let states : List PartState = states_after node opening front in
      let enabled : IsEnabled node states x = (history_rest node opening front (x ∷ rest) history).0 in
      let by = disc_turns enabled.0 t (busy_cause h step) enabled.2 in
      let at : slice_get states (disc_part volume) ≡ Some (Disc by.0) = enabled.1 ∙ ap (λ (s : PartState). Some s) by.1 in
      let placed : disc_part volume ≡ disc_part by.0.number = parts_placed found front first (disc_part volume) (Disc by.0) at in
      let number : by.0.number ≡ volume = omega (arith, placed) in
      let held = turn_held by.0 t h step (is_lock step.op) by.2 in
      let live = holders found front volume by.0 h first at in
      let unreleased : has_released by.0.events h ≡ false = ⊎_elim
      (λ (f : (file : ℕ) × (file_holder by.0.events file ≡ Some h)). (live.1 f.0 f.1).unreleased)
      (λ (k : (file : ℕ) × (key : List ℕ) × (key_holder by.0.events file key ≡ Some h)). (live.0 k.0 k.1 k.2).unreleased)
      held.by in
      let fact : IsTrueIn node states (Enlisted h by.0.number) = ⊎_elim
      (λ (f : (file : ℕ) × (file_holder by.0.events file ≡ Some h)). (live.1 f.0 f.1).enlisted)
      (λ (k : (file : ℕ) × (key : List ℕ) × (key_holder by.0.events file key ≡ Some h)). (live.0 k.0 k.1 k.2).enlisted)
      held.by in
      let enlisted : HasEnlisted front h volume = enlisted_entry front h volume first (subst (λ (n : ℕ). IsTrueIn node states (Enlisted h n)) number fact) in
      let released : HasReleased front h volume = let_go h volume same held.other.differs enlisted in
      let had : Among (map (λ (e : DiscEvent). OfDisc e) by.0.events) (OfDisc (did.Release h)) =
      subst (λ (l : List Event). Among l (OfDisc (did.Release h))) (sym (law found front (disc_part volume) (Disc by.0) first at))
      (among_reverse (events_of (disc_part volume) front) (OfDisc (did.Release h)) (entry_event (disc_part volume) front (OfDisc (did.Release h)) released)) in
      absurd (cc (sym (released_of by.0.events h (unmapped_disc by.0.events (did.Release h) had)) ∙ unreleased))
