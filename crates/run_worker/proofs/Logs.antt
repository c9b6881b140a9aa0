-- What a history says of an attempt's events at its worker, where it goes on from what the worker's seat has seen at the end.
use Rattle.std.specs.Prelude.{◌⊎◌, ◌==◌, ◌<◌, cond, IsSome, length}
use Rattle.std.proofs.Common.{◌≡◌, inl, inr, ⊎_elim, ℕ, Bool, true, false, List, [], ◌∷◌, ◌++◌, append-nil, append_assoc, eqb-true, Option, Some, None, slice_get, refl, ap, sym, ◌∙◌, subst, arith}
use Rattle.std.proofs.lemmas.List.{append_cancel_left}
use mathlib.Core.List.{IsPrefix}
use Rattle.chronicle.specs.Histories.{IsHistory, events_of, states_after}
use Rattle.chronicle.specs.Seats.{Sight, own_events, part_state}
use Rattle.chronicle.proofs.Facts.{own_events_of, state_of_part}
use Rattle.chronicle.proofs.States.{history_front}
use Rattle.tmf_model.specs.declared.script.Close.{Close}
use Rattle.tmf_model.specs.declared.transid.Transid.{Transid}
use Rattle.node_machine.specs.Deeds.{EventsLaw, HasBegun, HasEnlisted, HasLetGo, HasWorkerEvent, Log, count_of}
use Rattle.node_machine.specs.Node.{node}
use Rattle.node_machine.specs.Opening.{Found, disc_part, monitor_part, opening_parts, worker_part}
use Rattle.node_machine.specs.Parts.{WorkerPart}
use Rattle.node_machine.specs.Parts.PartState.{Worker}
use Rattle.node_machine.specs.Same.{Among, IsBefore}
use Rattle.node_machine.specs.SameLaws.{among_append, among_right}
use Rattle.node_machine.specs.Worker.{decision, enlisted_discs, has_finished}
use Rattle.node_machine.specs.declared.event.DiscEvent.TheVariants.{Release}
use Rattle.node_machine.specs.declared.event.Event.{Event}
use Rattle.node_machine.specs.declared.event.Event.TheVariants.{OfDisc, OfWorker}
use Rattle.node_machine.specs.declared.event.WorkerEvent.{WorkerEvent}
use Rattle.node_machine.specs.declared.event.WorkerEvent.TheVariants.{Begin, Enlist, Finish, End, Quit}
use Rattle.run_outcomes.specs.Between.{IsEventOf, MayBeNext}
use Rattle.run_outcomes.specs.Within.{MightBegin}
use Rattle.run_worker.proofs.Begins.{begins_once, entry_event, unmapped, worker_had}
use Rattle.run_worker.proofs.Between.{begun_of, decided_of, enlisted_of, finished_of}
use Rattle.run_worker.proofs.Had.{Closes, Had, MayFinishFirst, enlists, of_worker}
use Rattle.run_worker.proofs.Entries.{entries_append, entry_here, last_stands, prefix_then, seen_on}
use Rattle.run_worker.proofs.Splits.{behind_item, either_front, front_within, same_front}

one_entry : (part : ℕ) (x : ℕ × Event) (log : Log) (e : Event) → (Among (events_of part log) e → Among log (part, e)) → (b : Bool) → (x.0 == part) ≡ b
    → Among (cond b (x.1 ∷ events_of part log) (events_of part log)) e → Among (x ∷ log) (part, e)
one_entry part x log e rest true at has =
    ⊎_elim (λ (same : x.1 ≡ e). let here : x.0 ≡ part = eqb-true x.0 part at in inl (λ i. (here i, same i))) (λ (later : Among (events_of part log) e). inr (rest later)) has
one_entry part x log e rest false at has = inr (rest has)

-- an event that a part has is an entry
pub event_entry : (part : ℕ) (log : Log) (e : Event) → Among (events_of part log) e → Among log (part, e)
event_entry part [] e has = has
event_entry part (x ∷ log) e has = one_entry part x log e (event_entry part log e) (x.0 == part) refl has

no_decision : (o : Option Close) → IsSome o → o ≡ None → ⊥
no_decision None some none = absurd (cc (some))
no_decision (Some close) some none = absurd (cc (none))

pub mapped : (events : List WorkerEvent) (e : WorkerEvent) → Among events e → Among (of_worker events) (OfWorker e)
mapped [] e h = absurd h
mapped (x ∷ events) e h = ⊎_elim (λ (is : x ≡ e). inl (ap (λ (y : WorkerEvent). OfWorker y) is)) (λ (later : Among events e). inr (mapped events e later)) h

enlisted_in : (t : Transid) (discs : List ℕ) (volume : ℕ) → Among (enlists t discs) (Enlist t volume) → Among discs volume
enlisted_in t [] volume h = absurd h
enlisted_in t (disc ∷ discs) volume h = ⊎_elim (λ (is : Enlist t disc ≡ Enlist t volume). inl (cc (is))) (λ (later : Among (enlists t discs) (Enlist t volume)). inr (enlisted_in t discs volume later)) h

-- of these events none is another kind's
not_enlists : (t : Transid) (discs : List ℕ) (e : WorkerEvent) → ((disc : ℕ) → Enlist t disc ≡ e → ⊥) → Among (enlists t discs) e → ⊥
not_enlists t [] e never h = absurd h
not_enlists t (disc ∷ discs) e never h = ⊎_elim (λ (is : Enlist t disc ≡ e). never disc is) (λ (later : Among (enlists t discs) e). not_enlists t discs e never later) h

not_finish : (t : Transid) (first : List WorkerEvent) (e : WorkerEvent) → MayFinishFirst t first → (Finish t ≡ e → ⊥) → Among first e → ⊥
not_finish t first e (inl none) never h = subst (λ (l : List WorkerEvent). Among l e) none h
not_finish t first e (inr one) never h = ⊎_elim (λ (is : Finish t ≡ e). never is) (λ (none : Among [] e). none) (subst (λ (l : List WorkerEvent). Among l e) one h)

not_last : (t : Transid) (last e : WorkerEvent) → Closes t last → (End t ≡ e → ⊥) → (Quit t ≡ e → ⊥) → last ≡ e → ⊥
not_last t last e (inl is) no_end no_quit same = no_end (sym is ∙ same)
not_last t last e (inr is) no_end no_quit same = no_quit (sym is ∙ same)

-- of the events of an attempt those that enlist a disc are of these
pub enlist_of : (t : Transid) (discs : List ℕ) (first : List WorkerEvent) → MayFinishFirst t first → (last : WorkerEvent) → Closes t last → (volume : ℕ) → Among ((Begin t ∷ (enlists t discs ++ first)) ++ last ∷ []) (Enlist t volume)
    → Among discs volume
enlist_of t discs first first_is last closes volume h = ⊎_elim
    (λ (front : Among (Begin t ∷ (enlists t discs ++ first)) (Enlist t volume)).
    ⊎_elim
    (λ (is : Begin t ≡ Enlist t volume). absurd (cc (is)))
    (λ (later : Among (enlists t discs ++ first) (Enlist t volume)).
    ⊎_elim
    (λ (one : Among (enlists t discs) (Enlist t volume)). enlisted_in t discs volume one)
    (λ (two : Among first (Enlist t volume)). absurd (not_finish t first (Enlist t volume) first_is (λ is. cc (is)) two))
    (among_append (enlists t discs) first (Enlist t volume) later))
    front)
    (λ (end : Among (last ∷ []) (Enlist t volume)).
    ⊎_elim (λ (is : last ≡ Enlist t volume). absurd (not_last t last (Enlist t volume) closes (λ same. cc (same)) (λ same. cc (same)) is)) (λ (none : Among [] (Enlist t volume)). absurd none) end)
    (among_append (Begin t ∷ (enlists t discs ++ first)) (last ∷ []) (Enlist t volume) h)

module _ (law : EventsLaw) (found : Found) (t : Transid) (old new : Sight Event) (log : Log) (state : WorkerPart) (part : old.part ≡ Some (worker_part t.worker))
    (at : part_state node (opening_parts found) old ≡ Some (Worker state)) (next : MayBeNext state.events t) (history : IsHistory node (opening_parts found) log) (pre : IsPrefix old.seen new.seen) (begins : IsPrefix new.seen log)
    (mine : (e : WorkerEvent) → IsEventOf t e → HasWorkerEvent log t e → HasWorkerEvent new.seen t e) where
  abbrev own_part : ℕ
  own_part = worker_part t.worker

  old_history : IsHistory node (opening_parts found) old.seen
  old_history =
      let whole = prefix_then old.seen new.seen log pre begins in
      history_front node (opening_parts found) old.seen whole.0 (subst (λ (l : Log). IsHistory node (opening_parts found) l) (sym whole.1) history)

  same_not : (u : Transid) → IsBefore u u → ⊥
  same_not u (inl less) = omega (arith, less)
  same_not u (inr same) = (let is = same.1 in omega (arith, is))

  not_in : (e : WorkerEvent) → IsEventOf t e → Among state.events e → ⊥
  not_in (Begin u) its h = same_not t (subst (λ (x : Transid). IsBefore x t) its (next.earlier u (begun_of state.events u h)))
  not_in (Enlist u disc) its h = subst (λ (l : List ℕ). Among l disc) next.alone (subst (λ (x : Transid). Among (enlisted_discs state.events x) disc) its (enlisted_of state.events u disc h))
  not_in (Finish u) its h = (let is : has_finished state.events t ≡ true = subst (λ (x : Transid). has_finished state.events x ≡ true) its (finished_of state.events u h) in absurd (cc (sym is ∙ next.unfinished)))
  not_in (End u) its h = no_decision (decision state.events t) (subst (λ (x : Transid). IsSome (decision state.events x)) its (decided_of state.events u (End u) (inl refl) h)) next.undecided
  not_in (Quit u) its h = no_decision (decision state.events t) (subst (λ (x : Transid). IsSome (decision state.events x)) its (decided_of state.events u (Quit u) (inr refl) h)) next.undecided

  -- before the attempt its worker had had no event of it
  pub fresh : (e : WorkerEvent) → IsEventOf t e → Among (own_events old) (OfWorker e) → ⊥
  fresh e its h =
      let here : slice_get (states_after node (opening_parts found) old.seen) own_part ≡ Some (Worker state) = sym (state_of_part node (opening_parts found) old own_part part) ∙ at in
      not_in e its (worker_had law found old.seen own_part state e old_history here (subst (λ (l : List Event). Among l (OfWorker e)) (own_events_of old own_part part) h))

  own_new : (more : List WorkerEvent) → Had old new more → events_of own_part new.seen ≡ own_events old ++ of_worker more
  own_new more had = sym (own_events_of new own_part (had.part ∙ part)) ∙ had.own

  -- each event of it in the history is one of these
  pub its_among : (more : List WorkerEvent) → Had old new more → (e : WorkerEvent) → IsEventOf t e → HasWorkerEvent log t e → Among more e
  its_among more had e its has =
      let seen : Among (own_events old ++ of_worker more) (OfWorker e) = subst (λ (l : List Event). Among l (OfWorker e)) (own_new more had) (entry_event own_part new.seen (OfWorker e) (mine e its has)) in
      ⊎_elim
      (λ (before : Among (own_events old) (OfWorker e)). absurd (fresh e its before))
      (λ (after : Among (of_worker more) (OfWorker e)). unmapped more e after)
      (among_append (own_events old) (of_worker more) (OfWorker e) seen)

  -- and each of these is in the history
  pub among_its : (more : List WorkerEvent) → Had old new more → (e : WorkerEvent) → Among more e → HasWorkerEvent log t e
  among_its more had e h =
      let own : Among (events_of own_part new.seen) (OfWorker e) = subst (λ (l : List Event). Among l (OfWorker e)) (sym (own_new more had)) (among_right (own_events old) (of_worker more) (OfWorker e) (mapped more e h)) in
      seen_on new.seen log (own_part, OfWorker e) begins (event_entry own_part new.seen (OfWorker e) own)

  -- an attempt that has not begun has no event
  pub none_its : Had old new [] → (e : WorkerEvent) → IsEventOf t e → HasWorkerEvent log t e → ⊥
  none_its had e its has = its_among [] had e its has

  module _ (discs : List ℕ) (first : List WorkerEvent) (first_is : MayFinishFirst t first) (last : WorkerEvent) (closes : Closes t last) (had : Had old new ((Begin t ∷ (enlists t discs ++ first)) ++ last ∷ [])) where
    -- which of its events it is
    which : (e : WorkerEvent) → Among ((Begin t ∷ (enlists t discs ++ first)) ++ last ∷ []) e → (Begin t ≡ e) ⊎ Among (enlists t discs) e ⊎ Among first e ⊎ (last ≡ e)
    which e h = ⊎_elim
        (λ (front : Among (Begin t ∷ (enlists t discs ++ first)) e).
        ⊎_elim
        (λ (is : Begin t ≡ e). inl is)
        (λ (later : Among (enlists t discs ++ first) e). ⊎_elim (λ (one : Among (enlists t discs) e). inr (inl one)) (λ (two : Among first e). inr (inr (inl two))) (among_append (enlists t discs) first e later))
        front)
        (λ (end : Among (last ∷ []) e). ⊎_elim (λ (is : last ≡ e). inr (inr (inr is))) (λ (none : Among [] e). absurd none) end)
        (among_append (Begin t ∷ (enlists t discs ++ first)) (last ∷ []) e h)

    abbrev all : List WorkerEvent
    all = (Begin t ∷ (enlists t discs ++ first)) ++ last ∷ []

    pub has_begun_in : HasBegun log t
    has_begun_in = among_its all had (Begin t) (inl refl)

    pub has_last_in : HasWorkerEvent log t last
    has_last_in = among_its all had last (among_right (Begin t ∷ (enlists t discs ++ first)) (last ∷ []) last (inl refl))

    pub enlist_in : (volume : ℕ) → HasEnlisted log t volume → Among discs volume
    enlist_in volume h = ⊎_elim
        (λ (is : Begin t ≡ Enlist t volume). absurd (cc (is)))
        (λ (more : Among (enlists t discs) (Enlist t volume) ⊎ Among first (Enlist t volume) ⊎ (last ≡ Enlist t volume)).
        ⊎_elim
        (λ (one : Among (enlists t discs) (Enlist t volume)). enlisted_in t discs volume one)
        (λ (rest : Among first (Enlist t volume) ⊎ (last ≡ Enlist t volume)).
        ⊎_elim
        (λ (two : Among first (Enlist t volume)). absurd (not_finish t first (Enlist t volume) first_is (λ is. cc (is)) two))
        (λ (is : last ≡ Enlist t volume). absurd (not_last t last (Enlist t volume) closes (λ same. cc (same)) (λ same. cc (same)) is))
        rest)
        more)
        (which (Enlist t volume) (its_among all had (Enlist t volume) refl h))

    -- it has asked for no more only where that is among these events
    pub finish_in : HasWorkerEvent log t (Finish t) → Among first (Finish t)
    finish_in h = ⊎_elim
        (λ (is : Begin t ≡ Finish t). absurd (cc (is)))
        (λ (more : Among (enlists t discs) (Finish t) ⊎ Among first (Finish t) ⊎ (last ≡ Finish t)).
        ⊎_elim
        (λ (one : Among (enlists t discs) (Finish t)). absurd (not_enlists t discs (Finish t) (λ disc is. cc (is)) one))
        (λ (rest : Among first (Finish t) ⊎ (last ≡ Finish t)).
        ⊎_elim (λ (two : Among first (Finish t)). two) (λ (is : last ≡ Finish t). absurd (not_last t last (Finish t) closes (λ same. cc (same)) (λ same. cc (same)) is)) rest)
        more)
        (which (Finish t) (its_among all had (Finish t) refl h))

    decides_in : (e : WorkerEvent) → IsEventOf t e → (Begin t ≡ e → ⊥) → ((disc : ℕ) → Enlist t disc ≡ e → ⊥) → (Finish t ≡ e → ⊥) → HasWorkerEvent log t e → last ≡ e
    decides_in e its no_begin no_enlist no_finish h = ⊎_elim
        (λ (is : Begin t ≡ e). absurd (no_begin is))
        (λ (more : Among (enlists t discs) e ⊎ Among first e ⊎ (last ≡ e)).
        ⊎_elim
        (λ (one : Among (enlists t discs) e). absurd (not_enlists t discs e no_enlist one))
        (λ (rest : Among first e ⊎ (last ≡ e)). ⊎_elim (λ (two : Among first e). absurd (not_finish t first e first_is no_finish two)) (λ (is : last ≡ e). is) rest)
        more)
        (which e (its_among all had e its h))

    pub end_in : HasWorkerEvent log t (End t) → last ≡ End t
    end_in h = decides_in (End t) refl (λ is. cc (is)) (λ disc is. cc (is)) (λ is. cc (is)) h

    pub quit_in : HasWorkerEvent log t (Quit t) → last ≡ Quit t
    quit_in h = decides_in (Quit t) refl (λ is. cc (is)) (λ disc is. cc (is)) (λ is. cc (is)) h

    -- no other attempt of its worker begins between its events
    no_begin : (u : Transid) → Among ((enlists t discs ++ first) ++ last ∷ []) (Begin u) → ⊥
    no_begin u h = ⊎_elim
        (λ (front : Among (enlists t discs ++ first) (Begin u)).
        ⊎_elim
        (λ (one : Among (enlists t discs) (Begin u)). not_enlists t discs (Begin u) (λ disc is. cc (is)) one)
        (λ (two : Among first (Begin u)). not_finish t first (Begin u) first_is (λ is. cc (is)) two)
        (among_append (enlists t discs) first (Begin u) front))
        (λ (end : Among (last ∷ []) (Begin u)). ⊎_elim (λ (is : last ≡ Begin u). not_last t last (Begin u) closes (λ same. cc (same)) (λ same. cc (same)) is) (λ (none : Among [] (Begin u)). none) end)
        (among_append (enlists t discs ++ first) (last ∷ []) (Begin u) h)

    -- another attempt that begins behind it begins behind all that the seat has seen
    begin_behind : (before after : Log) (other : Transid) → log ≡ before ++ (own_part, OfWorker (Begin other)) ∷ after → HasBegun before t → IsPrefix new.seen before
    begin_behind before after other is begun = ⊎_elim (λ (p : IsPrefix new.seen before). p) (λ (p : IsPrefix before new.seen). of p.0 p.1) (either_front new.seen before begins.0 (entry ∷ after) (begins.1 ∙ is))
      where
        entry : ℕ × Event
        entry = (own_part, OfWorker (Begin other))

        of : (d : Log) → before ++ d ≡ new.seen → IsPrefix new.seen before
        of [] e = ([], append-nil new.seen ∙ sym e ∙ append-nil before)
        of (x ∷ d) e =
            let both : before ++ (x ∷ (d ++ begins.0)) ≡ before ++ entry ∷ after = sym (append_assoc before (x ∷ d) begins.0) ∙ ap (λ (l : Log). l ++ begins.0) e ∙ begins.1 ∙ is in
            let tails : x ∷ (d ++ begins.0) ≡ entry ∷ after = append_cancel_left before (x ∷ (d ++ begins.0)) (entry ∷ after) both in
            let same : x ≡ entry = cc (tails) in
            let split : events_of own_part new.seen ≡ events_of own_part before ++ OfWorker (Begin other) ∷ events_of own_part d =
            ap (events_of own_part) (sym e)
            ∙ entries_append own_part before (x ∷ d)
            ∙ ap (λ (y : ℕ × Event). events_of own_part before ++ events_of own_part (y ∷ d)) same
            ∙ ap (λ (l : List Event). events_of own_part before ++ l) (entry_here own_part entry d refl) in
            let among = behind_item (own_events old) (of_worker ((enlists t discs ++ first) ++ last ∷ [])) (events_of own_part before) (events_of own_part d) (OfWorker (Begin t)) (OfWorker (Begin other))
            (sym (own_new all had) ∙ split) (fresh (Begin t) refl) (entry_event own_part before (OfWorker (Begin t)) begun) in
            absurd (no_begin other (unmapped ((enlists t discs ++ first) ++ last ∷ []) (Begin other) among))

    -- where its seat has seen its release at each disc that it enlisted, it has let go
    pub let_go : ((volume : ℕ) → Among discs volume → Among new.seen (disc_part volume, OfDisc (Release t))) → HasLetGo log t
    let_go left = record {
      each = λ volume enlisted. seen_on new.seen log (disc_part volume, OfDisc (Release t)) begins (left volume (enlist_in volume enlisted));
      first = λ volume before after other enlisted is begun. seen_on new.seen before (disc_part volume, OfDisc (Release t)) (begin_behind before after other is begun) (left volume (enlist_in volume enlisted));
    }

-- THE BEGIN

-- in front of its begin neither its worker nor the monitor was spent, as at the moment of the look
pub might_begin : (law : EventsLaw) (found : Found) (t : Transid) (looked begun : Sight Event) (log : Log) → looked.part ≡ Some (worker_part t.worker) → IsHistory node (opening_parts found) log → IsPrefix begun.seen log → Had looked begun (Begin t ∷ [])
    → count_of (worker_part t.worker) looked.seen < found.config.steps → count_of monitor_part looked.seen < found.config.steps
    → (front rest : Log) → log ≡ front ++ (worker_part t.worker, OfWorker (Begin t)) ∷ rest → MightBegin found t front
might_begin law found t looked begun log part history begins had worker monitor front rest is =
    let p : ℕ = worker_part t.worker in
    let entry : ℕ × Event = (p, OfWorker (Begin t)) in
    let own : events_of p begun.seen ≡ events_of p looked.seen ++ OfWorker (Begin t) ∷ [] =
    sym (own_events_of begun p (had.part ∙ part)) ∙ had.own ∙ ap (λ (l : List Event). l ++ OfWorker (Begin t) ∷ []) (own_events_of looked p part) in
    let s = last_stands p (OfWorker (Begin t)) (events_of p looked.seen) begun.seen own in
    let whole : log ≡ s.front ++ entry ∷ (s.rest ++ begins.0) = sym begins.1 ∙ ap (λ (l : Log). l ++ begins.0) s.stands ∙ append_assoc s.front (entry ∷ s.rest) begins.0 in
    let never : (f r : Log) → log ≡ f ++ entry ∷ r → Among f entry → ⊥ = λ f r at. begins_once law found f r p t (subst (λ (l : Log). IsHistory node (opening_parts found) l) at history) in
    let same : s.front ≡ front = same_front s.front front (s.rest ++ begins.0) rest entry (sym whole ∙ is) (never s.front (s.rest ++ begins.0) whole) (never front rest is) in
    let counted : count_of p s.front ≡ count_of p looked.seen = ap (λ (l : List Event). length l) s.drawn_is in
    let looked_none : Among looked.seen entry → ⊥ = λ h.
    never s.front (s.rest ++ begins.0) whole (event_entry p s.front (OfWorker (Begin t)) (subst (λ (l : List Event). Among l (OfWorker (Begin t))) (sym s.drawn_is) (entry_event p looked.seen (OfWorker (Begin t)) h))) in
    let pre = front_within looked.seen s.front had.begins.0 s.rest entry (had.begins.1 ∙ s.stands) looked_none in
    subst (λ (l : Log). MightBegin found t l) same (record {
      worker = omega (arith, worker, counted);
      moment = looked.seen;
      before = pre;
      since = sym counted;
      monitor = monitor;
    })
