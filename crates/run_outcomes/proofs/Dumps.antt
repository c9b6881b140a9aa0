-- Where an item was turned away from a dump, the dump under way there was one for an item of another worker.
use Rattle.std.specs.Prelude.{◌≡◌, ◌≢◌, ◌⊎◌, ℕ, ◌+◌, ◌<◌, ◌≤◌, true, List, [], ◌∷◌, ◌++◌, map, reverse, slice_get, Option, Some, None, IsSome}
use Rattle.std.specs.Option.{option_map}
use Rattle.std.proofs.Common.{refl, sym, ap, subst, ◌∙◌, arith, inl, inr, ⊎_elim, append_assoc}
use Rattle.std.proofs.lemmas.Bool.{cases_eq, eq-eqb}
use mathlib.Core.List.{IsPrefix}
use Rattle.chronicle.proofs.States.{changed_at_else, changed_at_here, history_front, history_rest}
use Rattle.chronicle.specs.Histories.{IsEnabled, IsHistory, events_of, next_states, states_after}
use Rattle.node_machine.specs.Deeds.{EventsLaw, Log, events_at}
use Rattle.node_machine.specs.Disc.{DiscMay, MayStart}
use Rattle.node_machine.specs.Made.{dumps_begun, under_way}
use Rattle.node_machine.specs.Moves.{is_move_of, moves_of}
use Rattle.node_machine.specs.Node.{IsAllowed, node, state_with}
use Rattle.node_machine.specs.Opening.{Found, disc_part, opening_parts}
use Rattle.node_machine.specs.Parts.{DiscPart, DumpStart, PartState}
use Rattle.node_machine.specs.Parts.PartState.{Worker, Disc, Trail, Monitor, Dump, Idle}
use Rattle.node_machine.specs.Same.{Among}
use Rattle.node_machine.specs.SameLaws.{among_append, among_left, among_right}
use Rattle.node_machine.specs.declared.event.Cause.TheVariants.{Dumping as DumpingCause}
use Rattle.node_machine.specs.declared.event.DiscEvent.{DiscEvent}
use Rattle.node_machine.specs.declared.event.DiscEvent.TheVariants.{Start, Raise, Turn}
use Rattle.node_machine.specs.declared.event.Event.{Event}
use Rattle.node_machine.specs.declared.event.Event.TheVariants.{OfWorker, OfDisc, OfTrail, OfMonitor, OfDump}
use Rattle.tmf_model.specs.declared.transid.Transid.{Transid}
use Rattle.run_outcomes.proofs.Elements.{among_reverse, reversed_among}
use Rattle.run_outcomes.proofs.Telling.{among_event, among_filter, among_split, event_among, exact}
use Rattle.run_outcomes.specs.Dumps.{HasEndedItsDumps, AreDumpsEnded, EndsItsDumps, IsTurnedByNoneOf}
use Rattle.run_outcomes.specs.Moves.{HasRaised, dump_turn, start_move}
use Rattle.run_outcomes.specs.Reach.{Reach}
use Rattle.run_outcomes.specs.Telling.{AreWorkers}
use Rattle.run_outcomes.specs.Told.{Account, IsTurnedByOther}
use Rattle.run_outcomes.specs.declared.outcome.Outcome.{Outcome}
use Rattle.run_outcomes.specs.declared.outcome.Told.TheVariants.{Dumping}

-- THE EVENTS OF A DISC, THE NEWEST FIRST

-- each dump has the next number, and an end is that of the dump under way
abbrev AreLawful : List DiscEvent → Type 0
AreLawful [] = Unit {0}
AreLawful (Start number start item ∷ events) = (number ≡ dumps_begun events + 1) × AreLawful events
AreLawful (Raise number rest ∷ events) = ((dump : DumpStart) × (under_way events ≡ Some dump) × (dump.number ≡ number)) × AreLawful events
AreLawful (_ ∷ events) = AreLawful events

lawful_with : (s : DiscPart) (e : DiscEvent) → DiscMay s e → AreLawful s.events → AreLawful (e ∷ s.events)
lawful_with s (Start number start item) may lawful = (may.next, lawful)
lawful_with s (Raise number rest) may lawful = ((may.dump, may.way, may.is_it), lawful)
lawful_with s _ may lawful = lawful

-- the dump under way was begun
way_begun : (events : List DiscEvent) (dump : DumpStart) → under_way events ≡ Some dump → (item : Transid) × Among events (Start dump.number dump.start item)
way_begun [] dump way = absurd (cc (way))
way_begun (Start number start item ∷ events) dump way =
    let begun : DumpStart = record { number = number; start = start } in
    let same : begun ≡ dump = cc (way) in
    (item, inl (ap (λ (d : DumpStart). Start d.number d.start item) same))
way_begun (Raise number rest ∷ events) dump way = absurd (cc (way))
way_begun (_ ∷ events) dump way = (let it = way_begun events dump way in (it.0, inr it.1))

-- it is the last one
way_last : (events : List DiscEvent) (dump : DumpStart) → AreLawful events → under_way events ≡ Some dump → dump.number ≡ dumps_begun events
way_last [] dump lawful way = absurd (cc (way))
way_last (Start number start item ∷ events) dump lawful way =
    let begun : DumpStart = record { number = number; start = start } in
    let same : begun ≡ dump = cc (way) in
    ap (λ (d : DumpStart). d.number) (sym same) ∙ lawful.0
way_last (Raise number rest ∷ events) dump lawful way = absurd (cc (way))
way_last (_ ∷ events) dump lawful way = way_last events dump lawful way

begun_few : (events : List DiscEvent) (number start : ℕ) (item : Transid) → AreLawful events → Among events (Start number start item) → number ≤ dumps_begun events
begun_few [] number start item lawful among = absurd among
begun_few (Start n s u ∷ events) number start item lawful among = ⊎_elim
    (λ (same : Start n s u ≡ Start number start item). let one : n ≡ number = cc (same) in let next = lawful.0 in omega (arith, one, next))
    (λ (later : Among events (Start number start item)). let few = begun_few events number start item lawful.1 later in omega (arith, few))
    among
begun_few (Raise n rest ∷ events) number start item lawful among = ⊎_elim
    (λ (same : Raise n rest ≡ Start number start item). absurd (cc (same)))
    (λ (later : Among events (Start number start item)). begun_few events number start item lawful.1 later)
    among
begun_few (_ ∷ events) number start item lawful (inl same) = absurd (cc (same))
begun_few (_ ∷ events) number start item lawful (inr later) = begun_few events number start item lawful later

raised_few : (events : List DiscEvent) (number : ℕ) (rest : Option ℕ) → AreLawful events → Among events (Raise number rest) → number ≤ dumps_begun events
raised_few [] number rest lawful among = absurd among
raised_few (Start n s u ∷ events) number rest lawful among = ⊎_elim
    (λ (same : Start n s u ≡ Raise number rest). absurd (cc (same)))
    (λ (later : Among events (Raise number rest)). let few = raised_few events number rest lawful.1 later in omega (arith, few))
    among
raised_few (Raise n r ∷ events) number rest lawful among = ⊎_elim
    (λ (same : Raise n r ≡ Raise number rest).
    let one : n ≡ number = cc (same) in
    let last = way_last events lawful.0.0 lawful.1 lawful.0.1 in
    let its = lawful.0.2 in
    omega (arith, one, last, its))
    (λ (later : Among events (Raise number rest)). raised_few events number rest lawful.1 later)
    among
raised_few (_ ∷ events) number rest lawful (inl same) = absurd (cc (same))
raised_few (_ ∷ events) number rest lawful (inr later) = raised_few events number rest lawful later

-- each that is ended was begun before it
raised_over : (events : List DiscEvent) (dump : DumpStart) (number : ℕ) (rest : Option ℕ) → AreLawful events → under_way events ≡ Some dump → Among events (Raise number rest) → number < dump.number
raised_over [] dump number rest lawful way among = absurd among
raised_over (Start n s u ∷ events) dump number rest lawful way among = ⊎_elim
    (λ (same : Start n s u ≡ Raise number rest). absurd (cc (same)))
    (λ (later : Among events (Raise number rest)).
    let last = way_last (Start n s u ∷ events) dump lawful way in
    let few = raised_few events number rest lawful.1 later in
    omega (arith, last, few))
    among
raised_over (Raise n r ∷ events) dump number rest lawful way among = absurd (cc (way))
raised_over (_ ∷ events) dump number rest lawful way (inl same) = absurd (cc (same))
raised_over (_ ∷ events) dump number rest lawful way (inr later) = raised_over events dump number rest lawful way later

-- THE DISCS IN A HISTORY

abbrev IsFine : PartState → Type 0
IsFine (Disc s) = AreLawful s.events
IsFine _ = Unit {0}

fine_with : (s : PartState) (e : Event) → IsAllowed s e → IsFine s → IsFine (state_with s e)
fine_with (Disc s) (OfDisc e) may fine = lawful_with s e may fine
fine_with (Worker s) (OfWorker e) may fine = tt
fine_with (Trail s) (OfTrail e) may fine = tt
fine_with (Monitor s) (OfMonitor e) may fine = tt
fine_with (Dump s) (OfDump e) may fine = tt
fine_with _ _ may fine = fine

abbrev AreFine : List PartState → Type 0
AreFine states = (part : ℕ) (s : PartState) → slice_get states part ≡ Some s → IsFine s

fine_next : (states : List PartState) (x : ℕ × Event) → IsEnabled node states x → AreFine states → AreFine (next_states node states x)
fine_next states x enabled fine part s at = ⊎_elim
    (λ (here : x.0 ≡ part).
    let now : slice_get (next_states node states x) x.0 ≡ Some (state_with enabled.0 x.1) =
    changed_at_here (λ (t : PartState). state_with t x.1) x.0 states ∙ ap (λ (o : Option PartState). option_map (λ (t : PartState). state_with t x.1) o) enabled.1 in
    let there : slice_get (next_states node states x) x.0 ≡ Some s = subst (λ (p : ℕ). slice_get (next_states node states x) p ≡ Some s) (sym here) at in
    let both : Some (state_with enabled.0 x.1) ≡ Some s = sym now ∙ there in
    let same : state_with enabled.0 x.1 ≡ s = cc (both) in
    subst IsFine same (fine_with enabled.0 x.1 enabled.2 (fine x.0 enabled.0 enabled.1)))
    (λ (other : x.0 ≢ part). fine part s (sym (changed_at_else (λ (t : PartState). state_with t x.1) x.0 part states other) ∙ at))
    (cases_eq x.0 part)

fine_after : (states : List PartState) (log : Log) → IsHistory node states log → AreFine states → AreFine (states_after node states log)
fine_after states [] history fine = fine
fine_after states (x ∷ log) history fine = fine_after (next_states node states x) log history.1 (fine_next states x history.0 fine)

no_events : (events : List DiscEvent) → map (λ e. OfDisc e) events ≡ [] → AreLawful events
no_events [] none = tt
no_events (e ∷ events) none = absurd (cc (none))

fine_unused : (s : PartState) → events_at s ≡ [] → IsFine s
fine_unused (Disc s) none = no_events s.events none
fine_unused _ none = tt

of_disc : (events : List DiscEvent) (e : DiscEvent) → Among (map (λ x. OfDisc x) events) (OfDisc e) → Among events e
of_disc [] e among = among
of_disc (x ∷ events) e among = ⊎_elim (λ (same : OfDisc x ≡ OfDisc e). inl (cc (same))) (λ (later : Among (map (λ x. OfDisc x) events) (OfDisc e)). inr (of_disc events e later)) among

to_disc : (events : List DiscEvent) (e : DiscEvent) → Among events e → Among (map (λ x. OfDisc x) events) (OfDisc e)
to_disc [] e among = among
to_disc (x ∷ events) e among = ⊎_elim (λ (same : x ≡ e). inl (ap (λ (y : DiscEvent). OfDisc y) same)) (λ (later : Among events e). inr (to_disc events e later)) among

allowed_at : (s : PartState) (e : DiscEvent) → IsAllowed s (OfDisc e) → (d : DiscPart) × (s ≡ Disc d) × DiscMay d e
allowed_at (Disc d) e may = (d, refl, may)
allowed_at (Worker s) e may = absurd may
allowed_at (Trail s) e may = absurd may
allowed_at (Monitor s) e may = absurd may
allowed_at (Dump s) e may = absurd may
allowed_at Idle e may = absurd may

-- The disc of a part at a moment, where it may have this event: it has had the events of the history.
record IsDiscAt (front : Log) (part : ℕ) (e : DiscEvent) : Type 0 where
  disc : DiscPart
  may : DiscMay disc e
  lawful : AreLawful disc.events
  has : (x : DiscEvent) → Among front (part, OfDisc x) → Among disc.events x
  had : (x : DiscEvent) → Among disc.events x → Among front (part, OfDisc x)

module _ (law : EventsLaw) (found : Found) where
  fine_opening : AreFine (opening_parts found)
  fine_opening part s at = fine_unused s (law found [] part s tt at)

  disc_at : (front rest : Log) (part : ℕ) (e : DiscEvent) → IsHistory node (opening_parts found) (front ++ (part, OfDisc e) ∷ rest) → IsDiscAt front part e
  disc_at front rest part e history =
      let states = states_after node (opening_parts found) front in
      let before = history_front node (opening_parts found) front ((part, OfDisc e) ∷ rest) history in
      let behind = history_rest node (opening_parts found) front ((part, OfDisc e) ∷ rest) history in
      let enabled : IsEnabled node states (part, OfDisc e) = behind.0 in
      let by = allowed_at enabled.0 e enabled.2 in
      let at : slice_get states part ≡ Some (Disc by.0) = enabled.1 ∙ ap (λ (s : PartState). Some s) by.1 in
      let same : map (λ x. OfDisc x) by.0.events ≡ reverse (events_of part front) = law found front part (Disc by.0) before at in
      record {
        disc = by.0;
        may = by.2;
        lawful = fine_after (opening_parts found) front before fine_opening part (Disc by.0) at;
        has = λ x among. of_disc by.0.events x (subst (λ (l : List Event). Among l (OfDisc x)) (sym same) (among_reverse (events_of part front) (OfDisc x) (event_among part front (OfDisc x) among)));
        had = λ x among. among_event part front (OfDisc x) (reversed_among (events_of part front) (OfDisc x) (subst (λ (l : List Event). Among l (OfDisc x)) same (to_disc by.0.events x among)));
      }

  -- WHICH DUMP IS UNDER WAY WHERE AN ITEM IS TURNED AWAY

  -- one was begun in front of the turn, and neither ended there nor begun behind it
  record IsUnderWay (front rest : Log) (volume : ℕ) : Type 0 where
    number : ℕ
    start : ℕ
    item : Transid
    begun : Among front (start_move volume item number start)
    unended : HasRaised front volume number → ⊥
    once : Among rest (start_move volume item number start) → ⊥

  module _ (front rest : Log) (volume : ℕ) (t : Transid) (history : IsHistory node (opening_parts found) (front ++ dump_turn volume t ∷ rest)) where
    at_turn : IsDiscAt front (disc_part volume) (Turn t DumpingCause)
    at_turn = disc_at front rest (disc_part volume) (Turn t DumpingCause) history

    -- a dump that is begun behind it has another number
    begun_once : (number start : ℕ) (item : Transid) → Among front (start_move volume item number start) → Among rest (start_move volume item number start) → ⊥
    begun_once number start item first again =
        let x : ℕ × Event = start_move volume item number start in
        let turn : ℕ × Event = dump_turn volume t in
        let cut = among_split rest x again in
        let whole : front ++ turn ∷ rest ≡ (front ++ turn ∷ cut.0) ++ x ∷ cut.1 = ap (λ (l : Log). front ++ turn ∷ l) cut.2 ∙ sym (append_assoc front (turn ∷ cut.0) (x ∷ cut.1)) in
        let at = disc_at (front ++ turn ∷ cut.0) cut.1 (disc_part volume) (Start number start item) (subst (λ (l : Log). IsHistory node (opening_parts found) l) whole history) in
        let few = begun_few at.disc.events number start item at.lawful (at.has (Start number start item) (among_left front (turn ∷ cut.0) x first)) in
        let may : MayStart at.disc number start = at.may in
        let next = may.next in
        omega (arith, few, next)

    way_is : (o : Option DumpStart) → under_way at_turn.disc.events ≡ o → IsSome o → IsUnderWay front rest volume
    way_is None way some = absurd (cc (some))
    way_is (Some dump) way some =
        let it = way_begun at_turn.disc.events dump way in
        let begun = at_turn.had (Start dump.number dump.start it.0) it.1 in
        record {
          number = dump.number;
          start = dump.start;
          item = it.0;
          begun = begun;
          unended = λ raised.
              let less = raised_over at_turn.disc.events dump dump.number raised.0 at_turn.lawful way (at_turn.has (Raise dump.number raised.0) raised.1) in
              omega (arith, less);
          once = begun_once dump.number dump.start it.0 begun;
        }

    under_way_at : IsUnderWay front rest volume
    under_way_at = way_is (under_way at_turn.disc.events) refl at_turn.may

  not_apart : (front rest more : Log) (volume : ℕ) → (way : IsUnderWay front (rest ++ more) volume) → HasRaised front volume way.number ⊎ Among rest (start_move volume way.item way.number way.start) → ⊥
  not_apart front rest more volume way (inl raised) = way.unended raised
  not_apart front rest more volume way (inr behind) = way.once (among_left rest more (start_move volume way.item way.number way.start) behind)

-- ALL WORKERS

module _ (law : EventsLaw) (account : Log → Account) (found : Found) (log : Log) (reach : ℕ → Reach) (acts moves : ℕ → Log) (of : ℕ → List Outcome) (outcomes : List Outcome)
    (all : AreWorkers account found log reach acts moves of outcomes) where
  -- an item that tells of a dump was turned away from one of another worker
  pub dumping_told : (outcome : Outcome) (volume : ℕ) → Among outcomes outcome → outcome.told ≡ Dumping volume → IsTurnedByOther log volume outcome.tx
  dumping_told outcome volume among told_is =
      let worker = outcome.tx.worker in
      let its = all.each outcome among in
      let apart = (all.is worker its.0).dumps.apart outcome volume its.1 told_is in
      let begins : IsPrefix (reach worker).seat.seen log = (all.whole worker its.0).begins in
      let turn : ℕ × Event = dump_turn volume outcome.tx in
      let stands : log ≡ apart.front ++ turn ∷ (apart.rest ++ begins.0) =
      sym begins.1 ∙ ap (λ (l : Log). l ++ begins.0) apart.stands ∙ append_assoc apart.front (turn ∷ apart.rest) begins.0 in
      let way = under_way_at law found apart.front (apart.rest ++ begins.0) volume outcome.tx (subst (λ (l : Log). IsHistory node (opening_parts found) l) stands all.history) in
      let x : ℕ × Event = start_move volume way.item way.number way.start in
      let there : Among log x = subst (λ (l : Log). Among l x) (sym stands) (among_left apart.front (turn ∷ (apart.rest ++ begins.0)) x way.begun) in
      record {
        front = apart.front;
        rest = apart.rest ++ begins.0;
        stands = stands;
        item = way.item;
        other = λ same.
            let own : is_move_of worker x.1 ≡ true = eq-eqb way.item.worker worker same in
            let has = among_filter (λ (entry : ℕ × Event). is_move_of worker entry.1) log x there own in
            let known : moves_of worker log ≡ moves worker = (exact account found log reach acts moves of outcomes all).moved.each worker its.0 in
            not_apart law found apart.front apart.rest begins.0 volume way (apart.each way.item way.number way.start (subst (λ (l : Log). Among l x) known has));
        number = way.number;
        start = way.start;
        begun = way.begun;
        unended = way.unended;
      }

-- ONE OUTCOME MORE

module _ (old new moves more_moves : Log) (outcomes : List Outcome) (outcome : Outcome) (before : HasEndedItsDumps old moves outcomes) (is : EndsItsDumps old new more_moves outcome) where
  seen_on : (x : ℕ × Event) → Among old x → Among new x
  seen_on x among = subst (λ (l : Log). Among l x) (sym is.seen) (among_left old is.more x among)

  ended_now : AreDumpsEnded new (moves ++ more_moves)
  ended_now volume t number start among = ⊎_elim
      (λ (there : Among moves (start_move volume t number start)). let raised = before.ended volume t number start there in (raised.0, seen_on (disc_part volume, OfDisc (Raise number raised.0)) raised.1))
      (λ (here : Among more_moves (start_move volume t number start)). is.ended volume t number start here)
      (among_append moves more_moves (start_move volume t number start) among)

  -- of what an earlier one was turned away from nothing is new
  still_apart : (volume : ℕ) (t : Transid) → IsTurnedByNoneOf old moves volume t → IsTurnedByNoneOf new (moves ++ more_moves) volume t
  still_apart volume t apart = record {
    front = apart.front;
    rest = apart.rest ++ is.more;
    stands = is.seen ∙ ap (λ (l : Log). l ++ is.more) apart.stands ∙ append_assoc apart.front (dump_turn volume t ∷ apart.rest) is.more;
    each = λ u number start among. ⊎_elim
        (λ (there : Among moves (start_move volume u number start)). ⊎_elim
        (λ (raised : HasRaised apart.front volume number). inl raised)
        (λ (behind : Among apart.rest (start_move volume u number start)). inr (among_left apart.rest is.more (start_move volume u number start) behind))
        (apart.each u number start there))
        (λ (here : Among more_moves (start_move volume u number start)). inr (among_right apart.rest is.more (start_move volume u number start) (is.begun volume u number start here)))
        (among_append moves more_moves (start_move volume u number start) among);
  }

  -- where this one was turned away, each dump before it was ended
  now_apart : (volume : ℕ) → outcome.told ≡ Dumping volume → IsTurnedByNoneOf new (moves ++ more_moves) volume outcome.tx
  now_apart volume told_is =
      let turned = is.turned volume told_is in
      let x : ℕ × Event = dump_turn volume outcome.tx in
      let cut = among_split is.more x turned.1 in
      record {
        front = old ++ cut.0;
        rest = cut.1;
        stands = is.seen ∙ ap (λ (l : Log). old ++ l) cut.2 ∙ sym (append_assoc old cut.0 (x ∷ cut.1));
        each = λ u number start among. ⊎_elim
            (λ (there : Among moves (start_move volume u number start)).
            let raised = before.ended volume u number start there in
            inl (raised.0, among_left old cut.0 (disc_part volume, OfDisc (Raise number raised.0)) raised.1))
            (λ (here : Among more_moves (start_move volume u number start)). absurd (subst (λ (l : Log). Among l (start_move volume u number start)) turned.0 here))
            (among_append moves more_moves (start_move volume u number start) among);
      }

  pub dumps_apart : HasEndedItsDumps new (moves ++ more_moves) (outcomes ++ outcome ∷ [])
  dumps_apart = record {
    ended = ended_now;
    apart = λ o volume among told_is. ⊎_elim
        (λ (there : Among outcomes o). still_apart volume o.tx (before.apart o volume there told_is))
        (λ (last : Among (outcome ∷ []) o). ⊎_elim
        (λ (same : outcome ≡ o). subst (λ (u : Outcome). IsTurnedByNoneOf new (moves ++ more_moves) volume u.tx) same (now_apart volume (ap (λ (u : Outcome). u.told) same ∙ told_is)))
        (λ (none : Among {A = Outcome} [] o). absurd none)
        last)
        (among_append outcomes (outcome ∷ []) o among);
  }
