-- In front of each act of an attempt the limit of events was kept, whatever history goes on from what its seat has seen.
use Rattle.std.specs.Prelude.{◌⊎◌, ◌≤◌, ◌+◌, Bool, true, false, cond, if◌then◌else◌}
use Rattle.std.specs.List.{cons_option, filter, filter_map}
use Rattle.std.specs.Option.{option_map_or}
use Rattle.std.proofs.Common.{◌≡◌, inl, inr, ⊎_elim, ℕ, List, [], ◌∷◌, ◌++◌, length, length-append, append-nil, append_assoc, Option, Some, None, slice_get, refl, ap, sym, ◌∙◌, subst, arith}
use Rattle.std.proofs.lemmas.List.{append_cancel_left}
use Rattle.std.proofs.lemmas.List.Elements.{filter-append}
use mathlib.Core.List.{IsPrefix}
use Rattle.chronicle.specs.Histories.{IsEnabled, IsHistory, IsTrueIn, events_of, states_after}
use Rattle.chronicle.specs.Seats.{Sight}
use Rattle.chronicle.proofs.States.{history_front, history_rest, states_after-append, stays_true}
use Rattle.tmf_model.specs.declared.transid.Transid.{Transid}
use Rattle.trail_files.specs.MonitorOrder.{is_same_transid}
use Rattle.node_machine.specs.Acts.{actor, acts_by}
use Rattle.node_machine.specs.Deeds.{EventsLaw, HasBegun, Log, turn_of}
use Rattle.node_machine.specs.Laws.{node_facts_stay}
use Rattle.node_machine.specs.Node.{Asks, IsAllowed, node}
use Rattle.node_machine.specs.Opening.{Found, disc_part, opening_parts, worker_part}
use Rattle.node_machine.specs.Parts.{DiscPart, Fact, PartState, WorkerPart}
use Rattle.node_machine.specs.Parts.Fact.{Enlisted}
use Rattle.node_machine.specs.Parts.PartState.{Worker, Disc, Trail, Monitor, Dump, Idle}
use Rattle.node_machine.specs.Same.{Among}
use Rattle.node_machine.specs.SameLaws.{among_left, among_right, case_true, same_self}
use Rattle.node_machine.specs.Worker.{enlisted_discs}
use Rattle.node_machine.specs.declared.event.Cause.{Cause}
use Rattle.node_machine.specs.declared.event.DiscEvent.{DiscEvent}
use Rattle.node_machine.specs.declared.event.DiscEvent.TheVariants as did
use Rattle.node_machine.specs.declared.event.Event.{Event}
use Rattle.node_machine.specs.declared.event.Event.TheVariants.{OfDisc, OfWorker}
use Rattle.node_machine.specs.declared.event.WorkerEvent.TheVariants.{Begin, Enlist}
use Rattle.node_machine.proofs.Placed.{parts_placed}
use Rattle.run_outcomes.specs.Told.{MayTurnLast}
use Rattle.run_outcomes.specs.Within.{IsNewAt, WasOpen}
use Rattle.run_worker.specs.Going.{AreActs}
use Rattle.run_worker.specs.Steps.{IsOneAct, MayHaveEnlisted}
use Rattle.run_worker.proofs.Begins.{enlists_once}
use Rattle.run_worker.proofs.Entries.{entries_append, last_stands, prefix_same, prefix_then, seen_on}
use Rattle.run_worker.proofs.Splits.{front_in_first, front_within, place_behind, two_places}

-- LISTS

among_kept : {A : Type 0} (f : A → Bool) (xs : List A) (x : A) → Among (filter f xs) x → Among xs x
among_kept f [] x h = absurd h
among_kept {A} f (y ∷ xs) x h = of (f y) (λ later. among_kept f xs x later) h where
  of : (b : Bool) → (Among (filter f xs) x → Among xs x) → Among (cond b (y ∷ filter f xs) (filter f xs)) x → (y ≡ x) ⊎ Among xs x
  of true rest h = ⊎_elim (λ (is : y ≡ x). inl is) (λ (later : Among (filter f xs) x). inr (rest later)) h
  of false rest later = inr (rest later)

among_passed : {A : Type 0} (f : A → Bool) (xs : List A) (x : A) → Among xs x → f x ≡ true → Among (filter f xs) x
among_passed f [] x h is = absurd h
among_passed {A} f (y ∷ xs) x h is = ⊎_elim
    (λ (same : y ≡ x). subst (λ (b : Bool). Among (cond b (y ∷ filter f xs) (filter f xs)) x) (sym (ap f same ∙ is)) (inl same))
    (λ (later : Among xs x). of (f y) (among_passed f xs x later is))
    h
  where
    of : (b : Bool) → Among (filter f xs) x → Among (cond b (y ∷ filter f xs) (filter f xs)) x
    of true has = inr has
    of false has = has

some_length : {A : Type 0} (xs : List A) (x : A) → Among xs x → 1 ≤ length xs
some_length [] x h = absurd h
some_length (y ∷ xs) x h = omega arith

no_length : {A : Type 0} (xs : List A) → length xs ≡ 0 → xs ≡ []
no_length [] is = refl
no_length (x ∷ xs) is = absurd (omega (arith, is))

at_most_one : {A : Type 0} (xs ys : List A) (z : A) → xs ++ ys ≡ z ∷ [] → (xs ≡ []) ⊎ (xs ≡ z ∷ [])
at_most_one [] ys z is = inl refl
at_most_one (x ∷ []) ys z is = (let same : x ≡ z = cc (is) in inr (ap (λ w. w ∷ []) same))
at_most_one (x ∷ y ∷ xs) ys z is = absurd (cc (is))

no_first : {A : Type 0} (xs ys : List A) → xs ++ ys ≡ [] → xs ≡ []
no_first [] ys is = refl
no_first (x ∷ xs) ys is = absurd (cc (is))

-- ACTS

module _ (t : Transid) where
  abbrev is_its : ℕ × Event → Bool
  is_its entry = option_map_or (is_same_transid t) (actor entry.1) false

  pub its_true : (entry : ℕ × Event) → actor entry.1 ≡ Some t → is_its entry ≡ true
  its_true entry is = ap (λ (o : Option Transid). option_map_or (is_same_transid t) o false) is ∙ same_self t

  many_of : (a b : Log) → length (acts_by t (a ++ b)) ≡ length (acts_by t a) + length (acts_by t b)
  many_of a b = ap (λ (l : Log). length l) (filter-append is_its a b) ∙ length-append (acts_by t a) (acts_by t b)

  many_one : (x : ℕ × Event) (log : Log) → actor x.1 ≡ Some t → length (acts_by t (x ∷ log)) ≡ 1 + length (acts_by t log)
  many_one x log is =
      let one : length (x ∷ acts_by t log) ≡ 1 + length (acts_by t log) = omega arith in
      ap (λ (b : Bool). length (cond b (x ∷ acts_by t log) (acts_by t log))) (its_true x is) ∙ one

  pub its_among : (log : Log) (x : ℕ × Event) → actor x.1 ≡ Some t → Among log x → Among (acts_by t log) x
  its_among log x is h = among_passed is_its log x h (its_true x is)

  some_of : (log : Log) (x : ℕ × Event) → actor x.1 ≡ Some t → Among log x → 1 ≤ length (acts_by t log)
  some_of log x is h = some_length (acts_by t log) x (its_among log x is h)

  -- where nothing of it stands between two moments, its acts are the same at each moment in between
  same_acts : (a b c m : Log) → IsPrefix a b → IsPrefix b c → a ++ m ≡ c → length (acts_by t m) ≡ 0 → acts_by t b ≡ acts_by t c
  same_acts a b c m one two whole none =
      let parts : a ++ m ≡ a ++ (one.0 ++ two.0) = whole ∙ sym two.1 ∙ ap (λ (l : Log). l ++ two.0) (sym one.1) ∙ append_assoc a one.0 two.0 in
      let split : m ≡ one.0 ++ two.0 = append_cancel_left a m (one.0 ++ two.0) parts in
      let count : length (acts_by t m) ≡ length (acts_by t one.0) + length (acts_by t two.0) = ap (λ (l : Log). length (acts_by t l)) split ∙ many_of one.0 two.0 in
      let empty : acts_by t two.0 ≡ [] = no_length (acts_by t two.0) (omega (arith, none, count)) in
      sym (append-nil (acts_by t b)) ∙ ap (λ (l : Log). acts_by t b ++ l) (sym empty) ∙ sym (filter-append is_its b two.0) ∙ ap (λ (l : Log). acts_by t l) two.1

module _ (found : Found) (t : Transid) where
  abbrev opening : List PartState
  opening = opening_parts found

  one_prefix : (volume : ℕ) (before after : Sight Event) (acts : Log) → IsOneAct opening found.config volume t before after acts → IsPrefix before.seen after.seen
  one_prefix volume before after acts one =
      let w = one.within in
      prefix_then before.seen w.moment after.seen w.met (prefix_then w.moment w.front after.seen w.before ((disc_part volume, OfDisc one.act) ∷ w.rest, sym w.stands))

  pub acts_prefix : (old new : Sight Event) (acts : Log) → AreActs opening found.config t old acts new → IsPrefix old.seen new.seen
  acts_prefix old new [] are = are
  acts_prefix old new (entry ∷ acts) are =
      prefix_then old.seen are.0.seen new.seen are.2
      (prefix_then are.0.seen are.1.seen new.seen (one_prefix are.3.0 are.0 are.1 (entry ∷ []) are.3.1) (acts_prefix are.1 new acts are.4))

  -- the first of these acts, in what stands behind a moment
  record Head (old after : Sight Event) (act : ℕ × Event) (front tail : Log) : Type 0 where
    between : Log
    rest : Log
    further : Log
    front_is : old.seen ++ between ≡ front
    after_is : after.seen ≡ (old.seen ++ between) ++ act ∷ rest
    on : after.seen ++ further ≡ old.seen ++ tail
    tail_is : tail ≡ between ++ act ∷ (rest ++ further)

  head : (volume : ℕ) (old before after : Sight Event) (entry : ℕ × Event) (log tail : Log) → IsPrefix old.seen before.seen → (one : IsOneAct opening found.config volume t before after (entry ∷ [])) → IsPrefix after.seen log → old.seen ++ tail ≡ log
      → Head old after (disc_part volume, OfDisc one.act) one.within.front tail
  head volume old before after entry log tail pre one more whole =
      let w = one.within in
      let act : ℕ × Event = (disc_part volume, OfDisc one.act) in
      let begins = prefix_then old.seen before.seen w.front pre (prefix_then before.seen w.moment w.front w.met w.before) in
      let stands : after.seen ≡ (old.seen ++ begins.0) ++ act ∷ w.rest = w.stands ∙ ap (λ (l : Log). l ++ act ∷ w.rest) (sym begins.1) in
      let both : old.seen ++ tail ≡ old.seen ++ (begins.0 ++ act ∷ (w.rest ++ more.0)) =
      whole
      ∙ sym more.1
      ∙ ap (λ (l : Log). l ++ more.0) stands
      ∙ append_assoc (old.seen ++ begins.0) (act ∷ w.rest) more.0
      ∙ append_assoc old.seen begins.0 (act ∷ (w.rest ++ more.0)) in
      record {
        between = begins.0;
        rest = w.rest;
        further = more.0;
        front_is = begins.1;
        after_is = stands;
        on = more.1 ∙ sym whole;
        tail_is = append_cancel_left old.seen tail (begins.0 ++ act ∷ (w.rest ++ more.0)) both;
      }

  count_head : (old after : Sight Event) (act : ℕ × Event) (front tail : Log) → (h : Head old after act front tail) → actor act.1 ≡ Some t
      → length (acts_by t tail) ≡ length (acts_by t h.between) + (1 + (length (acts_by t h.rest) + length (acts_by t h.further)))
  count_head old after act front tail h is =
      ap (λ (l : Log). length (acts_by t l)) h.tail_is
      ∙ many_of t h.between (act ∷ (h.rest ++ h.further))
      ∙ ap (λ (n : ℕ). length (acts_by t h.between) + n) (many_one t act (h.rest ++ h.further) is ∙ ap (λ (n : ℕ). 1 + n) (many_of t h.rest h.further))

  -- what stands behind a moment has these acts at least
  fewest : (old new : Sight Event) (acts log tail : Log) → AreActs opening found.config t old acts new → IsPrefix new.seen log → old.seen ++ tail ≡ log → length acts ≤ length (acts_by t tail)
  fewest old new [] log tail are more whole = omega arith
  fewest old new (entry ∷ acts) log tail are more whole =
      let later = acts_prefix are.1 new acts are.4 in
      let h = head are.3.0 old are.0 are.1 entry log tail are.2 are.3.1 (prefix_then are.1.seen new.seen log later more) whole in
      let rest = fewest are.1 new acts log h.further are.4 more (h.on ∙ whole) in
      let count = count_head old are.1 (disc_part are.3.0, OfDisc are.3.1.act) are.3.1.within.front tail h are.3.1.its in
      omega (arith, rest, count)

  -- the act with this event in front of which this stands
  pub record ActOf (old : Sight Event) (volume : ℕ) (e : DiscEvent) (front : Log) : Type 0 where
    pub place : ℕ
    pub place_is : place ≡ volume
    pub before : Sight Event
    pub after : Sight Event
    pub begins : IsPrefix old.seen before.seen
    pub one : IsOneAct opening found.config place t before after ((disc_part place, OfDisc e) ∷ [])
    pub front_is : one.within.front ≡ front
    pub between : Log
    pub between_is : old.seen ++ between ≡ before.seen
    pub since : acts_by t before.seen ≡ acts_by t front
    pub moment_since : acts_by t one.within.moment ≡ acts_by t front

  act_here : (volume : ℕ) (old before after : Sight Event) (entry : ℕ × Event) (tail : Log) → IsPrefix old.seen before.seen → (one : IsOneAct opening found.config volume t before after (entry ∷ []))
      → (h : Head old after (disc_part volume, OfDisc one.act) one.within.front tail) → length (acts_by t h.between) ≡ 0
      → (place : ℕ) (e : DiscEvent) → disc_part volume ≡ disc_part place → one.act ≡ e → ActOf old place e (old.seen ++ h.between)
  act_here volume old before after entry tail pre one h none place e there is =
      let w = one.within in
      let to_front : IsPrefix before.seen w.front = prefix_then before.seen w.moment w.front w.met w.before in
      let entry_is : entry ≡ (disc_part volume, OfDisc one.act) = cc (one.acts_are) in
      let named : entry ∷ [] ≡ (disc_part volume, OfDisc e) ∷ [] = one.acts_are ∙ ap (λ (d : DiscEvent). (disc_part volume, OfDisc d) ∷ []) is in
      let its : IsOneAct opening found.config volume t before after ((disc_part volume, OfDisc e) ∷ []) = subst (λ (l : Log). IsOneAct opening found.config volume t before after l) named one in
      record {
        place = volume;
        place_is = omega (arith, there);
        before = before;
        after = after;
        begins = pre;
        one = record { act = one.act; acts_are = ap (λ (d : DiscEvent). (disc_part volume, OfDisc d) ∷ []) (sym is); its = one.its; within = w; worker = one.worker };
        front_is = sym h.front_is;
        between = pre.0;
        between_is = pre.1;
        since = same_acts t old.seen before.seen (old.seen ++ h.between) h.between pre (subst (λ (l : Log). IsPrefix before.seen l) (sym h.front_is) to_front) refl none;
        moment_since = same_acts t old.seen w.moment (old.seen ++ h.between) h.between (prefix_then old.seen before.seen w.moment pre w.met) (subst (λ (l : Log). IsPrefix w.moment l) (sym h.front_is) w.before) refl none;
      }

  later_act : (old mid : Sight Event) (volume : ℕ) (e : DiscEvent) (front : Log) → IsPrefix old.seen mid.seen → ActOf mid volume e front → ActOf old volume e front
  later_act old mid volume e front pre a =
      let begins = prefix_then old.seen mid.seen a.before.seen pre a.begins in
      record {
        place = a.place;
        place_is = a.place_is;
        before = a.before;
        after = a.after;
        begins = begins;
        one = a.one;
        front_is = a.front_is;
        between = begins.0;
        between_is = begins.1;
        since = a.since;
        moment_since = a.moment_since;
      }

  -- each act that stands behind a moment, where the history has so many there, is one of these
  pub find_act : (old new : Sight Event) (acts log tail : Log) → AreActs opening found.config t old acts new → IsPrefix new.seen log → old.seen ++ tail ≡ log → length (acts_by t tail) ≡ length acts
      → (front rest : Log) (volume : ℕ) (e : DiscEvent) → actor (OfDisc e) ≡ Some t → tail ≡ front ++ (disc_part volume, OfDisc e) ∷ rest → ActOf old volume e (old.seen ++ front)
  find_act old new [] log tail are more whole count front rest volume e is at =
      let x : ℕ × Event = (disc_part volume, OfDisc e) in
      let some = some_of t tail x is (subst (λ (l : Log). Among l x) (sym at) (among_right front (x ∷ rest) x (inl refl))) in
      absurd (omega (arith, some, count))
  find_act old new (entry ∷ acts) log tail are more whole count front rest volume e is at =
      let x : ℕ × Event = (disc_part volume, OfDisc e) in
      let place = are.3.0 in
      let one = are.3.1 in
      let act : ℕ × Event = (disc_part place, OfDisc one.act) in
      let later = acts_prefix are.1 new acts are.4 in
      let h = head place old are.0 are.1 entry log tail are.2 one (prefix_then are.1.seen new.seen log later more) whole in
      let fewer = fewest are.1 new acts log h.further are.4 more (h.on ∙ whole) in
      let total = count_head old are.1 act one.within.front tail h one.its in
      let none : length (acts_by t h.between) ≡ 0 = omega (arith, fewer, total, count) in
      let nor : length (acts_by t h.rest) ≡ 0 = omega (arith, fewer, total, count) in
      let left : length (acts_by t h.further) ≡ length acts = omega (arith, fewer, total, count) in
      ⊎_elim
      (λ (s : (front ≡ h.between) × (act ≡ x) × (h.rest ++ h.further ≡ rest)).
      let there : disc_part place ≡ disc_part volume = ap (λ (y : ℕ × Event). y.0) s.1 in
      let same : OfDisc one.act ≡ OfDisc e = ap (λ (y : ℕ × Event). y.1) s.1 in
      subst (λ (l : Log). ActOf old volume e (old.seen ++ l)) (sym s.0) (act_here place old are.0 are.1 entry tail are.2 one h none volume e there (cc (same))))
      (λ (o : Among h.between x ⊎ ((d : Log) × (front ≡ h.between ++ act ∷ d) × (h.rest ++ h.further ≡ d ++ x ∷ rest))).
      ⊎_elim
      (λ (in_front : Among h.between x). absurd (let some = some_of t h.between x is in_front in omega (arith, some, none)))
      (λ (b : (d : Log) × (front ≡ h.between ++ act ∷ d) × (h.rest ++ h.further ≡ d ++ x ∷ rest)).
      ⊎_elim
      (λ (in_rest : Among h.rest x). absurd (let some = some_of t h.rest x is in_rest in omega (arith, some, nor)))
      (λ (f : (d : Log) × (b.0 ≡ h.rest ++ d) × (h.further ≡ d ++ x ∷ rest)).
      let found_it = find_act are.1 new acts log h.further are.4 more (h.on ∙ whole) left f.0 rest volume e is f.2 in
      let same : are.1.seen ++ f.0 ≡ old.seen ++ front =
      ap (λ (l : Log). l ++ f.0) h.after_is
      ∙ append_assoc (old.seen ++ h.between) (act ∷ h.rest) f.0
      ∙ append_assoc old.seen h.between (act ∷ (h.rest ++ f.0))
      ∙ ap (λ (l : Log). old.seen ++ (h.between ++ act ∷ l)) (sym f.1)
      ∙ ap (λ (l : Log). old.seen ++ l) (sym b.1) in
      later_act old are.1 volume e (old.seen ++ front) (prefix_then old.seen are.0.seen are.1.seen are.2 (one_prefix place are.0 are.1 (entry ∷ []) one)) (subst (λ (l : Log). ActOf are.1 volume e l) same found_it))
      (place_behind h.rest h.further b.0 rest x b.2))
      o)
      (two_places h.between front (h.rest ++ h.further) rest act x (sym h.tail_is ∙ at))

  -- DISCS THAT ARE ENLISTED

  pub disc_may : (s : PartState) (e : DiscEvent) → IsAllowed s (OfDisc e) → (d : DiscPart) × (s ≡ Disc d)
  disc_may (Disc d) e may = (d, refl)
  disc_may (Worker s) e may = absurd may
  disc_may (Trail s) e may = absurd may
  disc_may (Monitor s) e may = absurd may
  disc_may (Dump s) e may = absurd may
  disc_may Idle e may = absurd may

  renamed : (true_ : Fact → Type 0) (u : Transid) (disc : ℕ) → Some u ≡ Some t → true_ (Enlisted u disc) → true_ (Enlisted t disc)
  renamed true_ u disc is h = (let same : u ≡ t = cc (is) in subst (λ (x : Transid). true_ (Enlisted x disc)) same h)

  -- an act that turns nobody away asks that the disc is enlisted
  asks_enlisted : (true_ : Fact → Type 0) (s : DiscPart) (e : DiscEvent) → actor (OfDisc e) ≡ Some t → turn_of t (OfDisc e) ≡ None → Asks true_ (Disc s) (OfDisc e) → true_ (Enlisted t s.number)
  asks_enlisted true_ s (did.Write r op) is unturned asks = renamed true_ r.tx s.number is asks
  asks_enlisted true_ s (did.Read u file key value) is unturned asks = renamed true_ u s.number is asks
  asks_enlisted true_ s (did.Lock u file) is unturned asks = renamed true_ u s.number is asks
  asks_enlisted true_ s (did.Turn u why) is unturned asks =
      let same : u ≡ t = cc (is) in
      let some : (if is_same_transid t u then Some why else None) ≡ Some why = case_true (is_same_transid t u) (Some why) None (ap (λ (x : Transid). is_same_transid t x) same ∙ same_self t) in
      absurd (cc (sym some ∙ unturned))
  asks_enlisted true_ s (did.Undo r) is unturned asks = absurd (cc (is))
  asks_enlisted true_ s (did.Close u) is unturned asks = absurd (cc (is))
  asks_enlisted true_ s (did.Release u) is unturned asks = absurd (cc (is))
  asks_enlisted true_ s (did.Draw file block position) is unturned asks = absurd (cc (is))
  asks_enlisted true_ s (did.Drawn file block) is unturned asks = absurd (cc (is))
  asks_enlisted true_ s (did.Low position by) is unturned asks = absurd (cc (is))
  asks_enlisted true_ s did.Lowered is unturned asks = absurd (cc (is))
  asks_enlisted true_ s (did.Start number start item) is unturned asks = absurd (cc (is))
  asks_enlisted true_ s (did.Raise number rest) is unturned asks = absurd (cc (is))
  asks_enlisted true_ s (did.Failed by) is unturned asks = absurd (cc (is))

  split_at : (xs : Log) (x : ℕ × Event) → Among xs x → (front : Log) × (rest : Log) × (xs ≡ front ++ x ∷ rest)
  split_at [] x h = absurd h
  split_at (y ∷ xs) x h = ⊎_elim (λ (e : y ≡ x). ([], xs, ap (λ (z : ℕ × Event). z ∷ xs) e)) (λ (later : Among xs x). let s = split_at xs x later in (y ∷ s.0, s.1, ap (λ (l : Log). y ∷ l) s.2)) h

  -- where such an act stands in a history, the disc is enlisted
  enlisted_so : (seen : Log) (volume : ℕ) (e : DiscEvent) → IsHistory node opening seen → actor (OfDisc e) ≡ Some t → turn_of t (OfDisc e) ≡ None → Among seen (disc_part volume, OfDisc e)
      → IsTrueIn node (states_after node opening seen) (Enlisted t volume)
  enlisted_so seen volume e history is unturned h =
      let x : ℕ × Event = (disc_part volume, OfDisc e) in
      let cut = split_at seen x h in
      let whole = subst (λ (l : Log). IsHistory node opening l) cut.2 history in
      let first : List PartState = states_after node opening cut.0 in
      let rest : IsHistory node first (x ∷ cut.1) = history_rest node opening cut.0 (x ∷ cut.1) whole in
      let enabled : IsEnabled node first x = rest.0 in
      let by = disc_may enabled.0 e enabled.2 in
      let at : slice_get first (disc_part volume) ≡ Some (Disc by.0) = enabled.1 ∙ ap (λ (s : PartState). Some s) by.1 in
      let placed : disc_part volume ≡ disc_part by.0.number = parts_placed found cut.0 (history_front node opening cut.0 (x ∷ cut.1) whole) (disc_part volume) (Disc by.0) at in
      let number : by.0.number ≡ volume = omega (arith, placed) in
      let asks : Asks (IsTrueIn node first) (Disc by.0) (OfDisc e) = subst (λ (s : PartState). Asks (IsTrueIn node first) s (OfDisc e)) by.1 enabled.3 in
      let fact : IsTrueIn node first (Enlisted t volume) = subst (λ (n : ℕ). IsTrueIn node first (Enlisted t n)) number (asks_enlisted (IsTrueIn node first) by.0 e is unturned asks) in
      let later : IsTrueIn node (states_after node first (x ∷ cut.1)) (Enlisted t volume) = stays_true node node_facts_stay first (x ∷ cut.1) (Enlisted t volume) rest fact in
      subst (λ (l : List PartState). IsTrueIn node l (Enlisted t volume)) (sym (states_after-append node opening cut.0 (x ∷ cut.1)) ∙ ap (λ (l : Log). states_after node opening l) (sym cut.2)) later

  -- and its worker's state has it among the discs of the attempt
  enlisted_known : (seen : Log) (volume : ℕ) → IsHistory node opening seen → IsTrueIn node (states_after node opening seen) (Enlisted t volume)
      → (w : WorkerPart) → slice_get (states_after node opening seen) (worker_part t.worker) ≡ Some (Worker w) → Among (enlisted_discs w.events t) volume
  enlisted_known seen volume history (q, Worker v, at, makes) w here =
      let placed : q ≡ worker_part v.number = parts_placed found seen history q (Worker v) at in
      let same : q ≡ worker_part t.worker = placed ∙ ap worker_part (sym makes.0.worker) in
      let one : Some (Worker v) ≡ Some (Worker w) = sym at ∙ ap (λ (p : ℕ). slice_get (states_after node opening seen) p) same ∙ here in
      let which : v ≡ w = cc (one) in
      subst (λ (x : WorkerPart). Among (enlisted_discs x.events t) volume) which makes.1
  enlisted_known seen volume history (q, Disc s, at, makes) w here = absurd makes
  enlisted_known seen volume history (q, Trail s, at, makes) w here = absurd makes
  enlisted_known seen volume history (q, Monitor s, at, makes) w here = absurd makes
  enlisted_known seen volume history (q, Dump s, at, makes) w here = absurd makes
  enlisted_known seen volume history (q, Idle, at, makes) w here = absurd makes

  -- THE LIMIT

  some_or_none : (o : Option Cause) → (o ≡ None) ⊎ ((why : Cause) × (o ≡ Some why))
  some_or_none None = inl refl
  some_or_none (Some why) = inr (why, refl)

  among_mapped : (f : ℕ × Event → Option Cause) (xs : Log) (x : ℕ × Event) (y : Cause) → Among xs x → f x ≡ Some y → Among (filter_map f xs) y
  among_mapped f [] x y h is = absurd h
  among_mapped f (z ∷ xs) x y h is = ⊎_elim
      (λ (same : z ≡ x). subst (λ (o : Option Cause). Among (cons_option o (filter_map f xs)) y) (sym (ap f same ∙ is)) (inl refl))
      (λ (later : Among xs x). of (f z) (among_mapped f xs x y later is))
      h
    where
      of : (o : Option Cause) → Among (filter_map f xs) y → Among (cons_option o (filter_map f xs)) y
      of None has = has
      of (Some c) has = inr has

  acts_at : (front rest : Log) (x : ℕ × Event) → actor x.1 ≡ Some t → acts_by t (front ++ x ∷ rest) ≡ acts_by t front ++ x ∷ acts_by t rest
  acts_at front rest x is = filter-append (is_its t) front (x ∷ rest) ∙ ap (λ (b : Bool). acts_by t front ++ cond b (x ∷ acts_by t rest) (acts_by t rest)) (its_true t x is)

  abbrev own : Log → List Event
  own log = events_of (worker_part t.worker) log

  module _ (law : EventsLaw) (log acts : Log) (history : IsHistory node opening log) (only : acts_by t log ≡ acts) (last : MayTurnLast t acts) (begun : Sight Event) (has : HasBegun begun.seen t) where
    module _ (rest : Log) (volume : ℕ) (e : DiscEvent) (is : actor (OfDisc e) ≡ Some t) (front : Log) (at : log ≡ front ++ (disc_part volume, OfDisc e) ∷ rest) (before : Sight Event) (pre : IsPrefix before.seen front)
        (since : acts_by t before.seen ≡ acts_by t front) where
      abbrev act : ℕ × Event
      act = (disc_part volume, OfDisc e)

      in_first : IsPrefix (acts_by t front) last.first
      in_first = front_in_first last.first (acts_by t front) (acts_by t rest) last.last act (sym (acts_at front rest act is) ∙ ap (λ (l : Log). acts_by t l) (sym at) ∙ only ∙ last.acts_are) last.few

      front_history : IsHistory node opening front
      front_history = history_front node opening front (act ∷ rest) (subst (λ (l : Log). IsHistory node opening l) at history)

      -- where it has enlisted the disc in between, it has had no act there before
      new_at : own pre.0 ≡ OfWorker (Enlist t volume) ∷ [] → IsNewAt front t volume
      new_at enlisted d its h =
          let x : ℕ × Event = (disc_part volume, OfDisc d) in
          let known : Among (acts_by t front) x = its_among t front x its h in
          let earlier : Among before.seen x = among_kept (is_its t) before.seen x (subst (λ (l : Log). Among l x) (sym since) known) in
          ⊎_elim
          (λ (unturned : turn_of t (OfDisc d) ≡ None).
          let stands = last_stands (worker_part t.worker) (OfWorker (Enlist t volume)) [] pre.0 enlisted in
          let entry : ℕ × Event = (worker_part t.worker, OfWorker (Enlist t volume)) in
          let to_it : Log = before.seen ++ stands.front in
          let whole : IsHistory node opening (to_it ++ entry ∷ stands.rest) =
          subst (λ (l : Log). IsHistory node opening l) (sym pre.1 ∙ ap (λ (l : Log). before.seen ++ l) stands.stands ∙ sym (append_assoc before.seen stands.front (entry ∷ stands.rest))) front_history in
          let first : IsHistory node opening to_it = history_front node opening to_it (entry ∷ stands.rest) whole in
          enlists_once law found to_it stands.rest (worker_part t.worker) t volume whole
          (enlisted_known to_it volume first (enlisted_so to_it volume d first its unturned (among_left before.seen stands.front x earlier))))
          (λ (turned : (why : Cause) × (turn_of t (OfDisc d) ≡ Some why)).
          let there : Among last.first x = seen_on (acts_by t front) last.first x in_first known in
          subst (λ (l : List Cause). Among l turned.0) last.unturned (among_mapped (λ entry. turn_of t entry.1) last.first x turned.0 there turned.1))
          (some_or_none (turn_of t (OfDisc d)))

    may_be : (volume : ℕ) (front before after between rest : Log) → (pre : IsPrefix before front) → after ≡ front ++ rest → MayHaveEnlisted t volume before after → (own pre.0 ≡ []) ⊎ (own pre.0 ≡ OfWorker (Enlist t volume) ∷ [])
    may_be volume front before after between rest pre stands worker =
        let whole : own after ≡ own before ++ (own pre.0 ++ own rest) =
        ap own stands
        ∙ entries_append (worker_part t.worker) front rest
        ∙ ap (λ (l : List Event). l ++ own rest) (ap own (sym pre.1) ∙ entries_append (worker_part t.worker) before pre.0)
        ∙ append_assoc (own before) (own pre.0) (own rest) in
        ⊎_elim
        (λ (none : own after ≡ own before).
        inl (no_first (own pre.0) (own rest) (append_cancel_left (own before) (own pre.0 ++ own rest) [] (sym whole ∙ none ∙ sym (append-nil (own before))))))
        (λ (one : own after ≡ own before ++ OfWorker (Enlist t volume) ∷ []).
        at_most_one (own pre.0) (own rest) (OfWorker (Enlist t volume)) (append_cancel_left (own before) (own pre.0 ++ own rest) (OfWorker (Enlist t volume) ∷ []) (sym whole ∙ one)))
        worker

    -- in front of each of its acts the limit was kept
    pub was_open : (front rest : Log) (volume : ℕ) (e : DiscEvent) → actor (OfDisc e) ≡ Some t → log ≡ front ++ (disc_part volume, OfDisc e) ∷ rest → ActOf begun volume e front → WasOpen found t volume front
    was_open front rest volume e is at a =
        let w = a.one.within in
        let place = a.place in
        let b = a.before in
        let here : log ≡ w.front ++ (disc_part place, OfDisc e) ∷ rest =
        at ∙ ap (λ (l : Log). l ++ (disc_part volume, OfDisc e) ∷ rest) (sym a.front_is) ∙ ap (λ (v : ℕ). w.front ++ (disc_part v, OfDisc e) ∷ rest) (sym a.place_is) in
        let pre : IsPrefix b.seen w.front = prefix_then b.seen w.moment w.front w.met w.before in
        let since : acts_by t b.seen ≡ acts_by t w.front = a.since ∙ ap (λ (l : Log). acts_by t l) (sym a.front_is) in
        let kinds = may_be place w.front b.seen a.after.seen [] ((disc_part place, OfDisc a.one.act) ∷ w.rest) pre w.stands a.one.worker in
        subst (λ (l : Log). WasOpen found t volume l) a.front_is
        (subst (λ (v : ℕ). WasOpen found t v w.front) a.place_is
        (record {
          own = own b.seen;
          enlisting = own pre.0;
          own_is = ap own (sym pre.1) ∙ entries_append (worker_part t.worker) b.seen pre.0;
          may_be = ⊎_elim
              (λ (none : own pre.0 ≡ []). inl none)
              (λ (one : own pre.0 ≡ OfWorker (Enlist t place) ∷ []). inr (one, new_at rest place e is w.front here b pre since one))
              kinds;
          worker = w.worker;
          moment = w.moment;
          before = w.before;
          begun = seen_on begun.seen w.moment (worker_part t.worker, OfWorker (Begin t)) (prefix_then begun.seen b.seen w.moment a.begins w.met) has;
          since = a.moment_since ∙ ap (λ (l : Log). acts_by t l) (sym a.front_is);
          drawn = w.drawn;
          drawn_is = w.drawn_is;
          draws = w.draws;
          disc = w.disc;
          trail = w.trail;
          position = w.position;
        }))

    -- the seat at their end has seen all its acts, and that at its begin none
    pub seen_all : (end : Sight Event) → AreActs opening found.config t begun acts end → IsPrefix end.seen log → (acts_by t end.seen ≡ acts) × (acts_by t begun.seen ≡ [])
    seen_all end are more =
        let pre = acts_prefix begun end acts are in
        let few = fewest begun end acts end.seen pre.0 are (prefix_same end.seen) pre.1 in
        let split : length (acts_by t (begun.seen ++ pre.0)) ≡ length (acts_by t begun.seen) + length (acts_by t pre.0) = many_of t begun.seen pre.0 in
        let same : length (acts_by t (begun.seen ++ pre.0)) ≡ length (acts_by t end.seen) = ap (λ (l : Log). length (acts_by t l)) pre.1 in
        let rest : length (acts_by t (end.seen ++ more.0)) ≡ length (acts_by t end.seen) + length (acts_by t more.0) = many_of t end.seen more.0 in
        let whole : length (acts_by t (end.seen ++ more.0)) ≡ length acts = ap (λ (l : Log). length (acts_by t l)) more.1 ∙ ap (λ (l : Log). length l) only in
        let none : length (acts_by t more.0) ≡ 0 = omega (arith, few, split, same, rest, whole) in
        let nor : length (acts_by t begun.seen) ≡ 0 = omega (arith, few, split, same, rest, whole) in
        (same_acts t end.seen end.seen log more.0 (prefix_same end.seen) more more.1 none ∙ only, no_length (acts_by t begun.seen) nor)

    -- whatever stands in front of one of its acts
    pub stepped_open : (end : Sight Event) → AreActs opening found.config t begun acts end → IsPrefix end.seen log → (front rest : Log) (volume : ℕ) (e : DiscEvent) → actor (OfDisc e) ≡ Some t
        → log ≡ front ++ (disc_part volume, OfDisc e) ∷ rest → WasOpen found t volume front
    stepped_open end are more front rest volume e is at =
        let x : ℕ × Event = (disc_part volume, OfDisc e) in
        let pre = prefix_then begun.seen end.seen log (acts_prefix begun end acts are) more in
        let few = fewest begun end acts log pre.0 are more pre.1 in
        let split : length (acts_by t (begun.seen ++ pre.0)) ≡ length (acts_by t begun.seen) + length (acts_by t pre.0) = many_of t begun.seen pre.0 in
        let whole : length (acts_by t (begun.seen ++ pre.0)) ≡ length acts = ap (λ (l : Log). length (acts_by t l)) pre.1 ∙ ap (λ (l : Log). length l) only in
        let none : length (acts_by t begun.seen) ≡ 0 = omega (arith, few, split, whole) in
        let count : length (acts_by t pre.0) ≡ length acts = omega (arith, few, split, whole) in
        let within = front_within begun.seen front pre.0 rest x (pre.1 ∙ at) (λ h. (let some = some_of t begun.seen x is h in omega (arith, some, none))) in
        let tail : pre.0 ≡ within.0 ++ x ∷ rest =
        append_cancel_left begun.seen pre.0 (within.0 ++ x ∷ rest) (pre.1 ∙ at ∙ ap (λ (l : Log). l ++ x ∷ rest) (sym within.1) ∙ append_assoc begun.seen within.0 (x ∷ rest)) in
        was_open front rest volume e is at (subst (λ (l : Log). ActOf begun volume e l) within.1 (find_act begun end acts log pre.0 are more pre.1 count within.0 rest volume e is tail))
