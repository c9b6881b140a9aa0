-- What follows from two moments of a disc.
use Rattle.std.proofs.Common.{◌≡◌, ◌≢◌, ℕ, ◌==◌, ◌||◌, ⊎_elim, Bool, true, false, cond, eq-eqb, ne_eqb, List, [], ◌∷◌, ◌++◌, map, reverse, append_assoc, Option, Some, slice_get, refl, ap, sym, ◌∙◌, subst}
use Rattle.std.specs.Option.{option_map}
use Rattle.std.specs.List.{list_any}
use Rattle.std.proofs.lemmas.Bool.{cases_eq}
use Rattle.std.proofs.lemmas.Cmp.{nat_eq_equiv}
use Rattle.std.proofs.lemmas.List.Folds.{list_any-append}
use mathlib.Core.List.{IsPrefix, reverse-cons}
use Rattle.chronicle.specs.Histories.{IsHistory, IsTrueIn, events_of, next_states, states_after, changed_at}
use Rattle.chronicle.specs.Seats.{Sight, HasGrown, events_of_part, part_state, state_of}
use Rattle.chronicle.proofs.Facts.{learned}
use Rattle.chronicle.proofs.States.{changed_at_here, changed_at_else, history_rest, states_after-append, stays_true}
use Rattle.disk_model.specs.declared.disk.Disk as disk
use Rattle.node_machine.specs.declared.event.DiscEvent.{DiscEvent}
use Rattle.node_machine.specs.declared.event.Event.{Event}
use Rattle.node_machine.specs.declared.event.Event.TheVariants.{OfWorker, OfDisc, OfTrail, OfMonitor, OfDump}
use Rattle.node_machine.specs.Laws.{node_facts_stay}
use Rattle.node_machine.specs.Node.{node, IsAllowed, state_with}
use Rattle.node_machine.specs.Opening.{disc_part}
use Rattle.node_machine.specs.Parts.{DiscPart, PartState}
use Rattle.node_machine.specs.Parts.PartState.{Disc}
use Rattle.disc_process.specs.Disc.{DiscView}
use Rattle.disc_process.proofs.Drawn.{prefix_same, prefix_then}
use Rattle.disc_process.proofs.Telling.{or_true, true_or}
use Rattle.txn_states.specs.Txn.{HasEnlisted, HasMet, Txn, with_disc}
use Rattle.disc_process.specs.Later.{HaveGrown, IsLaterDisc, IsLaterTxn, IsLawful}
use Rattle.disc_process.specs.Write.{IsEnlisted, IsIdle}

pub events_of_here : {E : Type 0} (p : ℕ) (x : ℕ × E) (xs : List (ℕ × E)) → x.0 ≡ p → events_of p (x ∷ xs) ≡ x.1 ∷ events_of p xs
events_of_here p x xs e = ap (λ b. cond b (x.1 ∷ events_of p xs) (events_of p xs)) (eq-eqb x.0 p e)

pub events_of_else : {E : Type 0} (p : ℕ) (x : ℕ × E) (xs : List (ℕ × E)) → x.0 ≢ p → events_of p (x ∷ xs) ≡ events_of p xs
events_of_else p x xs n = ap (λ b. cond b (x.1 ∷ events_of p xs) (events_of p xs)) (ne_eqb x.0 p n)

events_of-append : {E : Type 0} (p : ℕ) (xs ys : List (ℕ × E)) → events_of p (xs ++ ys) ≡ events_of p xs ++ events_of p ys
events_of-append p [] ys = refl
events_of-append p (x ∷ xs) ys =
    ⊎_elim
    (λ (e : x.0 ≡ p). events_of_here p x (xs ++ ys) e ∙ ap (λ zs. x.1 ∷ zs) (events_of-append p xs ys) ∙ ap (λ zs. zs ++ events_of p ys) (sym (events_of_here p x xs e)))
    (λ (n : x.0 ≢ p). events_of_else p x (xs ++ ys) n ∙ events_of-append p xs ys ∙ ap (λ zs. zs ++ events_of p ys) (sym (events_of_else p x xs n)))
    (cases_eq x.0 p)

-- a disc allows a disc's events alone
disc_event : (s : DiscPart) (e : Event) → IsAllowed (Disc s) e → (d : DiscEvent) × (e ≡ OfDisc d)
disc_event s (OfDisc d) may = (d, refl)
disc_event s (OfWorker d) may = absurd may
disc_event s (OfTrail d) may = absurd may
disc_event s (OfMonitor d) may = absurd may
disc_event s (OfDump d) may = absurd may

-- the disc at p has had these events in the entries, and no others
abbrev pub GoesOn : List PartState → List (ℕ × Event) → ℕ → DiscPart → Type 0
GoesOn ss log p s =
    (more : List DiscEvent) × (slice_get (states_after node ss log) p ≡ Some (Disc (record s { events = reverse more ++ s.events }))) × (events_of p log ≡ map OfDisc more)

pub goes_on : (ss : List PartState) (log : List (ℕ × Event)) (p : ℕ) (s : DiscPart) → slice_get ss p ≡ Some (Disc s) → IsHistory node ss log → GoesOn ss log p s
goes_on ss [] p s at h = ([], at, refl)
goes_on ss (x ∷ xs) p s at h =
    ⊎_elim
    (λ (e : x.0 ≡ p).
    let en = h.0 in
    let here : slice_get ss x.0 ≡ Some (Disc s) = ap (slice_get ss) e ∙ at in
    let both : Some en.0 ≡ Some (Disc s) = sym en.1 ∙ here in
    let is : en.0 ≡ Disc s = cc (both) in
    let d = disc_event s x.1 (subst (λ (y : PartState). IsAllowed y x.1) is en.2) in
    let t : DiscPart = record s { events = d.0 ∷ s.events } in
    let next : slice_get (next_states node ss x) p ≡ Some (Disc t) =
    subst (λ (q : ℕ). slice_get (changed_at (λ y. node.step y x.1) x.0 ss) q ≡ Some (Disc t)) e
    (changed_at_here (λ y. node.step y x.1) x.0 ss ∙ ap (option_map (λ y. node.step y x.1)) here ∙ ap (λ (ev : Event). Some (state_with (Disc s) ev)) d.1) in
    let rest = goes_on (next_states node ss x) xs p t next h.1 in
    let events : reverse (d.0 ∷ rest.0) ++ s.events ≡ reverse rest.0 ++ (d.0 ∷ s.events) =
    ap (λ (l : List DiscEvent). l ++ s.events) (reverse-cons d.0 rest.0) ∙ append_assoc (reverse rest.0) (d.0 ∷ []) s.events in (
      d.0 ∷ rest.0,
      rest.1 ∙ ap (λ (l : List DiscEvent). Some (Disc (record s { events = l }))) (sym events),
      events_of_here p x xs e ∙ ap (λ (l : List Event). x.1 ∷ l) rest.2 ∙ ap (λ (ev : Event). ev ∷ map OfDisc rest.0) d.1,
    ))
    (λ (n : x.0 ≢ p).
    let rest = goes_on (next_states node ss x) xs p s (changed_at_else (λ y. node.step y x.1) x.0 p ss n ∙ at) h.1 in
    (rest.0, rest.1, events_of_else p x xs n ∙ rest.2))
    (cases_eq x.0 p)

-- a disc whose seat has seen more is the same at a later moment
pub later_disc : {D : Type 0} (kind : disk.Ghosts D) (opening : List PartState) (old new : DiscView D) → IsLawful kind opening old → IsLawful kind opening new → new.seat.part ≡ old.seat.part → IsPrefix old.seat.seen new.seat.seen → IsLaterDisc opening old new
later_disc kind opening old new was now place begins =
    let p : ℕ = disc_part old.part.number in
    let ss : List PartState = states_after node opening old.seat.seen in
    let rest : List (ℕ × Event) = begins.0 in
    let history : IsHistory node ss rest = history_rest node opening old.seat.seen rest (subst (IsHistory node opening) (sym begins.1) now.history) in
    let at : slice_get ss p ≡ Some (Disc old.part) = ap (state_of ss) (sym was.place) ∙ was.at in
    let on = goes_on ss rest p old.part at history in
    let states : states_after node opening new.seat.seen ≡ states_after node ss rest = ap (states_after node opening) (sym begins.1) ∙ states_after-append node opening old.seat.seen rest in
    let later_ : part_state node opening new.seat ≡ Some (Disc (record old.part { events = reverse on.0 ++ old.part.events })) =
    ap (state_of (states_after node opening new.seat.seen)) (place ∙ was.place) ∙ ap (λ (l : List PartState). slice_get l p) states ∙ on.1 in
    let same : Some (Disc new.part) ≡ Some (Disc (record old.part { events = reverse on.0 ++ old.part.events })) = sym now.at ∙ later_ in
    record {
      more = on.0;
      part = cc (same);
      events = ap (λ (q : Option ℕ). events_of_part q new.seat.seen) (place ∙ was.place)
          ∙ ap (events_of p) (sym begins.1)
          ∙ events_of-append p old.seat.seen rest
          ∙ ap (λ (l : List Event). events_of p old.seat.seen ++ l) on.2
          ∙ ap (λ (q : Option ℕ). events_of_part q old.seat.seen ++ map OfDisc on.0) (sym was.place);
      place = place;
      begins = begins;
      knows = λ f k. subst (λ (l : List PartState). IsTrueIn node l f) (sym states) (stays_true node node_facts_stay ss rest f history k);
    }

pub grown_then : (u v w : Sight Event) → HasGrown u v → HasGrown v w → HasGrown u w
grown_then u v w a b = record { part = b.part ∙ a.part; begins = prefix_then u.seen v.seen w.seen a.begins b.begins; mine = b.mine ∙ a.mine }

-- a disc's seat that has met a caller's, has grown, and has then met it again
pub met_twice : (opening : List PartState) (u v w x a b c : Sight Event) → HaveGrown opening u v a b → HasGrown v w → HaveGrown opening w x b c → HaveGrown opening u x a c
met_twice opening u v w x a b c first between second =
    let grown = grown_then u w x (grown_then u v w first.disc_grown between) second.disc_grown in
    let caller = grown_then a b c first.caller_grown second.caller_grown in
    record {
      disc_grown = grown;
      disc_learned = learned node opening node_facts_stay u x grown second.disc_learned.history;
      caller_grown = caller;
      caller_learned = learned node opening node_facts_stay a c caller second.caller_learned.history;
    }

-- TRANSACTIONS

any_append : (d : ℕ) (xs ys : List ℕ) → list_any (λ other. other == d) xs ≡ true → list_any (λ other. other == d) (xs ++ ys) ≡ true
any_append d xs ys h = list_any-append (λ other. other == d) xs ys ∙ true_or (list_any (λ other. other == d) xs) (list_any (λ other. other == d) ys) h

any_last : (d : ℕ) (xs : List ℕ) → list_any (λ other. other == d) (xs ++ d ∷ []) ≡ true
any_last d xs = list_any-append (λ other. other == d) xs (d ∷ []) ∙ or_true (list_any (λ other. other == d) xs) (list_any (λ other. other == d) (d ∷ [])) (ap (λ b. b || false) (nat_eq_equiv.refl d))

-- the disc is among the discs with it
with_has : (d : ℕ) (discs : List ℕ) → list_any (λ other. other == d) (with_disc d discs) ≡ true
with_has d discs = of (list_any (λ other. other == d) discs) refl
  where
    of : (b : Bool) → list_any (λ other. other == d) discs ≡ b → list_any (λ other. other == d) (cond b discs (discs ++ d ∷ [])) ≡ true
    of true e = e
    of false e = any_last d discs

with_keeps : (d e : ℕ) (discs : List ℕ) → list_any (λ other. other == d) discs ≡ true → list_any (λ other. other == d) (with_disc e discs) ≡ true
with_keeps d e discs h = of (list_any (λ other. other == e) discs)
  where
    of : (b : Bool) → list_any (λ other. other == d) (cond b discs (discs ++ e ∷ [])) ≡ true
    of true = h
    of false = any_append d discs (e ∷ []) h

pub same_txn : (opening : List PartState) (t u : Txn) → u ≡ t → IsLaterTxn opening t u
same_txn opening t u e = subst (IsLaterTxn opening t) (sym e) (record { tx = refl; steps = refl; discs = λ d h. h; place = refl; begins = prefix_same t.seat.seen t.seat.seen refl; knows = λ f k. k })

pub later_then : (opening : List PartState) (t u v : Txn) → IsLaterTxn opening t u → IsLaterTxn opening u v → IsLaterTxn opening t v
later_then opening t u v a b = record {
  tx = b.tx ∙ a.tx;
  steps = b.steps ∙ a.steps;
  discs = λ d h. b.discs d (a.discs d h);
  place = b.place ∙ a.place;
  begins = prefix_then t.seat.seen u.seat.seen v.seat.seen a.begins b.begins;
  knows = λ f k. b.knows f (a.knows f k);
}

pub met_txn : (opening : List PartState) (t u : Txn) (a b : Sight Event) → HasMet opening t u a b → IsLaterTxn opening t u
met_txn opening t u a b m = record {
  tx = m.tx;
  steps = m.steps;
  discs = λ d h. subst (λ (l : List ℕ). list_any (λ other. other == d) l ≡ true) (sym m.discs) h;
  place = m.first.part;
  begins = m.first.begins;
  knows = m.first_learned.knows;
}

pub met_idle : (opening : List PartState) (t u : Txn) (a b : Sight Event) → HasMet opening t u a b → IsIdle t u
met_idle opening t u a b m = record { events = m.first.mine; discs = m.discs }

pub enlisted_txn : (opening : List PartState) (t u : Txn) (disc : ℕ) → HasEnlisted opening t disc u → IsLaterTxn opening t u
enlisted_txn opening t u disc e = record {
  tx = e.tx;
  steps = e.steps;
  discs = λ d h. subst (λ (l : List ℕ). list_any (λ other. other == d) l ≡ true) (sym e.discs) (with_keeps d disc t.discs h);
  place = e.seat.part;
  begins = e.seat.begins;
  knows = e.seat.kept;
}

-- a disc was enlisted, and then the worker's seat met the disc's
pub enlisted_met : (opening : List PartState) (t u v : Txn) (disc number : ℕ) (a b : Sight Event) → number ≡ disc → HasEnlisted opening t number u → HasMet opening u v a b → IsEnlisted disc t v
enlisted_met opening t u v disc number a b is e m =
    subst (λ (n : ℕ). IsEnlisted n t v) is (record {
      events = m.first.mine ∙ e.seat.events;
      discs = m.discs ∙ e.discs;
      has = ap (list_any (λ other. other == number)) (m.discs ∙ e.discs) ∙ with_has number t.discs;
    })
