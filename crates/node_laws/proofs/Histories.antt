-- A part's state has the events that the history has of it.
use Rattle.std.specs.Prelude.{◌≡◌, ◌≢◌, ◌⊎◌, ℕ, ◌==◌, Bool, true, false, cond, List, [], ◌∷◌, ◌++◌, map, reverse, Some, slice_get}
use Rattle.std.specs.Option.{option_map}
use Rattle.std.proofs.Common.{refl, ap, sym, ◌∙◌, subst, append_assoc, append-nil, eq-eqb, ⊎_elim, inl, inr}
use Rattle.std.proofs.lemmas.Bool.{cases_eq, false_from_ne_true}
use Rattle.std.proofs.lemmas.List.{reverse-append}
use Rattle.chronicle.specs.Histories.{IsHistory, events_of, next_states, states_after}
use Rattle.chronicle.proofs.States.{changed_at_else, changed_at_here}
use Rattle.std.proofs.Common.{eqb-true}
use Rattle.node_machine.specs.declared.event.Event.{Event}
use Rattle.node_machine.specs.declared.event.Event.TheVariants.{OfWorker, OfDisc, OfTrail, OfMonitor, OfDump}
use Rattle.node_machine.specs.Deeds.{EventsLaw, events_at}
use Rattle.node_machine.specs.Node.{node, IsAllowed, state_with}
use Rattle.node_machine.specs.Opening.{Found, opening_parts}
use Rattle.node_machine.specs.Parts.{PartState}
use Rattle.node_machine.specs.Parts.PartState.{Worker, Disc, Trail, Monitor, Dump, Idle}
use Rattle.node_machine.specs.Same.{Among}
use Rattle.node_machine.specs.SameLaws.{among_append, among_left, among_right}
use Rattle.node_machine.proofs.Opened.{IsFresh, fresh}

reverse_first : (x : Event) (es : List Event) → reverse (x ∷ es) ≡ reverse es ++ x ∷ []
reverse_first x es = reverse-append (x ∷ []) es

one_more : (s : PartState) (e : Event) → IsAllowed s e → events_at (state_with s e) ≡ e ∷ events_at s
one_more (Worker s) (OfWorker e) may = refl
one_more (Disc s) (OfDisc e) may = refl
one_more (Trail s) (OfTrail e) may = refl
one_more (Monitor s) (OfMonitor e) may = refl
one_more (Dump s) (OfDump e) may = refl
one_more _ _ may = absurd may

events_here : (x : ℕ × Event) (log : List (ℕ × Event)) (part : ℕ) → x.0 ≡ part → events_of part (x ∷ log) ≡ x.1 ∷ events_of part log
events_here x log part e = ap (λ (b : Bool). cond b (x.1 ∷ events_of part log) (events_of part log)) (eq-eqb x.0 part e)

events_else : (x : ℕ × Event) (log : List (ℕ × Event)) (part : ℕ) → x.0 ≢ part → events_of part (x ∷ log) ≡ events_of part log
events_else x log part n = ap (λ (b : Bool). cond b (x.1 ∷ events_of part log) (events_of part log)) (false_from_ne_true (x.0 == part) (λ e. n (eqb-true x.0 part e)))

-- a part has the events that it had, and those of the history since
since : (ss : List PartState) (log : List (ℕ × Event)) → IsHistory node ss log → (part : ℕ) (s : PartState) → slice_get (states_after node ss log) part ≡ Some s
    → (old : PartState) × (slice_get ss part ≡ Some old) × (events_at s ≡ reverse (events_of part log) ++ events_at old)
since ss [] h part s at = (s, at, refl)
since ss (x ∷ log) h part s at =
    let r = since (next_states node ss x) log h.1 part s at in
    let en = h.0 in
    ⊎_elim
    (λ (e : x.0 ≡ part).
    (let now : slice_get (next_states node ss x) x.0 ≡ Some (state_with en.0 x.1) = changed_at_here (λ u. state_with u x.1) x.0 ss ∙ ap (λ o. option_map (λ u. state_with u x.1) o) en.1 in
    let both : Some r.0 ≡ Some (state_with en.0 x.1) = sym r.1 ∙ (ap (λ (n : ℕ). slice_get (next_states node ss x) n) (sym e) ∙ now) in
    let one : r.0 ≡ state_with en.0 x.1 = cc (both) in (
      en.0,
      ap (λ (n : ℕ). slice_get ss n) (sym e) ∙ en.1,
      r.2 ∙ (ap (λ (es : List Event). reverse (events_of part log) ++ es) (ap events_at one ∙ one_more en.0 x.1 en.2)
          ∙ (sym (append_assoc (reverse (events_of part log)) (x.1 ∷ []) (events_at en.0)) ∙ ap (λ (es : List Event). es ++ events_at en.0) (sym (reverse_first x.1 (events_of part log)) ∙ ap (λ (es : List Event). reverse es) (sym (events_here x log part e))))),
    )))
    (λ (n : x.0 ≢ part). (
      r.0,
      sym (changed_at_else (λ u. state_with u x.1) x.0 part ss n) ∙ r.1,
      r.2 ∙ ap (λ (es : List Event). reverse es ++ events_at r.0) (sym (events_else x log part n)),
    ))
    (cases_eq x.0 part)

none_yet : (s : PartState) → IsFresh s → events_at s ≡ []
none_yet (Worker s) is = ap (λ es. map (λ e. OfWorker e) es) is
none_yet (Disc s) is = ap (λ es. map (λ e. OfDisc e) es) is
none_yet (Trail s) is = ap (λ es. map (λ e. OfTrail e) es) is
none_yet (Monitor s) is = ap (λ es. map (λ e. OfMonitor e) es) is
none_yet (Dump s) is = ap (λ es. map (λ e. OfDump e) es) is
none_yet Idle is = refl

-- the events law
pub node_events_law : EventsLaw
node_events_law found log part s h at =
    let r = since (opening_parts found) log h part s at in
    r.2 ∙ (ap (λ (es : List Event). reverse (events_of part log) ++ es) (none_yet r.0 (fresh found part r.0 r.1)) ∙ append-nil (reverse (events_of part log)))

-- THE SAME OF ONE EVENT

among_reversed : (es : List Event) (e : Event) → Among es e → Among (reverse es) e
among_reversed [] e h = absurd h
among_reversed (x ∷ es) e h = subst (λ (xs : List Event). Among xs e) (sym (reverse_first x es)) (⊎_elim (λ (same : x ≡ e). among_right (reverse es) (x ∷ []) e (inl same)) (λ (k : Among es e). among_left (reverse es) (x ∷ []) e (among_reversed es e k)) h)

reversed_among : (es : List Event) (e : Event) → Among (reverse es) e → Among es e
reversed_among [] e h = absurd h
reversed_among (x ∷ es) e h =
    ⊎_elim
    (λ (k : Among (reverse es) e). inr (reversed_among es e k))
    (λ (l : Among (x ∷ []) e). ⊎_elim (λ (same : x ≡ e). inl same) (λ n. absurd n) l)
    (among_append (reverse es) (x ∷ []) e (subst (λ (xs : List Event). Among xs e) (reverse_first x es) h))

among_own : (log : List (ℕ × Event)) (part : ℕ) (e : Event) → Among log (part, e) → Among (events_of part log) e
among_own [] part e h = absurd h
among_own (x ∷ log) part e h = by_case (x.0 == part) refl (among_own log part e) h where
  by_case : (b : Bool) → (x.0 == part) ≡ b → (Among log (part, e) → Among (events_of part log) e) → (◌≡◌ {A = ℕ × Event} x (part, e)) ⊎ Among log (part, e) → Among (cond b (x.1 ∷ events_of part log) (events_of part log)) e
  by_case true same more h = ⊎_elim (λ (is : ◌≡◌ {A = ℕ × Event} x (part, e)). inl (ap (λ (y : ℕ × Event). y.1) is)) (λ (k : Among log (part, e)). inr (more k)) h
  by_case false other more h =
      ⊎_elim
      (λ (is : ◌≡◌ {A = ℕ × Event} x (part, e)). (let clash : true ≡ false = sym (eq-eqb x.0 part (ap (λ (y : ℕ × Event). y.0) is)) ∙ other in absurd (cc (clash))))
      (λ (k : Among log (part, e)). more k)
      h

own_among : (log : List (ℕ × Event)) (part : ℕ) (e : Event) → Among (events_of part log) e → Among log (part, e)
own_among [] part e h = absurd h
own_among (x ∷ log) part e h = by_case (x.0 == part) refl (own_among log part e) h where
  by_case : (b : Bool) → (x.0 == part) ≡ b → (Among (events_of part log) e → Among log (part, e)) → Among (cond b (x.1 ∷ events_of part log) (events_of part log)) e → (◌≡◌ {A = ℕ × Event} x (part, e)) ⊎ Among log (part, e)
  by_case true same more h = ⊎_elim (λ (is : x.1 ≡ e). inl (let here = eqb-true x.0 part same in λ i. (here i, is i))) (λ (k : Among (events_of part log) e). inr (more k)) h
  by_case false other more h = inr (more h)

-- an event of a part has happened in the history, and back
pub happened : (found : Found) (log : List (ℕ × Event)) → IsHistory node (opening_parts found) log → (part : ℕ) (s : PartState) → slice_get (states_after node (opening_parts found) log) part ≡ Some s → (e : Event) → Among (events_at s) e → Among log (part, e)
happened found log h part s at e has = own_among log part e (reversed_among (events_of part log) e (subst (λ (es : List Event). Among es e) (node_events_law found log part s h at) has))

pub is_had : (found : Found) (log : List (ℕ × Event)) → IsHistory node (opening_parts found) log → (part : ℕ) (s : PartState) → slice_get (states_after node (opening_parts found) log) part ≡ Some s → (e : Event) → Among log (part, e) → Among (events_at s) e
is_had found log h part s at e has = subst (λ (es : List Event). Among es e) (sym (node_events_law found log part s h at)) (among_reversed (events_of part log) e (among_own log part e has))
