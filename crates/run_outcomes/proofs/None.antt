-- A worker has had no event for what may be its next.
use Rattle.std.specs.Prelude.{◌≡◌, ℕ, Bool, true, false, List, [], ◌∷◌, ◌++◌, map, reverse, slice_get, Option, Some, None, if◌then◌else◌}
use Rattle.std.proofs.Common.{refl, sym, ap, subst, ◌∙◌, inl, inr, ⊎_elim}
use Rattle.chronicle.specs.Histories.{IsHistory, events_of, states_after}
use Rattle.chronicle.specs.Seats.{Sight, part_state, state_of}
use Rattle.node_machine.specs.Deeds.{EventsLaw, events_at}
use Rattle.node_machine.specs.Node.{node}
use Rattle.node_machine.specs.Opening.{Found, opening_parts, worker_part}
use Rattle.node_machine.specs.Parts.{WorkerPart}
use Rattle.node_machine.specs.Parts.PartState.{Worker}
use Rattle.node_machine.specs.Same.{Among}
use Rattle.node_machine.specs.SameLaws.{same_self}
use Rattle.node_machine.specs.Worker.{decision, enlisted_discs, has_begun, has_finished}
use Rattle.node_machine.specs.declared.event.Event.{Event}
use Rattle.node_machine.specs.declared.event.Event.TheVariants.{OfWorker}
use Rattle.node_machine.specs.declared.event.WorkerEvent.{WorkerEvent}
use Rattle.node_machine.specs.declared.event.WorkerEvent.TheVariants.{Begin, Enlist, Finish, End, Quit}
use Rattle.tmf_model.specs.declared.script.Close.{Close}
use Rattle.tmf_model.specs.declared.script.Close.TheVariants.{Commit, Abort}
use Rattle.tmf_model.specs.declared.transid.Transid.{Transid}
use Rattle.trail_files.specs.MonitorOrder.{is_same_transid}
use Rattle.run_outcomes.specs.Between.{HasNone, IsEventOf, MayBeNext, NextHasNoneLaw}
use Rattle.run_outcomes.proofs.Elements.{among_reverse}
use Rattle.run_outcomes.proofs.Next.{never_before}
use Rattle.run_outcomes.proofs.Telling.{event_among}

-- THE EVENTS OF A WORKER'S PART

if_own : {A : Type 0} (t u : Transid) (x y : A) → u ≡ t → (if is_same_transid u t then x else y) ≡ x
if_own t u x y is = ap (λ (b : Bool). if b then x else y) (ap (λ (z : Transid). is_same_transid z t) is ∙ same_self t)

if_either : (b c : Bool) → c ≡ true → (if b then true else c) ≡ true
if_either true c is = refl
if_either false c is = is

begun_among : (events : List WorkerEvent) (t u : Transid) → u ≡ t → Among events (Begin u) → has_begun events t ≡ true
begun_among [] t u is among = absurd among
begun_among (Begin w ∷ events) t u is among = ⊎_elim
    (λ (same : Begin w ≡ Begin u). if_own t w true (has_begun events t) ((cc (same)) ∙ is))
    (λ (later : Among events (Begin u)). if_either (is_same_transid w t) (has_begun events t) (begun_among events t u is later))
    among
begun_among (Enlist w disc ∷ events) t u is among = ⊎_elim (λ (same : Enlist w disc ≡ Begin u). absurd (cc (same))) (λ (later : Among events (Begin u)). begun_among events t u is later) among
begun_among (Finish w ∷ events) t u is among = ⊎_elim (λ (same : Finish w ≡ Begin u). absurd (cc (same))) (λ (later : Among events (Begin u)). begun_among events t u is later) among
begun_among (End w ∷ events) t u is among = ⊎_elim (λ (same : End w ≡ Begin u). absurd (cc (same))) (λ (later : Among events (Begin u)). begun_among events t u is later) among
begun_among (Quit w ∷ events) t u is among = ⊎_elim (λ (same : Quit w ≡ Begin u). absurd (cc (same))) (λ (later : Among events (Begin u)). begun_among events t u is later) among

finished_among : (events : List WorkerEvent) (t u : Transid) → u ≡ t → Among events (Finish u) → has_finished events t ≡ true
finished_among [] t u is among = absurd among
finished_among (Finish w ∷ events) t u is among = ⊎_elim
    (λ (same : Finish w ≡ Finish u). if_own t w true (has_finished events t) ((cc (same)) ∙ is))
    (λ (later : Among events (Finish u)). if_either (is_same_transid w t) (has_finished events t) (finished_among events t u is later))
    among
finished_among (Begin w ∷ events) t u is among = ⊎_elim (λ (same : Begin w ≡ Finish u). absurd (cc (same))) (λ (later : Among events (Finish u)). finished_among events t u is later) among
finished_among (Enlist w disc ∷ events) t u is among = ⊎_elim (λ (same : Enlist w disc ≡ Finish u). absurd (cc (same))) (λ (later : Among events (Finish u)). finished_among events t u is later) among
finished_among (End w ∷ events) t u is among = ⊎_elim (λ (same : End w ≡ Finish u). absurd (cc (same))) (λ (later : Among events (Finish u)). finished_among events t u is later) among
finished_among (Quit w ∷ events) t u is among = ⊎_elim (λ (same : Quit w ≡ Finish u). absurd (cc (same))) (λ (later : Among events (Finish u)). finished_among events t u is later) among

-- the event decides the attempt
abbrev Decides : Transid → WorkerEvent → Type 0
Decides t (End u) = u ≡ t
Decides t (Quit u) = u ≡ t
Decides t _ = ⊥

-- where nothing is decided, nothing decides
if_none : (b : Bool) (c : Close) (d : Option Close) → (if b then Some c else d) ≡ None → (b ≡ false) × (d ≡ None)
if_none true c d h = absurd (cc (h))
if_none false c d h = (refl, h)

not_same : (t u : Transid) → u ≡ t → is_same_transid u t ≡ false → ⊥
not_same t u is apart = absurd (let yes : true ≡ false = sym (same_self t) ∙ ap (λ (z : Transid). is_same_transid z t) (sym is) ∙ apart in cc (yes))

decided_by : (t : Transid) (w e : WorkerEvent) → w ≡ e → Decides t e → Decides t w
decided_by t w e same decides = subst (λ (x : WorkerEvent). Decides t x) (sym same) decides

undecided_among : (events : List WorkerEvent) (t : Transid) (e : WorkerEvent) → Decides t e → decision events t ≡ None → Among events e → ⊥
undecided_among [] t e decides none among = among
undecided_among (End w ∷ events) t e decides none among =
    let parts = if_none (is_same_transid w t) Commit (decision events t) none in
    ⊎_elim (λ (same : End w ≡ e). not_same t w (decided_by t (End w) e same decides) parts.0) (λ (later : Among events e). undecided_among events t e decides parts.1 later) among
undecided_among (Quit w ∷ events) t e decides none among =
    let parts = if_none (is_same_transid w t) Abort (decision events t) none in
    ⊎_elim (λ (same : Quit w ≡ e). not_same t w (decided_by t (Quit w) e same decides) parts.0) (λ (later : Among events e). undecided_among events t e decides parts.1 later) among
undecided_among (Begin w ∷ events) t e decides none among = ⊎_elim (λ (same : Begin w ≡ e). decided_by t (Begin w) e same decides) (λ (later : Among events e). undecided_among events t e decides none later) among
undecided_among (Enlist w disc ∷ events) t e decides none among = ⊎_elim (λ (same : Enlist w disc ≡ e). decided_by t (Enlist w disc) e same decides) (λ (later : Among events e). undecided_among events t e decides none later) among
undecided_among (Finish w ∷ events) t e decides none among = ⊎_elim (λ (same : Finish w ≡ e). decided_by t (Finish w) e same decides) (λ (later : Among events e). undecided_among events t e decides none later) among

appended_none : (xs : List ℕ) (x : ℕ) → xs ++ x ∷ [] ≡ [] → ⊥
appended_none [] x h = absurd (cc (h))
appended_none (y ∷ xs) x h = absurd (cc (h))

if_enlisted : (b : Bool) (xs : List ℕ) (x : ℕ) → (if b then xs ++ x ∷ [] else xs) ≡ [] → (b ≡ false) × (xs ≡ [])
if_enlisted true xs x h = absurd (appended_none xs x h)
if_enlisted false xs x h = (refl, h)

unenlisted_among : (events : List WorkerEvent) (t u : Transid) (disc : ℕ) → u ≡ t → enlisted_discs events t ≡ [] → Among events (Enlist u disc) → ⊥
unenlisted_among [] t u disc is none among = among
unenlisted_among (Enlist w d ∷ events) t u disc is none among =
    let parts = if_enlisted (is_same_transid w t) (enlisted_discs events t) d none in
    ⊎_elim
    (λ (same : Enlist w d ≡ Enlist u disc). not_same t w ((cc (same)) ∙ is) parts.0)
    (λ (later : Among events (Enlist u disc)). unenlisted_among events t u disc is parts.1 later)
    among
unenlisted_among (Begin w ∷ events) t u disc is none among = ⊎_elim (λ (same : Begin w ≡ Enlist u disc). absurd (cc (same))) (λ (later : Among events (Enlist u disc)). unenlisted_among events t u disc is none later) among
unenlisted_among (Finish w ∷ events) t u disc is none among = ⊎_elim (λ (same : Finish w ≡ Enlist u disc). absurd (cc (same))) (λ (later : Among events (Enlist u disc)). unenlisted_among events t u disc is none later) among
unenlisted_among (End w ∷ events) t u disc is none among = ⊎_elim (λ (same : End w ≡ Enlist u disc). absurd (cc (same))) (λ (later : Among events (Enlist u disc)). unenlisted_among events t u disc is none later) among
unenlisted_among (Quit w ∷ events) t u disc is none among = ⊎_elim (λ (same : Quit w ≡ Enlist u disc). absurd (cc (same))) (λ (later : Among events (Enlist u disc)). unenlisted_among events t u disc is none later) among

-- a worker's events have none of what may be the next
none_of_next : (events : List WorkerEvent) (t : Transid) (e : WorkerEvent) → MayBeNext events t → IsEventOf t e → Among events e → ⊥
none_of_next events t (Begin u) next of_it among = never_before t (next.earlier t (begun_among events t u of_it among))
none_of_next events t (Enlist u disc) next of_it among = unenlisted_among events t u disc of_it next.alone among
none_of_next events t (Finish u) next of_it among = absurd (let yes : true ≡ false = sym (finished_among events t u of_it among) ∙ next.unfinished in cc (yes))
none_of_next events t (End u) next of_it among = undecided_among events t (End u) of_it next.undecided among
none_of_next events t (Quit u) next of_it among = undecided_among events t (Quit u) of_it next.undecided among

-- THE HISTORY

of_worker : (events : List WorkerEvent) (e : WorkerEvent) → Among (map (λ x. OfWorker x) events) (OfWorker e) → Among events e
of_worker [] e among = among
of_worker (x ∷ events) e among = ⊎_elim (λ (same : OfWorker x ≡ OfWorker e). inl (cc (same))) (λ (later : Among (map (λ x. OfWorker x) events) (OfWorker e)). inr (of_worker events e later)) among

-- so has what its seat has seen
pub none_at : EventsLaw → (found : Found) (seat : Sight Event) (s : WorkerPart) (t : Transid) → IsHistory node (opening_parts found) seat.seen → seat.part ≡ Some (worker_part t.worker)
    → part_state node (opening_parts found) seat ≡ Some (Worker s) → MayBeNext s.events t → HasNone seat.seen t
none_at law found seat s t history part at next e of_it among =
    let p = worker_part t.worker in
    let state : slice_get (states_after node (opening_parts found) seat.seen) p ≡ Some (Worker s) = ap (λ (o : Option ℕ). state_of (states_after node (opening_parts found) seat.seen) o) (sym part) ∙ at in
    let same : events_at (Worker s) ≡ reverse (events_of p seat.seen) = law found seat.seen p (Worker s) history state in
    let has : Among (reverse (events_of p seat.seen)) (OfWorker e) = among_reverse (events_of p seat.seen) (OfWorker e) (event_among p seat.seen (OfWorker e) among) in
    none_of_next s.events t e next of_it (of_worker s.events e (subst (λ (l : List Event). Among l (OfWorker e)) (sym same) has))

pub next_has_none_law : EventsLaw → NextHasNoneLaw
next_has_none_law law = none_at law
