-- What a history says of the begin of an attempt, and of the discs that it enlists.
use Rattle.std.specs.Prelude.{◌⊎◌, ◌==◌, ◌||◌, reverse, cond, if◌then◌else◌}
use Rattle.std.specs.List.{list_any}
use Rattle.std.proofs.Common.{◌≡◌, inl, inr, ⊎_elim, ℕ, Bool, true, false, List, [], ◌∷◌, ◌++◌, map, Some, slice_get, refl, ap, sym, ◌∙◌, subst, arith}
use Rattle.std.proofs.lemmas.Bool.{eq-eqb}
use mathlib.Core.List.{reverse-cons}
use Rattle.chronicle.specs.Histories.{IsEnabled, IsHistory, events_of, states_after}
use Rattle.chronicle.proofs.States.{history_front, history_rest}
use Rattle.tmf_model.specs.declared.transid.Transid.{Transid}
use Rattle.node_machine.specs.Deeds.{EventsLaw, Log}
use Rattle.node_machine.specs.Node.{IsAllowed, node}
use Rattle.node_machine.specs.Opening.{Found, opening_parts}
use Rattle.node_machine.specs.Parts.{PartState, WorkerPart}
use Rattle.node_machine.specs.Parts.PartState.{Worker, Disc, Trail, Monitor, Dump, Idle}
use Rattle.node_machine.specs.Same.{Among, IsBefore}
use Rattle.node_machine.specs.SameLaws.{among_append, among_left, among_right}
use Rattle.node_machine.specs.Worker.{WorkerMay, enlisted_discs}
use Rattle.node_machine.specs.declared.event.Event.{Event}
use Rattle.node_machine.specs.declared.event.Event.TheVariants.{OfWorker}
use Rattle.node_machine.specs.declared.event.WorkerEvent.{WorkerEvent}
use Rattle.node_machine.specs.declared.event.WorkerEvent.TheVariants.{Begin, Enlist}
use Rattle.run_worker.proofs.Between.{begun_of}

-- ENTRIES AND EVENTS

module _ {A : Type 0} where
  pub among_reverse : (xs : List A) (x : A) → Among xs x → Among (reverse xs) x
  among_reverse [] x h = absurd h
  among_reverse (y ∷ xs) x h = subst (λ (l : List A). Among l x) (sym (reverse-cons y xs))
      (⊎_elim (λ (is : y ≡ x). among_right (reverse xs) (y ∷ []) x (inl is)) (λ (later : Among xs x). among_left (reverse xs) (y ∷ []) x (among_reverse xs x later)) h)

  pub among_unreversed : (xs : List A) (x : A) → Among (reverse xs) x → Among xs x
  among_unreversed [] x h = absurd h
  among_unreversed (y ∷ xs) x h = ⊎_elim
      (λ (later : Among (reverse xs) x). inr (among_unreversed xs x later))
      (λ (last : Among (y ∷ []) x). ⊎_elim (λ (is : y ≡ x). inl is) (λ (none : Among [] x). absurd none) last)
      (among_append (reverse xs) (y ∷ []) x (subst (λ (l : List A). Among l x) (reverse-cons y xs) h))

pub if_or_true : (b c : Bool) → c ≡ true → (if b then true else c) ≡ true
if_or_true true c h = refl
if_or_true false c h = h

pub unmapped : (events : List WorkerEvent) (e : WorkerEvent) → Among (map (λ (x : WorkerEvent). OfWorker x) events) (OfWorker e) → Among events e
unmapped [] e h = absurd h
unmapped (x ∷ events) e h = ⊎_elim (λ (is : OfWorker x ≡ OfWorker e). inl (cc (is))) (λ (later : Among (map (λ (y : WorkerEvent). OfWorker y) events) (OfWorker e)). inr (unmapped events e later)) h

-- an entry of a part is an event of it
pub entry_event : (part : ℕ) (log : Log) (e : Event) → Among log (part, e) → Among (events_of part log) e
entry_event part [] e h = absurd h
entry_event part (x ∷ log) e h = ⊎_elim
    (λ (same : x ≡ (part, e)).
    let here : (x.0 == part) ≡ true = eq-eqb x.0 part (ap (λ (y : ℕ × Event). y.0) same) in
    subst (λ (b : Bool). Among (cond b (x.1 ∷ events_of part log) (events_of part log)) e) (sym here) (inl (ap (λ (y : ℕ × Event). y.1) same)))
    (λ (later : Among log (part, e)). by_case (x.0 == part) (entry_event part log e later))
    h
  where
    by_case : (b : Bool) → Among (events_of part log) e → Among (cond b (x.1 ∷ events_of part log) (events_of part log)) e
    by_case true has = inr has
    by_case false has = has

module _ (law : EventsLaw) (found : Found) where
  -- what a worker has had, its state has
  pub worker_had : (log : Log) (part : ℕ) (w : WorkerPart) (e : WorkerEvent) → IsHistory node (opening_parts found) log → slice_get (states_after node (opening_parts found) log) part ≡ Some (Worker w)
      → Among (events_of part log) (OfWorker e) → Among w.events e
  worker_had log part w e history at h = unmapped w.events e (subst (λ (l : List Event). Among l (OfWorker e)) (sym (law found log part (Worker w) history at)) (among_reverse (events_of part log) (OfWorker e) h))

  pub worker_has : (log : Log) (part : ℕ) (w : WorkerPart) (e : WorkerEvent) → IsHistory node (opening_parts found) log → slice_get (states_after node (opening_parts found) log) part ≡ Some (Worker w)
      → Among log (part, OfWorker e) → Among w.events e
  worker_has log part w e history at h = worker_had log part w e history at (entry_event part log (OfWorker e) h)

  worker_may : (s : PartState) (e : WorkerEvent) → IsAllowed s (OfWorker e) → (w : WorkerPart) × (s ≡ Worker w) × WorkerMay w e
  worker_may (Worker w) e may = (w, refl, may)
  worker_may (Disc s) e may = absurd may
  worker_may (Trail s) e may = absurd may
  worker_may (Monitor s) e may = absurd may
  worker_may (Dump s) e may = absurd may
  worker_may Idle e may = absurd may

  -- a worker in front of an event that it has next
  pub record IsNext (front : Log) (part : ℕ) (e : WorkerEvent) : Type 0 where
    pub history : IsHistory node (opening_parts found) front
    pub worker : WorkerPart
    pub at : slice_get (states_after node (opening_parts found) front) part ≡ Some (Worker worker)
    pub may : WorkerMay worker e

  pub is_next : (front rest : Log) (part : ℕ) (e : WorkerEvent) → IsHistory node (opening_parts found) (front ++ (part, OfWorker e) ∷ rest) → IsNext front part e
  is_next front rest part e history =
      let enabled : IsEnabled node (states_after node (opening_parts found) front) (part, OfWorker e) = (history_rest node (opening_parts found) front ((part, OfWorker e) ∷ rest) history).0 in
      let by = worker_may enabled.0 e enabled.2 in
      record {
        history = history_front node (opening_parts found) front ((part, OfWorker e) ∷ rest) history;
        worker = by.0;
        at = enabled.1 ∙ ap (λ (s : PartState). Some s) by.1;
        may = by.2;
      }

  pub never_before : (t : Transid) → IsBefore t t → ⊥
  never_before t (inl less) = omega (arith, less)
  never_before t (inr same) = (let is = same.1 in omega (arith, is))

  -- no attempt begins twice
  pub begins_once : (front rest : Log) (part : ℕ) (t : Transid) → IsHistory node (opening_parts found) (front ++ (part, OfWorker (Begin t)) ∷ rest) → Among front (part, OfWorker (Begin t)) → ⊥
  begins_once front rest part t history h =
      let next = is_next front rest part (Begin t) history in
      never_before t (next.may.later t (begun_of next.worker.events t (worker_has front part next.worker (Begin t) next.history next.at h)))

  -- an attempt that begins behind another one of its worker is a later one
  pub begins_later : (front rest : Log) (part : ℕ) (t u : Transid) → IsHistory node (opening_parts found) (front ++ (part, OfWorker (Begin u)) ∷ rest) → Among front (part, OfWorker (Begin t)) → IsBefore t u
  begins_later front rest part t u history h =
      let next = is_next front rest part (Begin u) history in
      next.may.later t (begun_of next.worker.events t (worker_has front part next.worker (Begin t) next.history next.at h))

  among_any : (xs : List ℕ) (d : ℕ) → Among xs d → list_any (λ other. other == d) xs ≡ true
  among_any [] d h = absurd h
  among_any (x ∷ xs) d h = of (x == d) (⊎_elim (λ (is : x ≡ d). inl (eq-eqb x d is)) (λ (later : Among xs d). inr (among_any xs d later)) h) where
    of : (b : Bool) → (b ≡ true) ⊎ (list_any (λ other. other == d) xs ≡ true) → (b || list_any (λ other. other == d) xs) ≡ true
    of true h = refl
    of false (inl is) = absurd (cc (is))
    of false (inr is) = is

  -- what a worker has enlisted it does not enlist again
  pub enlists_once : (front rest : Log) (part : ℕ) (t : Transid) (disc : ℕ) → IsHistory node (opening_parts found) (front ++ (part, OfWorker (Enlist t disc)) ∷ rest)
      → ((w : WorkerPart) → slice_get (states_after node (opening_parts found) front) part ≡ Some (Worker w) → Among (enlisted_discs w.events t) disc) → ⊥
  enlists_once front rest part t disc history has =
      let next = is_next front rest part (Enlist t disc) history in
      let any : list_any (λ other. other == disc) (enlisted_discs next.worker.events t) ≡ true = among_any (enlisted_discs next.worker.events t) disc (has next.worker next.at) in
      absurd (cc (sym any ∙ next.may.is_new))
