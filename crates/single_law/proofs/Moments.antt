-- What is so at a moment of a history: what has happened before it, and who had begun, decided or released by then.
use Rattle.std.specs.Prelude.{◌≡◌, ◌⊎◌, ℕ, zero, suc, ◌-◌, ◌<◌, ◌==◌, Bool, true, false, cond, if◌then◌else◌, List, [], ◌∷◌, ◌++◌, Contains, map, reverse, Some, slice_get}
use Rattle.std.proofs.Common.{refl, ap, sym, ◌∙◌, subst, arith, append_assoc, eq-eqb, eqb-true, ⊎_elim, inl, inr}
use mathlib.Core.List.{reverse-cons}
use Rattle.chronicle.specs.Histories.{IsEnabled, IsHistory, IsTrueIn, events_of, states_after}
use Rattle.chronicle.proofs.States.{history_front, history_rest, states_after-append, stays_true}
use Rattle.tmf_model.specs.declared.script.Close.{Close}
use Rattle.tmf_model.specs.declared.script.Close.TheVariants.{Abort as Aborting, Commit as Committing}
use Rattle.tmf_model.specs.declared.transid.Transid.{Transid}
use Rattle.trail_files.specs.MonitorOrder.{is_same_transid}
use Rattle.node_machine.specs.Deeds.{EventsLaw, HasBegun, HasEnlisted, HasReleased, Log, events_at}
use Rattle.node_machine.specs.Laws.{node_facts_stay}
use Rattle.node_machine.specs.Made.{has_closed, has_released}
use Rattle.node_machine.specs.Node.{IsAllowed, node, state_with}
use Rattle.node_machine.specs.Opening.{Found, disc_part, opening_parts, worker_part}
use Rattle.node_machine.specs.Parts.{DiscPart, Fact, PartState, WorkerPart}
use Rattle.node_machine.specs.Parts.Fact.{Closed, Decided, Enlisted}
use Rattle.node_machine.specs.Parts.PartState.{Disc, Dump, Idle, Monitor, Trail, Worker}
use Rattle.node_machine.specs.Same.{Among, IsBefore}
use Rattle.node_machine.specs.SameLaws.{among_append, among_left, among_right, if_true, same_is, same_self}
use Rattle.node_machine.specs.Worker.{IsOwn, WorkerMay, decision, enlisted_discs, has_begun}
use Rattle.node_machine.specs.declared.event.DiscEvent.{DiscEvent}
use Rattle.node_machine.specs.declared.event.DiscEvent.TheVariants.{Close as CloseEvent, Draw, Drawn, Failed, Lock, Low, Lowered, Raise, Read, Release, Start, Turn, Undo, Write}
use Rattle.node_machine.specs.declared.event.Event.{Event}
use Rattle.node_machine.specs.declared.event.Event.TheVariants.{OfDisc, OfDump, OfMonitor, OfTrail, OfWorker}
use Rattle.node_machine.specs.declared.event.WorkerEvent.{WorkerEvent}
use Rattle.node_machine.specs.declared.event.WorkerEvent.TheVariants.{Begin, End, Enlist, Finish, Quit}
use Rattle.node_machine.proofs.Kept.{kept}
use Rattle.node_machine.proofs.Opened.{fresh}
use Rattle.node_machine.proofs.Placed.{parts_placed}

-- LISTS

module _ {A : Type 0} where
  pub among_reverse : (xs : List A) (x : A) → Among xs x → Among (reverse xs) x
  among_reverse [] x has = absurd has
  among_reverse (y ∷ xs) x has = subst (λ (l : List A). Among l x) (sym (reverse-cons y xs))
      (⊎_elim (λ (is : y ≡ x). among_right (reverse xs) (y ∷ []) x (inl is)) (λ (rest : Among xs x). among_left (reverse xs) (y ∷ []) x (among_reverse xs x rest)) has)

  pub reversed_among : (xs : List A) (x : A) → Among (reverse xs) x → Among xs x
  reversed_among [] x has = absurd has
  reversed_among (y ∷ xs) x has = ⊎_elim
      (λ (later : Among (reverse xs) x). inr (reversed_among xs x later))
      (λ (last : Among (y ∷ []) x). ⊎_elim (λ (is : y ≡ x). inl is) (λ none. absurd none) last)
      (among_append (reverse xs) (y ∷ []) x (subst (λ (l : List A). Among l x) (reverse-cons y xs) has))

  -- an item stands between others
  pub among_cut : (xs : List A) (x : A) → Among xs x → (front rest : List A) × (xs ≡ front ++ x ∷ rest)
  among_cut [] x has = absurd has
  among_cut (y ∷ xs) x has = ⊎_elim
      (λ (is : y ≡ x). ([], xs, ap (λ z. z ∷ xs) is))
      (λ (rest : Among xs x). let cut = among_cut xs x rest in (y ∷ cut.0, cut.1, ap (λ (l : List A). y ∷ l) cut.2))
      has

  pub among_map : {B : Type 0} (f : A → B) (xs : List A) (x : A) → Among xs x → Among (map f xs) (f x)
  among_map f [] x has = absurd has
  among_map f (y ∷ xs) x has = ⊎_elim (λ (is : y ≡ x). inl (ap f is)) (λ (rest : Among xs x). inr (among_map f xs x rest)) has

-- what a list contains is among its items
pub contained : {A : Type 0} (xs : List A) (x : A) → Contains xs x → Among xs x
contained [] x (k, lt, is) = absurd (omega (arith, lt))
contained (y ∷ xs) x (zero, lt, is) = inl is
contained (y ∷ xs) x (suc k, lt, is) = inr (contained xs x (k, omega (arith, lt), is))

among_own : (log : Log) (part : ℕ) (e : Event) → Among log (part, e) → Among (events_of part log) e
among_own [] part e has = absurd has
among_own (x ∷ log) part e has = by_case (x.0 == part) refl (among_own log part e) has where
  by_case : (b : Bool) → (x.0 == part) ≡ b → (Among log (part, e) → Among (events_of part log) e) → (◌≡◌ {A = ℕ × Event} x (part, e)) ⊎ Among log (part, e) → Among (cond b (x.1 ∷ events_of part log) (events_of part log)) e
  by_case true same more has = ⊎_elim (λ (is : ◌≡◌ {A = ℕ × Event} x (part, e)). inl (ap (λ (y : ℕ × Event). y.1) is)) (λ (rest : Among log (part, e)). inr (more rest)) has
  by_case false other more has = ⊎_elim
      (λ (is : ◌≡◌ {A = ℕ × Event} x (part, e)). (let clash : true ≡ false = sym (eq-eqb x.0 part (ap (λ (y : ℕ × Event). y.0) is)) ∙ other in absurd (cc (clash))))
      (λ (rest : Among log (part, e)). more rest)
      has

own_among : (log : Log) (part : ℕ) (e : Event) → Among (events_of part log) e → Among log (part, e)
own_among [] part e has = absurd has
own_among (x ∷ log) part e has = by_case (x.0 == part) refl (own_among log part e) has where
  by_case : (b : Bool) → (x.0 == part) ≡ b → (Among (events_of part log) e → Among log (part, e)) → Among (cond b (x.1 ∷ events_of part log) (events_of part log)) e → (◌≡◌ {A = ℕ × Event} x (part, e)) ⊎ Among log (part, e)
  by_case true same more has = ⊎_elim (λ (is : x.1 ≡ e). inl (let here = eqb-true x.0 part same in λ i. (here i, is i))) (λ (rest : Among (events_of part log) e). inr (more rest)) has
  by_case false other more has = inr (more has)

-- ATTEMPTS

-- no attempt came before itself
pub not_before : (t : Transid) → IsBefore t t → ⊥
not_before t is = ⊎_elim (λ (lt : t.ordinal < t.ordinal). omega (arith, lt)) (λ (x : (t.ordinal ≡ t.ordinal) × (t.attempt < t.attempt)). (let lt = x.1 in omega (arith, lt))) is

pub not_both : (t u : Transid) → IsBefore t u → IsBefore u t → ⊥
not_both t u one other = elim one [
  | inl less ↦ elim other [
    | inl more ↦ omega (arith, less, more)
    | inr same ↦ (let is = same.0 in omega (arith, less, is))
  ]
  | inr same ↦ elim other [
    | inl more ↦ (let is = same.0 in omega (arith, more, is))
    | inr again ↦ (let one = same.1 in let two = again.1 in omega (arith, one, two))
  ]
]

-- WORKERS

begun_by : (events : List WorkerEvent) (t : Transid) → has_begun events t ≡ true → Among events (Begin t)
begun_by [] t is = absurd (cc (is))
begun_by (Begin u ∷ events) t is = by_case (is_same_transid u t) refl (begun_by events t) is where
  by_case : (b : Bool) → is_same_transid u t ≡ b → (has_begun events t ≡ true → Among events (Begin t)) → (if b then true else has_begun events t) ≡ true → Among (Begin u ∷ events) (Begin t)
  by_case true same rest is = inl (ap (λ (v : Transid). Begin v) (same_is u t same))
  by_case false other rest is = inr (rest is)
begun_by (Enlist u disc ∷ events) t is = inr (begun_by events t is)
begun_by (Finish u ∷ events) t is = inr (begun_by events t is)
begun_by (End u ∷ events) t is = inr (begun_by events t is)
begun_by (Quit u ∷ events) t is = inr (begun_by events t is)

begun_true : (events : List WorkerEvent) (t : Transid) → Among events (Begin t) → has_begun events t ≡ true
begun_true [] t has = absurd has
begun_true (Begin u ∷ events) t has = ⊎_elim
    (λ (is : Begin u ≡ Begin t). (let one : u ≡ t = cc (is) in ap (λ (b : Bool). if b then true else has_begun events t) (ap (λ (v : Transid). is_same_transid v t) one ∙ same_self t)))
    (λ (rest : Among events (Begin t)). if_true (is_same_transid u t) (has_begun events t) (begun_true events t rest))
    has
begun_true (Enlist u disc ∷ events) t has = ⊎_elim (λ (is : Enlist u disc ≡ Begin t). absurd (cc (is))) (λ (rest : Among events (Begin t)). begun_true events t rest) has
begun_true (Finish u ∷ events) t has = ⊎_elim (λ (is : Finish u ≡ Begin t). absurd (cc (is))) (λ (rest : Among events (Begin t)). begun_true events t rest) has
begun_true (End u ∷ events) t has = ⊎_elim (λ (is : End u ≡ Begin t). absurd (cc (is))) (λ (rest : Among events (Begin t)). begun_true events t rest) has
begun_true (Quit u ∷ events) t has = ⊎_elim (λ (is : Quit u ≡ Begin t). absurd (cc (is))) (λ (rest : Among events (Begin t)). begun_true events t rest) has

enlist_event : (events : List WorkerEvent) (u : Transid) (d : ℕ) → Among (enlisted_discs events u) d → Among events (Enlist u d)
enlist_event [] u d has = absurd has
enlist_event (Enlist v disc ∷ events) u d has = by_case (is_same_transid v u) refl (enlist_event events u d) has where
  by_case : (b : Bool) → is_same_transid v u ≡ b → (Among (enlisted_discs events u) d → Among events (Enlist u d))
      → Among (if b then enlisted_discs events u ++ disc ∷ [] else enlisted_discs events u) d → (Enlist v disc ≡ Enlist u d) ⊎ Among events (Enlist u d)
  by_case true same rest has = ⊎_elim
      (λ (before : Among (enlisted_discs events u) d). inr (rest before))
      (λ (last : Among (disc ∷ []) d). ⊎_elim (λ (is : disc ≡ d). inl (let one = same_is v u same in λ i. Enlist (one i) (is i))) (λ none. absurd none) last)
      (among_append (enlisted_discs events u) (disc ∷ []) d has)
  by_case false other rest has = inr (rest has)
enlist_event (Begin v ∷ events) u d has = inr (enlist_event events u d has)
enlist_event (Finish v ∷ events) u d has = inr (enlist_event events u d has)
enlist_event (End v ∷ events) u d has = inr (enlist_event events u d has)
enlist_event (Quit v ∷ events) u d has = inr (enlist_event events u d has)

-- whoever has enlisted a disc, or is decided, has begun
record HasBegunFirst (events : List WorkerEvent) : Type 0 where
  decided : (t : Transid) (close : Close) → decision events t ≡ Some close → has_begun events t ≡ true
  enlisted : (t : Transid) (d : ℕ) → Among (enlisted_discs events t) d → has_begun events t ≡ true

of_same : (events : List WorkerEvent) (u t : Transid) → has_begun events u ≡ true → is_same_transid u t ≡ true → has_begun events t ≡ true
of_same events u t begun same = ap (λ (v : Transid). has_begun events v) (sym (same_is u t same)) ∙ begun

begun_first : (s : WorkerPart) (e : WorkerEvent) → WorkerMay s e → HasBegunFirst s.events → HasBegunFirst (e ∷ s.events)
begun_first s (Begin u) may was = record {
  decided = λ t close is. if_true (is_same_transid u t) (has_begun s.events t) (was.decided t close is);
  enlisted = λ t d has. if_true (is_same_transid u t) (has_begun s.events t) (was.enlisted t d has);
}
begun_first s (Enlist u disc) may was = record { decided = was.decided; enlisted = λ t d has. by_case t d (is_same_transid u t) refl has } where
  by_case : (t : Transid) (d : ℕ) (b : Bool) → is_same_transid u t ≡ b → Among (if b then enlisted_discs s.events t ++ disc ∷ [] else enlisted_discs s.events t) d → has_begun s.events t ≡ true
  by_case t d true same has = of_same s.events u t may.is_open.begun same
  by_case t d false other has = was.enlisted t d has
begun_first s (Finish u) may was = record { decided = was.decided; enlisted = was.enlisted }
begun_first s (End u) may was = record { decided = λ t close is. by_case t close (is_same_transid u t) refl is; enlisted = was.enlisted } where
  by_case : (t : Transid) (close : Close) (b : Bool) → is_same_transid u t ≡ b → (if b then Some Committing else decision s.events t) ≡ Some close → has_begun s.events t ≡ true
  by_case t close true same is = of_same s.events u t may.is_open.begun same
  by_case t close false other is = was.decided t close is
begun_first s (Quit u) may was = record { decided = λ t close is. by_case t close (is_same_transid u t) refl is; enlisted = was.enlisted } where
  by_case : (t : Transid) (close : Close) (b : Bool) → is_same_transid u t ≡ b → (if b then Some Aborting else decision s.events t) ≡ Some close → has_begun s.events t ≡ true
  by_case t close true same is = of_same s.events u t may.begun same
  by_case t close false other is = was.decided t close is

abbrev IsBegunFirst : ℕ → PartState → Type 0
IsBegunFirst q (Worker s) = HasBegunFirst s.events
IsBegunFirst q _ = Unit {0}

first_kept : (q : ℕ) (s : PartState) (e : Event) → IsAllowed s e → IsBegunFirst q s → IsBegunFirst q (state_with s e)
first_kept q (Worker s) (OfWorker e) may is = begun_first s e may is
first_kept q (Disc s) (OfDisc e) may is = tt
first_kept q (Trail s) (OfTrail e) may is = tt
first_kept q (Monitor s) (OfMonitor e) may is = tt
first_kept q (Dump s) (OfDump e) may is = tt
first_kept q _ _ may is = absurd may

first_begins : (found : Found) (q : ℕ) (s : PartState) → slice_get (opening_parts found) q ≡ Some s → IsBegunFirst q s
first_begins found q (Worker s) at =
    subst HasBegunFirst (sym (fresh found q (Worker s) at)) (record { decided = λ t close is. absurd (cc (is)); enlisted = λ t d has. absurd has })
first_begins found q (Disc s) at = tt
first_begins found q (Trail s) at = tt
first_begins found q (Monitor s) at = tt
first_begins found q (Dump s) at = tt
first_begins found q Idle at = tt

-- DISCS

released_by : (events : List DiscEvent) (u : Transid) → Among events (Release u) → has_released events u ≡ true
released_by [] u has = absurd has
released_by (Release v ∷ events) u has = ⊎_elim
    (λ (is : Release v ≡ Release u). (let one : v ≡ u = cc (is) in ap (λ (b : Bool). if b then true else has_released events u) (ap (λ (w : Transid). is_same_transid w u) one ∙ same_self u)))
    (λ (rest : Among events (Release u)). if_true (is_same_transid v u) (has_released events u) (released_by events u rest))
    has
released_by (Write r op ∷ events) u has = ⊎_elim (λ (is : Write r op ≡ Release u). absurd (cc (is))) (λ (rest : Among events (Release u)). released_by events u rest) has
released_by (Read t file key value ∷ events) u has = ⊎_elim (λ (is : Read t file key value ≡ Release u). absurd (cc (is))) (λ (rest : Among events (Release u)). released_by events u rest) has
released_by (Lock t file ∷ events) u has = ⊎_elim (λ (is : Lock t file ≡ Release u). absurd (cc (is))) (λ (rest : Among events (Release u)). released_by events u rest) has
released_by (Turn t cause ∷ events) u has = ⊎_elim (λ (is : Turn t cause ≡ Release u). absurd (cc (is))) (λ (rest : Among events (Release u)). released_by events u rest) has
released_by (Undo r ∷ events) u has = ⊎_elim (λ (is : Undo r ≡ Release u). absurd (cc (is))) (λ (rest : Among events (Release u)). released_by events u rest) has
released_by (CloseEvent t ∷ events) u has = ⊎_elim (λ (is : CloseEvent t ≡ Release u). absurd (cc (is))) (λ (rest : Among events (Release u)). released_by events u rest) has
released_by (Draw file block position ∷ events) u has = ⊎_elim (λ (is : Draw file block position ≡ Release u). absurd (cc (is))) (λ (rest : Among events (Release u)). released_by events u rest) has
released_by (Drawn file block ∷ events) u has = ⊎_elim (λ (is : Drawn file block ≡ Release u). absurd (cc (is))) (λ (rest : Among events (Release u)). released_by events u rest) has
released_by (Low position by ∷ events) u has = ⊎_elim (λ (is : Low position by ≡ Release u). absurd (cc (is))) (λ (rest : Among events (Release u)). released_by events u rest) has
released_by (Lowered ∷ events) u has = ⊎_elim (λ (is : Lowered ≡ Release u). absurd (cc (is))) (λ (rest : Among events (Release u)). released_by events u rest) has
released_by (Start number start item ∷ events) u has = ⊎_elim (λ (is : Start number start item ≡ Release u). absurd (cc (is))) (λ (rest : Among events (Release u)). released_by events u rest) has
released_by (Raise number rest_ ∷ events) u has = ⊎_elim (λ (is : Raise number rest_ ≡ Release u). absurd (cc (is))) (λ (rest : Among events (Release u)). released_by events u rest) has
released_by (Failed by ∷ events) u has = ⊎_elim (λ (is : Failed by ≡ Release u). absurd (cc (is))) (λ (rest : Among events (Release u)). released_by events u rest) has

pub among_disc : (xs : List DiscEvent) (x : DiscEvent) → Among (map (λ e. OfDisc e) xs) (OfDisc x) → Among xs x
among_disc [] x has = absurd has
among_disc (y ∷ xs) x has = ⊎_elim (λ (is : OfDisc y ≡ OfDisc x). inl (cc (is))) (λ (rest : Among (map (λ e. OfDisc e) xs) (OfDisc x)). inr (among_disc xs x rest)) has

among_worker : (xs : List WorkerEvent) (x : WorkerEvent) → Among (map (λ e. OfWorker e) xs) (OfWorker x) → Among xs x
among_worker [] x has = absurd has
among_worker (y ∷ xs) x has = ⊎_elim (λ (is : OfWorker y ≡ OfWorker x). inl (cc (is))) (λ (rest : Among (map (λ e. OfWorker e) xs) (OfWorker x)). inr (among_worker xs x rest)) has

-- HISTORIES

module _ (law : EventsLaw) (found : Found) where
  -- the states after entries, and that entries are a history
  abbrev pub after : Log → List PartState
  after log = states_after node (opening_parts found) log

  abbrev pub IsLog : Log → Type 0
  IsLog log = IsHistory node (opening_parts found) log

  pub front_log : (log front rest : Log) → log ≡ front ++ rest → IsLog log → IsLog front
  front_log log front rest cut history = history_front node (opening_parts found) front rest (subst (λ (l : Log). IsLog l) cut history)

  -- each entry is enabled after those before it
  pub next_enabled : (log front rest : Log) (x : ℕ × Event) → log ≡ front ++ x ∷ rest → IsLog log → IsEnabled node (after front) x
  next_enabled log front rest x cut history = (history_rest node (opening_parts found) front (x ∷ rest) (subst (λ (l : Log). IsLog l) cut history)).0

  -- what was true at a moment is
  pub still_true : (log front rest : Log) (f : Fact) → log ≡ front ++ rest → IsLog log → IsTrueIn node (after front) f → IsTrueIn node (after log) f
  still_true log front rest f cut history was =
      let whole = subst (λ (l : Log). IsLog l) cut history in
      subst (λ (ss : List PartState). IsTrueIn node ss f) (sym (states_after-append node (opening_parts found) front rest) ∙ ap (λ (l : Log). after l) (sym cut))
      (stays_true node node_facts_stay (after front) rest f (history_rest node (opening_parts found) front rest whole) was)

  -- what a part has had stands in the history, and back
  pub stands : (log : Log) (part : ℕ) (s : PartState) (e : Event) → IsLog log → slice_get (after log) part ≡ Some s → Among (events_at s) e → Among log (part, e)
  stands log part s e history at has = own_among log part e (reversed_among (events_of part log) e (subst (λ (es : List Event). Among es e) (law found log part s history at) has))

  pub had : (log : Log) (part : ℕ) (s : PartState) (e : Event) → IsLog log → slice_get (after log) part ≡ Some s → Among log (part, e) → Among (events_at s) e
  had log part s e history at has = subst (λ (es : List Event). Among es e) (sym (law found log part s history at)) (among_reverse (events_of part log) e (among_own log part e has))

  -- who has released at a disc by the history has by the disc's state
  pub is_released : (log : Log) (d : ℕ) (s : DiscPart) (u : Transid) → IsLog log → slice_get (after log) (disc_part d) ≡ Some (Disc s) → HasReleased log u d → has_released s.events u ≡ true
  is_released log d s u history at has = released_by s.events u (among_disc s.events (Release u) (had log (disc_part d) (Disc s) (OfDisc (Release u)) history at has))

  -- who has begun by its worker's state has by the history
  begun_stands : (log : Log) (q : ℕ) (w : WorkerPart) (t : Transid) → IsLog log → slice_get (after log) q ≡ Some (Worker w) → IsOwn w t → has_begun w.events t ≡ true → HasBegun log t
  begun_stands log q w t history at own begun =
      let place : q ≡ worker_part t.worker = parts_placed found log history q (Worker w) at ∙ ap (λ (n : ℕ). n - 1) (sym own.worker) in
      subst (λ (n : ℕ). Among log (n, OfWorker (Begin t))) place
      (stands log q (Worker w) (OfWorker (Begin t)) history at (among_map (λ e. OfWorker e) w.events (Begin t) (begun_by w.events t begun)))

  begun_first_at : (log : Log) (q : ℕ) (w : WorkerPart) → IsLog log → slice_get (after log) q ≡ Some (Worker w) → HasBegunFirst w.events
  begun_first_at log q w history at = kept node IsBegunFirst first_kept (opening_parts found) log history (first_begins found) q (Worker w) at

  pub enlisted_begun : (log : Log) (t : Transid) (d : ℕ) → IsLog log → IsTrueIn node (after log) (Enlisted t d) → HasBegun log t
  enlisted_begun log t d history (q, Worker w, at, makes) = begun_stands log q w t history at makes.0 ((begun_first_at log q w history at).enlisted t d makes.1)
  enlisted_begun log t d history (q, _, at, makes) = absurd makes

  pub enlisted_stands : (log : Log) (t : Transid) (d : ℕ) → IsLog log → IsTrueIn node (after log) (Enlisted t d) → HasEnlisted log t d
  enlisted_stands log t d history (q, Worker w, at, makes) =
      let place : q ≡ worker_part t.worker = parts_placed found log history q (Worker w) at ∙ ap (λ (n : ℕ). n - 1) (sym makes.0.worker) in
      subst (λ (n : ℕ). Among log (n, OfWorker (Enlist t d))) place
      (stands log q (Worker w) (OfWorker (Enlist t d)) history at (among_map (λ e. OfWorker e) w.events (Enlist t d) (enlist_event w.events t d makes.1)))
  enlisted_stands log t d history (q, _, at, makes) = absurd makes

  -- whoever has enlisted a disc has begun
  pub enlist_begun : (log : Log) (t : Transid) (d : ℕ) → IsLog log → HasEnlisted log t d → HasBegun log t
  enlist_begun log t d history has =
      let entry : ℕ × Event = (worker_part t.worker, OfWorker (Enlist t d)) in
      let cut = among_cut log entry has in
      let begun = at_moment cut.0 (front_log log cut.0 (entry ∷ cut.1) cut.2 history) (next_enabled log cut.0 cut.1 entry cut.2 history) in
      subst (λ (l : Log). HasBegun l t) (sym cut.2) (among_left cut.0 (entry ∷ cut.1) _ begun)
    where
      at_moment : (front : Log) → IsLog front → IsEnabled node (after front) (worker_part t.worker, OfWorker (Enlist t d)) → HasBegun front t
      at_moment front h (Worker w, at, may, asks) = begun_stands front (worker_part t.worker) w t h at may.is_open.is_own may.is_open.begun
      at_moment front h (Disc w, at, may, asks) = absurd may
      at_moment front h (Trail w, at, may, asks) = absurd may
      at_moment front h (Monitor w, at, may, asks) = absurd may
      at_moment front h (Dump w, at, may, asks) = absurd may
      at_moment front h (Idle, at, may, asks) = absurd may

  pub decided_begun : (log : Log) (t : Transid) (close : Close) (discs : List ℕ) → IsLog log → IsTrueIn node (after log) (Decided t close discs) → HasBegun log t
  decided_begun log t close discs history (q, Worker w, at, makes) = begun_stands log q w t history at makes.0 ((begun_first_at log q w history at).decided t close makes.1)
  decided_begun log t close discs history (q, _, at, makes) = absurd makes

  -- an attempt is decided in one way
  pub decided_once : (log : Log) (t : Transid) (one other : Close) (discs others : List ℕ) → IsLog log → IsTrueIn node (after log) (Decided t one discs) → IsTrueIn node (after log) (Decided t other others) → one ≡ other
  decided_once log t one other discs others history (q, Worker w, at, makes) (p, Worker v, at_p, also) =
      let place : q ≡ worker_part t.worker = parts_placed found log history q (Worker w) at ∙ ap (λ (n : ℕ). n - 1) (sym makes.0.worker) in
      let place_p : p ≡ worker_part t.worker = parts_placed found log history p (Worker v) at_p ∙ ap (λ (n : ℕ). n - 1) (sym also.0.worker) in
      let both : Some (Worker w) ≡ Some (Worker v) = sym at ∙ (ap (λ (n : ℕ). slice_get (after log) n) (place ∙ sym place_p) ∙ at_p) in
      let same : Worker w ≡ Worker v = cc (both) in
      let is : w ≡ v = cc (same) in
      let how : Some one ≡ Some other = sym makes.1 ∙ (ap (λ (x : WorkerPart). decision x.events t) is ∙ also.1) in
      cc (how)
  decided_once log t one other discs others history (q, Worker w, at, makes) (p, _, at_p, also) = absurd also
  decided_once log t one other discs others history (q, _, at, makes) second = absurd makes

  -- a decision names the discs that were enlisted
  pub enlisted_decided : (log : Log) (t : Transid) (d : ℕ) (close : Close) (discs : List ℕ) → IsLog log → IsTrueIn node (after log) (Enlisted t d) → IsTrueIn node (after log) (Decided t close discs) → Among discs d
  enlisted_decided log t d close discs history (q, Worker w, at, makes) (p, Worker v, at_p, also) =
      let place : q ≡ worker_part t.worker = parts_placed found log history q (Worker w) at ∙ ap (λ (n : ℕ). n - 1) (sym makes.0.worker) in
      let place_p : p ≡ worker_part t.worker = parts_placed found log history p (Worker v) at_p ∙ ap (λ (n : ℕ). n - 1) (sym also.0.worker) in
      let both : Some (Worker w) ≡ Some (Worker v) = sym at ∙ (ap (λ (n : ℕ). slice_get (after log) n) (place ∙ sym place_p) ∙ at_p) in
      let same : Worker w ≡ Worker v = cc (both) in
      let is : w ≡ v = cc (same) in
      subst (λ (ds : List ℕ). Among ds d) also.2 (subst (λ (x : WorkerPart). Among (enlisted_discs x.events t) d) is makes.1)
  enlisted_decided log t d close discs history (q, Worker w, at, makes) (p, _, at_p, also) = absurd also
  enlisted_decided log t d close discs history (q, _, at, makes) second = absurd makes

  -- who has closed at a disc has by the disc's state
  pub is_closed : (log : Log) (d position : ℕ) (s : DiscPart) (t : Transid) → IsLog log → slice_get (after log) (disc_part d) ≡ Some (Disc s) → IsTrueIn node (after log) (Closed t d position) → has_closed s.events t ≡ true
  is_closed log d position s t history here (q, Disc u, at, makes) =
      let place : q ≡ disc_part d = parts_placed found log history q (Disc u) at ∙ ap disc_part makes.0 in
      let both : Some (Disc u) ≡ Some (Disc s) = sym at ∙ (ap (λ (n : ℕ). slice_get (after log) n) place ∙ here) in
      let same : Disc u ≡ Disc s = cc (both) in
      let is : u ≡ s = cc (same) in
      ap (λ (x : DiscPart). has_closed x.events t) (sym is) ∙ makes.1
  is_closed log d position s t history here (q, _, at, makes) = absurd makes

  -- of two attempts of one worker that have begun the earlier one began first
  pub begun_before : (log before behind : Log) (t u : Transid) → IsLog log → log ≡ before ++ (worker_part u.worker, OfWorker (Begin u)) ∷ behind → t.worker ≡ u.worker → IsBefore t u → HasBegun log t → HasBegun before t
  begun_before log before behind t u history cut worker earlier begun = ⊎_elim
      (λ (is : Among before (worker_part t.worker, OfWorker (Begin t))). is)
      (λ (rest : Among ((worker_part u.worker, OfWorker (Begin u)) ∷ behind) (worker_part t.worker, OfWorker (Begin t))). absurd (⊎_elim here later rest))
      (among_append before ((worker_part u.worker, OfWorker (Begin u)) ∷ behind) (worker_part t.worker, OfWorker (Begin t)) (subst (λ (l : Log). Among l (worker_part t.worker, OfWorker (Begin t))) cut begun))
    where
      here : ◌≡◌ {A = ℕ × Event} (worker_part u.worker, OfWorker (Begin u)) (worker_part t.worker, OfWorker (Begin t)) → ⊥
      here is =
          let event : OfWorker (Begin u) ≡ OfWorker (Begin t) = ap (λ (x : ℕ × Event). x.1) is in
          let inner : Begin u ≡ Begin t = cc (event) in
          let same : u ≡ t = cc (inner) in
          not_before t (subst (λ (x : Transid). IsBefore t x) same earlier)

      may_begin : (front : Log) → IsLog front → Among front (worker_part u.worker, OfWorker (Begin u)) → IsEnabled node (after front) (worker_part t.worker, OfWorker (Begin t)) → ⊥
      may_begin front history_ has (Worker w, at, may, asks) =
          let at_u : slice_get (after front) (worker_part u.worker) ≡ Some (Worker w) = ap (λ (n : ℕ). slice_get (after front) (worker_part n)) (sym worker) ∙ at in
          let there = among_worker w.events (Begin u) (had front (worker_part u.worker) (Worker w) (OfWorker (Begin u)) history_ at_u has) in
          not_both t u earlier (may.later u (begun_true w.events u there))
      may_begin front history_ has (Disc w, at, may, asks) = absurd may
      may_begin front history_ has (Trail w, at, may, asks) = absurd may
      may_begin front history_ has (Monitor w, at, may, asks) = absurd may
      may_begin front history_ has (Dump w, at, may, asks) = absurd may
      may_begin front history_ has (Idle, at, may, asks) = absurd may

      later : Among behind (worker_part t.worker, OfWorker (Begin t)) → ⊥
      later has =
          let parts = among_cut behind (worker_part t.worker, OfWorker (Begin t)) has in
          let entry : ℕ × Event = (worker_part u.worker, OfWorker (Begin u)) in
          let whole : log ≡ (before ++ entry ∷ parts.0) ++ (worker_part t.worker, OfWorker (Begin t)) ∷ parts.1 =
          cut ∙ (ap (λ (l : Log). before ++ entry ∷ l) parts.2 ∙ sym (append_assoc before (entry ∷ parts.0) ((worker_part t.worker, OfWorker (Begin t)) ∷ parts.1))) in
          let front = before ++ entry ∷ parts.0 in
          may_begin front (front_log log front _ whole history) (among_right before (entry ∷ parts.0) entry (inl refl)) (next_enabled log front parts.1 (worker_part t.worker, OfWorker (Begin t)) whole history)
