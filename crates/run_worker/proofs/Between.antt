-- The events of one attempt at its worker.
use Rattle.std.specs.Prelude.{◌⊎◌, IsSome, if◌then◌else◌}
use Rattle.std.specs.Option.{option_map}
use Rattle.std.proofs.Common.{◌≡◌, inl, inr, ⊎_elim, ℕ, Bool, true, false, List, [], ◌∷◌, ◌++◌, map, Option, Some, None, slice_get, refl, ap, sym, ◌∙◌, subst}
use Rattle.chronicle.specs.Histories.{events_of, states_after}
use Rattle.chronicle.specs.Seats.{Sight, own_events, part_state}
use Rattle.chronicle.proofs.Facts.{own_events_of, state_of_part}
use Rattle.chronicle.proofs.States.{state_after, state_is_own}
use Rattle.tmf_model.specs.declared.script.Close.{Close}
use Rattle.tmf_model.specs.declared.script.Close.TheVariants.{Commit, Abort}
use Rattle.tmf_model.specs.declared.transid.Transid.{Transid}
use Rattle.trail_files.specs.MonitorOrder.{is_same_transid}
use Rattle.node_machine.specs.Node.{node, state_with}
use Rattle.node_machine.specs.Parts.{PartState, WorkerPart}
use Rattle.node_machine.specs.Parts.PartState.{Worker}
use Rattle.node_machine.specs.Same.{Among}
use Rattle.node_machine.specs.SameLaws.{case_true, among_right, same_self}
use Rattle.node_machine.specs.Worker.{decision, enlisted_discs, has_begun, has_finished}
use Rattle.node_machine.specs.declared.event.Event.{Event}
use Rattle.node_machine.specs.declared.event.Event.TheVariants.{OfWorker}
use Rattle.node_machine.specs.declared.event.WorkerEvent.{WorkerEvent}
use Rattle.node_machine.specs.declared.event.WorkerEvent.TheVariants.{Begin, Enlist, Finish, End, Quit}

-- THE STATE BEHIND MORE EVENTS

-- the newest first
abbrev pub pushed : List WorkerEvent → List WorkerEvent → List WorkerEvent
pushed [] events = events
pushed (e ∷ more) events = pushed more (e ∷ events)

pub pushed_append : (more a b : List WorkerEvent) → pushed more (a ++ b) ≡ pushed more a ++ b
pushed_append [] a b = refl
pushed_append (e ∷ more) a b = pushed_append more (e ∷ a) b

pub pushed_is : (more events : List WorkerEvent) → pushed more events ≡ pushed more [] ++ events
pushed_is more events = pushed_append more [] events

pub pushed_last : (more : List WorkerEvent) (e : WorkerEvent) (events : List WorkerEvent) → pushed (more ++ e ∷ []) events ≡ e ∷ pushed more events
pushed_last [] e events = refl
pushed_last (x ∷ more) e events = pushed_last more e (x ∷ events)

pub among_pushed : (more events : List WorkerEvent) (e : WorkerEvent) → Among (pushed more events) e → Among more e ⊎ Among events e
among_pushed [] events e h = inr h
among_pushed (x ∷ more) events e h =
    ⊎_elim
    (λ (l : Among more e). inl (inr l))
    (λ (r : Among (x ∷ events) e). ⊎_elim (λ (is : x ≡ e). inl (inl is)) (λ (old : Among events e). inr old) r)
    (among_pushed more (x ∷ events) e h)

worker_after : (more : List WorkerEvent) (s : WorkerPart) → state_after state_with (Worker s) (map (λ (e : WorkerEvent). OfWorker e) more) ≡ Worker (record s { events = pushed more s.events })
worker_after [] s = refl
worker_after (e ∷ more) s = worker_after more (record s { events = e ∷ s.events })

after_append : (s : PartState) (a b : List Event) → state_after state_with s (a ++ b) ≡ state_after state_with (state_after state_with s a) b
after_append s [] b = refl
after_append s (e ∷ a) b = after_append (state_with s e) a b

after_both : (o : Option PartState) (a b : List Event) → option_map (λ (s : PartState). state_after state_with s (a ++ b)) o ≡ option_map (λ (s : PartState). state_after state_with s b) (option_map (λ (s : PartState). state_after state_with s a) o)
after_both None a b = refl
after_both (Some s) a b = ap (λ (x : PartState). Some x) (after_append s a b)

-- the state of a worker that has had these events more
pub worker_behind : (opening : List PartState) (v w : Sight Event) (p : ℕ) (s : WorkerPart) (more : List WorkerEvent) → v.part ≡ Some p → w.part ≡ v.part → own_events w ≡ own_events v ++ map (λ (e : WorkerEvent). OfWorker e) more
    → part_state node opening v ≡ Some (Worker s) → part_state node opening w ≡ Some (Worker (record s { events = pushed more s.events }))
worker_behind opening v w p s more is same own at =
    let added : List Event = map (λ (e : WorkerEvent). OfWorker e) more in
    let here : slice_get (states_after node opening v.seen) p ≡ Some (Worker s) = sym (state_of_part node opening v p is) ∙ at in
    let events : events_of p w.seen ≡ events_of p v.seen ++ added = sym (own_events_of w p (same ∙ is)) ∙ own ∙ ap (λ (l : List Event). l ++ added) (own_events_of v p is) in
    state_of_part node opening w p (same ∙ is)
    ∙ state_is_own node p opening w.seen
    ∙ ap (λ (l : List Event). option_map (λ (x : PartState). state_after state_with x l) (slice_get opening p)) events
    ∙ after_both (slice_get opening p) (events_of p v.seen) added
    ∙ ap (λ (o : Option PartState). option_map (λ (x : PartState). state_after state_with x added) o) (sym (state_is_own node p opening v.seen) ∙ here)
    ∙ ap (λ (x : PartState). Some x) (worker_after more s)

-- WHAT EVENTS SAY OF AN ATTEMPT

pub ended_so : (t : Transid) (events : List WorkerEvent) → decision (End t ∷ events) t ≡ Some Commit
ended_so t events = case_true (is_same_transid t t) (Some Commit) (decision events t) (same_self t)

pub quit_so : (t : Transid) (events : List WorkerEvent) → decision (Quit t ∷ events) t ≡ Some Abort
quit_so t events = case_true (is_same_transid t t) (Some Abort) (decision events t) (same_self t)

if_so : (b : Bool) → (if b then true else true) ≡ true
if_so true = refl
if_so false = refl

if_or : (b c : Bool) → c ≡ true → (if b then true else c) ≡ true
if_or true c h = refl
if_or false c h = h

pub begun_of : (events : List WorkerEvent) (t : Transid) → Among events (Begin t) → has_begun events t ≡ true
begun_of [] t h = absurd h
begun_of (Begin u ∷ events) t h = ⊎_elim
    (λ (is : Begin u ≡ Begin t). let same : u ≡ t = cc (is) in case_true (is_same_transid u t) true (has_begun events t) (ap (λ (x : Transid). is_same_transid x t) same ∙ same_self t))
    (λ (later : Among events (Begin t)). if_or (is_same_transid u t) (has_begun events t) (begun_of events t later))
    h
begun_of (Enlist u d ∷ events) t h = ⊎_elim (λ (is : Enlist u d ≡ Begin t). absurd (cc (is))) (λ (later : Among events (Begin t)). begun_of events t later) h
begun_of (Finish u ∷ events) t h = ⊎_elim (λ (is : Finish u ≡ Begin t). absurd (cc (is))) (λ (later : Among events (Begin t)). begun_of events t later) h
begun_of (End u ∷ events) t h = ⊎_elim (λ (is : End u ≡ Begin t). absurd (cc (is))) (λ (later : Among events (Begin t)). begun_of events t later) h
begun_of (Quit u ∷ events) t h = ⊎_elim (λ (is : Quit u ≡ Begin t). absurd (cc (is))) (λ (later : Among events (Begin t)). begun_of events t later) h

pub finished_of : (events : List WorkerEvent) (t : Transid) → Among events (Finish t) → has_finished events t ≡ true
finished_of [] t h = absurd h
finished_of (Finish u ∷ events) t h = ⊎_elim
    (λ (is : Finish u ≡ Finish t). let same : u ≡ t = cc (is) in case_true (is_same_transid u t) true (has_finished events t) (ap (λ (x : Transid). is_same_transid x t) same ∙ same_self t))
    (λ (later : Among events (Finish t)). if_or (is_same_transid u t) (has_finished events t) (finished_of events t later))
    h
finished_of (Enlist u d ∷ events) t h = ⊎_elim (λ (is : Enlist u d ≡ Finish t). absurd (cc (is))) (λ (later : Among events (Finish t)). finished_of events t later) h
finished_of (Begin u ∷ events) t h = ⊎_elim (λ (is : Begin u ≡ Finish t). absurd (cc (is))) (λ (later : Among events (Finish t)). finished_of events t later) h
finished_of (End u ∷ events) t h = ⊎_elim (λ (is : End u ≡ Finish t). absurd (cc (is))) (λ (later : Among events (Finish t)). finished_of events t later) h
finished_of (Quit u ∷ events) t h = ⊎_elim (λ (is : Quit u ≡ Finish t). absurd (cc (is))) (λ (later : Among events (Finish t)). finished_of events t later) h

-- an event that decides it
abbrev Decides : Transid → WorkerEvent → Type 0
Decides t e = (e ≡ End t) ⊎ (e ≡ Quit t)

if_some : (b : Bool) (c : Close) (o : Option Close) → IsSome o → IsSome (if b then Some c else o)
if_some true c o h = refl
if_some false c o h = h

some_so : (o : Option Close) (c : Close) → o ≡ Some c → IsSome o
some_so o c is = subst (λ (x : Option Close). IsSome x) (sym is) refl

pub decided_of : (events : List WorkerEvent) (t : Transid) (e : WorkerEvent) → Decides t e → Among events e → IsSome (decision events t)
decided_of [] t e d h = absurd h
decided_of (x ∷ events) t e d h = ⊎_elim
    (λ (is : x ≡ e). here x (⊎_elim (λ (a : e ≡ End t). inl (is ∙ a)) (λ (b : e ≡ Quit t). inr (is ∙ b)) d))
    (λ (later : Among events e). there x (decided_of events t e d later))
    h
  where
    here : (y : WorkerEvent) → Decides t y → IsSome (decision (y ∷ events) t)
    here y (inl is) = subst (λ (z : WorkerEvent). IsSome (decision (z ∷ events) t)) (sym is) (some_so (decision (End t ∷ events) t) Commit (ended_so t events))
    here y (inr is) = subst (λ (z : WorkerEvent). IsSome (decision (z ∷ events) t)) (sym is) (some_so (decision (Quit t ∷ events) t) Abort (quit_so t events))

    there : (y : WorkerEvent) → IsSome (decision events t) → IsSome (decision (y ∷ events) t)
    there (Begin u) some = some
    there (Enlist u disc) some = some
    there (Finish u) some = some
    there (End u) some = if_some (is_same_transid u t) Commit (decision events t) some
    there (Quit u) some = if_some (is_same_transid u t) Abort (decision events t) some

-- what a list has, it has with one more at its end
if_last : (b : Bool) (l : List ℕ) (d x : ℕ) → Among l x → Among (if b then l ++ d ∷ [] else l) x
if_last true l d x h = among_front l (d ∷ []) x h where
  among_front : (xs ys : List ℕ) (y : ℕ) → Among xs y → Among (xs ++ ys) y
  among_front [] ys y h = absurd h
  among_front (z ∷ xs) ys y h = ⊎_elim (λ (e : z ≡ y). inl e) (λ (r : Among xs y). inr (among_front xs ys y r)) h
if_last false l d x h = h

pub enlisted_of : (events : List WorkerEvent) (t : Transid) (disc : ℕ) → Among events (Enlist t disc) → Among (enlisted_discs events t) disc
enlisted_of [] t disc h = absurd h
enlisted_of (Enlist u d ∷ events) t disc h = ⊎_elim
    (λ (is : Enlist u d ≡ Enlist t disc).
    let same : u ≡ t = cc (is) in
    let which : d ≡ disc = cc (is) in
    subst (λ (l : List ℕ). Among l disc) (sym (case_true (is_same_transid u t) (enlisted_discs events t ++ d ∷ []) (enlisted_discs events t) (ap (λ (x : Transid). is_same_transid x t) same ∙ same_self t)))
    (among_right (enlisted_discs events t) (d ∷ []) disc (inl which)))
    (λ (later : Among events (Enlist t disc)). if_last (is_same_transid u t) (enlisted_discs events t) d disc (enlisted_of events t disc later))
    h
enlisted_of (Begin u ∷ events) t disc h = ⊎_elim (λ (is : Begin u ≡ Enlist t disc). absurd (cc (is))) (λ (later : Among events (Enlist t disc)). enlisted_of events t disc later) h
enlisted_of (Finish u ∷ events) t disc h = ⊎_elim (λ (is : Finish u ≡ Enlist t disc). absurd (cc (is))) (λ (later : Among events (Enlist t disc)). enlisted_of events t disc later) h
enlisted_of (End u ∷ events) t disc h = ⊎_elim (λ (is : End u ≡ Enlist t disc). absurd (cc (is))) (λ (later : Among events (Enlist t disc)). enlisted_of events t disc later) h
enlisted_of (Quit u ∷ events) t disc h = ⊎_elim (λ (is : Quit u ≡ Enlist t disc). absurd (cc (is))) (λ (later : Among events (Enlist t disc)). enlisted_of events t disc later) h
