-- What is given of the run of one worker; and that each record of the monitor trail is of an attempt that has begun.
use Rattle.std.specs.Prelude.{◌≡◌, ℕ, zero, suc, ◌<◌, Bool, true, false, if◌then◌else◌, List, [], ◌∷◌, ◌++◌, length, Option, Some, None, drop, slice_get, take}
use Rattle.std.specs.List.{cons_option, filter_map}
use Rattle.std.proofs.Common.{refl, ap, sym, ◌∙◌, subst, arith, append_assoc, append-nil, ⊎_elim, inl, inr}
use Rattle.std.proofs.lemmas.List.{take-append-drop}
use Rattle.chronicle.proofs.States.{history_rest, state_after, state_is_own, states_after-append}
use Rattle.chronicle.specs.Histories.{IsEnabled, IsHistory, IsTrueIn, events_of, states_after}
use Rattle.tmf_model.specs.declared.script.Item.{Item}
use Rattle.tmf_model.specs.declared.script.Phase.{Phase}
use Rattle.tmf_model.specs.declared.transid.Transid.{Transid}
use Rattle.trail_files.specs.MonitorOrder.{is_same_transid}
use Rattle.trail_files.specs.declared.damage.Damage.{Damage}
use Rattle.trail_files.specs.declared.monitor_record.MonitorRecord.{MonitorRecord}
use Rattle.trail_files.specs.declared.monitor_record.MonitorRecord.TheVariants.{Abort, Commit, Start}
use Rattle.node_machine.specs.Deeds.{EventsLaw, HasBegun, Log, turn_of, turns_of}
use Rattle.node_machine.specs.Monitor.{IsBacked, ended_by, offered_car, recorded}
use Rattle.node_machine.specs.Node.{Asks, IsAllowed, node, state_with}
use Rattle.node_machine.specs.Opening.{Found, monitor_at, monitor_part, opening_parts}
use Rattle.node_machine.specs.Parts.{Fact, MonitorPart, PartState}
use Rattle.node_machine.specs.Parts.Fact.{Recorded}
use Rattle.node_machine.specs.Parts.PartState.{Disc, Dump, Idle, Monitor, Trail, Worker}
use Rattle.node_machine.specs.Same.{Among}
use Rattle.node_machine.specs.SameLaws.{among_append, among_left, same_is}
use Rattle.node_machine.specs.declared.event.Cause.{Cause}
use Rattle.node_machine.specs.declared.event.Cause.TheVariants.{Full, Refused}
use Rattle.node_machine.specs.declared.event.DiscEvent.TheVariants.{Close, Draw, Drawn, Failed as DiscFailed, Lock, Low, Lowered, Raise, Read, Release, Start as StartDump, Turn, Undo, Write}
use Rattle.node_machine.specs.declared.event.Event.{Event}
use Rattle.node_machine.specs.declared.event.Event.TheVariants.{OfDisc, OfDump, OfMonitor, OfTrail, OfWorker}
use Rattle.node_machine.specs.declared.event.MonitorEvent.{MonitorEvent}
use Rattle.node_machine.specs.declared.event.MonitorEvent.TheVariants.{Failed, Land, Offer}
use Rattle.node_machine.proofs.Kept.{kept}
use Rattle.node_machine.proofs.Placed.{parts_placed}
use Rattle.run_outcomes.proofs.PartKinds.{kind_of, same_kind}
use Rattle.run_outcomes.specs.Ends.{monitor_events, next_at}
use Rattle.run_outcomes.specs.Outcomes.{AreOutcomesOf, is_last}
use Rattle.run_outcomes.specs.Told.{Account, AreTold, IsRecordOf}
use Rattle.run_outcomes.specs.declared.outcome.Outcome.{Outcome}
use Rattle.single_law.proofs.Moments.{among_cut, among_map, decided_begun, enlisted_begun, front_log, next_enabled, stands}

-- THE RUN

module _ (phase : Phase) (items : List Item) (outcomes : List Outcome) (found : Found) (log : Log) (broken : ℕ → Damage → Type 0) where
  abbrev pub states : List PartState
  states = states_after node (opening_parts found) log

  abbrev pub landed : List MonitorRecord
  landed = recorded (monitor_events states)

  abbrev pub offered : List MonitorRecord
  offered = offered_car (monitor_events states)

  abbrev pub account : Account
  account = record { config = found.config; phase = phase; epoch = found.epoch; log = log; opened = found.places; landed = landed; next = next_at states; broken = broken }

  -- A run of one worker, and how many outcomes there are of which none is the last that it carries out.
  pub record IsGiven : Type 0 where
    pub count : ℕ
    pub one : phase.workers ≡ items ∷ []
    pub history : IsHistory node (opening_parts found) log
    pub attempts : AreOutcomesOf phase found.epoch outcomes
    pub told : AreTold account outcomes
    pub records : (item : MonitorRecord) → Among (landed ++ offered) item → IsRecordOf outcomes item
    pub goes : (outcome : Outcome) → Among (take count outcomes) outcome → is_last outcome.told ≡ false

pub among_at : {A : Type 0} (xs : List A) (n : ℕ) (x : A) → slice_get xs n ≡ Some x → Among xs x
among_at [] n x at = absurd (cc (at))
among_at (y ∷ xs) zero x at = inl (cc (at))
among_at (y ∷ xs) (suc n) x at = inr (among_at xs n x at)

-- what is among the first so many is in the list
pub front_among : {A : Type 0} (n : ℕ) (xs : List A) (x : A) → Among (take n xs) x → Among xs x
front_among n xs x there = subst (λ ys. Among ys x) (take-append-drop n xs) (among_left (take n xs) (drop n xs) x there)

-- what stands up to one of the first so many is among them
pub among_front : {A : Type 0} (count : ℕ) (xs ys : List A) (y x : A) → length xs < count → Among (xs ++ y ∷ []) x → Among (take count (xs ++ y ∷ ys)) x
among_front zero xs ys y x lt has = absurd (omega (arith, lt))
among_front (suc count) [] ys y x lt has = ⊎_elim (λ (is : y ≡ x). inl is) (λ (none : ⊥). absurd none) has
among_front (suc count) (z ∷ xs) ys y x lt has = ⊎_elim (λ (is : z ≡ x). inl is) (λ (more : Among (xs ++ y ∷ []) x). inr (among_front count xs ys y x (omega (arith, lt)) more)) has

-- what is among the first so many has a number below that
pub front_number : {A : Type 0} (count : ℕ) (xs : List A) (x : A) → Among (take count xs) x → (n : ℕ) × (n < count) × (slice_get xs n ≡ Some x)
front_number zero [] x has = absurd has
front_number (suc count) [] x has = absurd has
front_number zero (y ∷ xs) x has = absurd has
front_number (suc count) (y ∷ xs) x has = ⊎_elim
    (λ (is : y ≡ x). (zero, omega arith, ap (λ z. Some z) is))
    (λ (more : Among (take count xs) x). (let rest = front_number count xs x more in (suc rest.0, omega (arith, rest.1), rest.2)))
    has

-- a list around the item of a number
pub list_around : {A : Type 0} (xs : List A) (n : ℕ) (x : A) → slice_get xs n ≡ Some x → xs ≡ take n xs ++ x ∷ drop (suc n) xs
list_around [] n x at = absurd (cc (at))
list_around (y ∷ xs) zero x at = (let same : y ≡ x = cc (at) in ap (λ z. z ∷ xs) same)
list_around (y ∷ xs) (suc n) x at = ap (λ zs. y ∷ zs) (list_around xs n x at)

-- THE MONITOR'S PART

is_monitor : (s : PartState) → kind_of s ≡ 3 → (m : MonitorPart) × (s ≡ Monitor m)
is_monitor (Monitor m) kind = (m, refl)
is_monitor (Worker s) kind = absurd (omega (arith, kind))
is_monitor (Disc s) kind = absurd (omega (arith, kind))
is_monitor (Trail s) kind = absurd (omega (arith, kind))
is_monitor (Dump s) kind = absurd (omega (arith, kind))
is_monitor Idle kind = absurd (omega (arith, kind))

-- behind entries the monitor's part is one
pub monitor_there : (found : Found) (log : Log) → (m : MonitorPart) × (slice_get (states_after node (opening_parts found) log) monitor_part ≡ Some (Monitor m))
monitor_there found log =
    let s = state_after state_with (monitor_at found) (events_of monitor_part log) in
    let own : slice_get (states_after node (opening_parts found) log) monitor_part ≡ Some s = state_is_own node monitor_part (opening_parts found) log in
    let opened = same_kind (opening_parts found) log monitor_part s own in
    let same : opened.0 ≡ monitor_at found = (let both : Some opened.0 ≡ Some (monitor_at found) = sym opened.1 in cc (both)) in
    let monitor = is_monitor s (opened.2 ∙ ap kind_of same) in
    (monitor.0, own ∙ ap (λ (p : PartState). Some p) monitor.1)

-- WHAT HAS LANDED STAYS

-- these records stand first
abbrev BeginsWith : List MonitorRecord → ℕ → PartState → Type 0
BeginsWith base q (Monitor s) = q ≡ monitor_part → (more : List MonitorRecord) × (base ++ more ≡ recorded s.events)
BeginsWith base q _ = Unit {0}

begins_next : (base : List MonitorRecord) (s : MonitorPart) (e : MonitorEvent) → (more : List MonitorRecord) × (base ++ more ≡ recorded s.events)
    → (more : List MonitorRecord) × (base ++ more ≡ recorded (e ∷ s.events))
begins_next base s (Offer records) was = was
begins_next base s Land was = (was.0 ++ offered_car s.events, sym (append_assoc base was.0 (offered_car s.events)) ∙ ap (λ (l : List MonitorRecord). l ++ offered_car s.events) was.1)
begins_next base s (Failed by) was = was

begins_kept : (base : List MonitorRecord) (q : ℕ) (s : PartState) (e : Event) → IsAllowed s e → BeginsWith base q s → BeginsWith base q (state_with s e)
begins_kept base q (Worker s) (OfWorker e) may is = tt
begins_kept base q (Disc s) (OfDisc e) may is = tt
begins_kept base q (Trail s) (OfTrail e) may is = tt
begins_kept base q (Monitor s) (OfMonitor e) may is = λ here. begins_next base s e (is here)
begins_kept base q (Dump s) (OfDump e) may is = tt
begins_kept base q _ _ may is = absurd may

-- what has landed by a moment stands first of all that has landed
pub landed_first : (found : Found) (log front rest : Log) (s m : MonitorPart) → log ≡ front ++ rest → IsHistory node (opening_parts found) log → slice_get (states_after node (opening_parts found) front) monitor_part ≡ Some (Monitor s)
    → slice_get (states_after node (opening_parts found) log) monitor_part ≡ Some (Monitor m) → (more : List MonitorRecord) × (recorded s.events ++ more ≡ recorded m.events)
landed_first found log front rest s m cut history at_s at_m =
    kept node (BeginsWith (recorded s.events)) (begins_kept (recorded s.events)) (states_after node (opening_parts found) front) rest
    (history_rest node (opening_parts found) front rest (subst (λ (l : Log). IsHistory node (opening_parts found) l) cut history)) here monitor_part (Monitor m)
    (ap (λ (ss : List PartState). slice_get ss monitor_part) (sym (states_after-append node (opening_parts found) front rest) ∙ ap (λ (l : Log). states_after node (opening_parts found) l) (sym cut)) ∙ at_m) refl
  where
    here : (q : ℕ) (u : PartState) → slice_get (states_after node (opening_parts found) front) q ≡ Some u → BeginsWith (recorded s.events) q u
    here q (Monitor u) at = λ is.
        let both : Some (Monitor u) ≡ Some (Monitor s) = sym at ∙ (ap (λ (n : ℕ). slice_get (states_after node (opening_parts found) front) n) is ∙ at_s) in
        let inner : Monitor u ≡ Monitor s = cc (both) in
        let one : u ≡ s = cc (inner) in
        ([], append-nil (recorded s.events) ∙ ap (λ (v : MonitorPart). recorded v.events) (sym one))
    here q (Worker u) at = tt
    here q (Disc u) at = tt
    here q (Trail u) at = tt
    here q (Dump u) at = tt
    here q Idle at = tt

-- a record that is true to have landed is among those that have
pub landed_true : (found : Found) (log : Log) (m : MonitorPart) (item : MonitorRecord) (place : ℕ) → IsHistory node (opening_parts found) log → slice_get (states_after node (opening_parts found) log) monitor_part ≡ Some (Monitor m)
    → IsTrueIn node (states_after node (opening_parts found) log) (Recorded item place) → Among (recorded m.events) item
landed_true found log m item place history at (q, Monitor s, at_s, makes) =
    let both : Some (Monitor s) ≡ Some (Monitor m) = sym at_s ∙ (ap (λ (n : ℕ). slice_get (states_after node (opening_parts found) log) n) (parts_placed found log history q (Monitor s) at_s) ∙ at) in
    let inner : Monitor s ≡ Monitor m = cc (both) in
    let one : s ≡ m = cc (inner) in
    subst (λ (v : MonitorPart). Among (recorded v.events) item) one (among_at (recorded s.events) makes.index item makes.at)
landed_true found log m item place history at (q, _, at_s, makes) = absurd makes

-- RECORDS WERE OFFERED

-- a record of the car that is being written, or one that has landed, was offered
abbrev WasOffered : List MonitorEvent → MonitorRecord → Type 0
WasOffered events item = (records : List MonitorRecord) × Among events (Offer records) × Among records item

later_offer : (e : MonitorEvent) (events : List MonitorEvent) (item : MonitorRecord) → WasOffered events item → WasOffered (e ∷ events) item
later_offer e events item was = (was.0, inr was.1, was.2)

car_offered : (events : List MonitorEvent) (item : MonitorRecord) → Among (offered_car events) item → WasOffered events item
car_offered [] item has = absurd has
car_offered (Offer records ∷ events) item has = (records, inl refl, has)
car_offered (Land ∷ events) item has = absurd has
car_offered (Failed by ∷ events) item has = later_offer (Failed by) events item (car_offered events item has)

landed_offered : (events : List MonitorEvent) (item : MonitorRecord) → Among (recorded events) item → WasOffered events item
landed_offered [] item has = absurd has
landed_offered (Offer records ∷ events) item has = later_offer (Offer records) events item (landed_offered events item has)
landed_offered (Land ∷ events) item has = later_offer Land events item (⊎_elim
    (λ (landed : Among (recorded events) item). landed_offered events item landed)
    (λ (last : Among (offered_car events) item). car_offered events item last)
    (among_append (recorded events) (offered_car events) item has))
landed_offered (Failed by ∷ events) item has = later_offer (Failed by) events item (landed_offered events item has)

was_offered : (events : List MonitorEvent) (item : MonitorRecord) → Among (recorded events ++ offered_car events) item → WasOffered events item
was_offered events item has = ⊎_elim (λ (there : Among (recorded events) item). landed_offered events item there) (λ (car : Among (offered_car events) item). car_offered events item car)
    (among_append (recorded events) (offered_car events) item has)

-- what an offer asks of the true facts
offer_asks : (true_ : Fact → Type 0) (s : PartState) (records : List MonitorRecord) → IsAllowed s (OfMonitor (Offer records)) → Asks true_ s (OfMonitor (Offer records))
    → (item : MonitorRecord) → Among records item → IsBacked true_ item
offer_asks true_ (Worker s) records may asks = absurd may
offer_asks true_ (Disc s) records may asks = absurd may
offer_asks true_ (Trail s) records may asks = absurd may
offer_asks true_ (Monitor s) records may asks = asks
offer_asks true_ (Dump s) records may asks = absurd may
offer_asks true_ Idle records may asks = absurd may

-- the moment at which a record was offered, and what it was backed by
pub record WasBacked (found : Found) (log : Log) (item : MonitorRecord) : Type 0 where
  pub front : Log
  pub rest : Log
  pub cut : log ≡ front ++ rest
  pub backed : IsBacked (IsTrueIn node (states_after node (opening_parts found) front)) item

pub was_backed : EventsLaw → (found : Found) (log : Log) (s : MonitorPart) (item : MonitorRecord) → IsHistory node (opening_parts found) log
    → slice_get (states_after node (opening_parts found) log) monitor_part ≡ Some (Monitor s) → Among (recorded s.events ++ offered_car s.events) item → WasBacked found log item
was_backed law found log s item history at has =
    let was = was_offered s.events item has in
    let entry : ℕ × Event = (monitor_part, OfMonitor (Offer was.0)) in
    let there = stands law found log monitor_part (Monitor s) (OfMonitor (Offer was.0)) history at (among_map (λ e. OfMonitor e) s.events (Offer was.0) was.1) in
    let cut = among_cut log entry there in
    let enabled = next_enabled law found log cut.0 cut.1 entry cut.2 history in
    record { front = cut.0; rest = entry ∷ cut.1; cut = cut.2; backed = offer_asks (IsTrueIn node (states_after node (opening_parts found) cut.0)) enabled.0 was.0 enabled.2 enabled.3 item was.2 }

backed_begun : EventsLaw → (found : Found) (front : Log) (item : MonitorRecord) (t : Transid) → IsHistory node (opening_parts found) front
    → IsBacked (IsTrueIn node (states_after node (opening_parts found) front)) item → ended_by item ≡ Some t → HasBegun front t
backed_begun law found front (Start epoch) t history backed is = absurd backed
backed_begun law found front (Commit u) t history backed is = (let one : u ≡ t = cc (is) in subst (λ (v : Transid). HasBegun front v) one (decided_begun law found front u _ backed.0 history backed.1))
backed_begun law found front (Abort u) t history backed is = (let one : u ≡ t = cc (is) in subst (λ (v : Transid). HasBegun front v) one (decided_begun law found front u _ backed.0 history backed.1))

-- each record is of an attempt that has begun
pub recorded_begun : EventsLaw → (found : Found) (log : Log) (s : MonitorPart) (item : MonitorRecord) (t : Transid) → IsHistory node (opening_parts found) log
    → slice_get (states_after node (opening_parts found) log) monitor_part ≡ Some (Monitor s) → Among (recorded s.events ++ offered_car s.events) item → ended_by item ≡ Some t → HasBegun log t
recorded_begun law found log s item t history at has is =
    let was = was_backed law found log s item history at has in
    let begun = backed_begun law found was.front item t (front_log law found log was.front was.rest was.cut history) was.backed is in
    subst (λ (l : Log). HasBegun l t) (sym was.cut) (among_left was.front was.rest _ begun)

-- TURNS

given_one : {A B : Type 0} (f : A → Option B) (z : A) (xs : List A) (y : B) → (Among (filter_map f xs) y → (x : A) × Among xs x × (f x ≡ Some y)) → (o : Option B) → f z ≡ o
    → Among (cons_option o (filter_map f xs)) y → (x : A) × Among (z ∷ xs) x × (f x ≡ Some y)
given_one f z xs y rest None is has = (let r = rest has in (r.0, inr r.1, r.2))
given_one f z xs y rest (Some w) is has = ⊎_elim (λ (same : w ≡ y). (z, inl refl, is ∙ ap (λ v. Some v) same)) (λ (later : Among (filter_map f xs) y). let r = rest later in (r.0, inr r.1, r.2)) has

-- what a test gives of one of the items of a list it gives of the list
pub among_given : {A B : Type 0} (f : A → Option B) (xs : List A) (x : A) (y : B) → Among xs x → f x ≡ Some y → Among (filter_map f xs) y
among_given f [] x y has is = has
among_given {A} {B} f (z ∷ xs) x y has is = ⊎_elim
    (λ (same : z ≡ x). subst (λ (o : Option B). Among (cons_option o (filter_map f xs)) y) (sym (ap f same ∙ is)) (inl refl))
    (λ (later : Among xs x). by_case (f z) (among_given f xs x y later is))
    has
  where
    by_case : (o : Option B) → Among (filter_map f xs) y → Among (cons_option o (filter_map f xs)) y
    by_case None there = there
    by_case (Some w) there = inr there

-- what a test gives of a list it gives of one of its items
pub given_by : {A B : Type 0} (f : A → Option B) (xs : List A) (y : B) → Among (filter_map f xs) y → (x : A) × Among xs x × (f x ≡ Some y)
given_by f [] y has = absurd has
given_by f (z ∷ xs) y has = given_one f z xs y (given_by f xs y) (f z) refl has

turn_is : (t : Transid) (e : Event) (cause : Cause) → turn_of t e ≡ Some cause → e ≡ OfDisc (Turn t cause)
turn_is t (OfDisc (Turn u other)) cause is = by_case (is_same_transid t u) refl is where
  by_case : (b : Bool) → is_same_transid t u ≡ b → (if b then Some other else None) ≡ Some cause → OfDisc (Turn u other) ≡ OfDisc (Turn t cause)
  by_case true same is = (let one = same_is t u same in let two : other ≡ cause = cc (is) in λ i. OfDisc (Turn (sym one i) (two i)))
  by_case false differs is = absurd (cc (is))
turn_is t (OfDisc (Write r op)) cause is = absurd (cc (is))
turn_is t (OfDisc (Read u file key value)) cause is = absurd (cc (is))
turn_is t (OfDisc (Lock u file)) cause is = absurd (cc (is))
turn_is t (OfDisc (Undo r)) cause is = absurd (cc (is))
turn_is t (OfDisc (Close u)) cause is = absurd (cc (is))
turn_is t (OfDisc (Release u)) cause is = absurd (cc (is))
turn_is t (OfDisc (Draw file block position)) cause is = absurd (cc (is))
turn_is t (OfDisc (Drawn file block)) cause is = absurd (cc (is))
turn_is t (OfDisc (Low position by)) cause is = absurd (cc (is))
turn_is t (OfDisc Lowered) cause is = absurd (cc (is))
turn_is t (OfDisc (StartDump number start item)) cause is = absurd (cc (is))
turn_is t (OfDisc (Raise number rest)) cause is = absurd (cc (is))
turn_is t (OfDisc (DiscFailed by)) cause is = absurd (cc (is))
turn_is t (OfWorker e) cause is = absurd (cc (is))
turn_is t (OfTrail e) cause is = absurd (cc (is))
turn_is t (OfMonitor e) cause is = absurd (cc (is))
turn_is t (OfDump e) cause is = absurd (cc (is))

-- the entry by which an attempt was turned away, and the moment before it
pub record WasTurned (log : Log) (t : Transid) (cause : Cause) : Type 0 where
  pub front : Log
  pub rest : Log
  pub part : ℕ
  pub cut : log ≡ front ++ (part, OfDisc (Turn t cause)) ∷ rest

pub was_turned : (log : Log) (t : Transid) (cause : Cause) → turns_of t log ≡ cause ∷ [] → WasTurned log t cause
was_turned log t cause turn =
    let by = given_by (λ (entry : ℕ × Event). turn_of t entry.1) log cause (subst (λ (l : List Cause). Among l cause) (sym turn) (inl refl)) in
    let is = turn_is t by.0.1 cause by.2 in
    let whole : ◌≡◌ {A = ℕ × Event} by.0 (by.0.0, OfDisc (Turn t cause)) = λ i. (by.0.0, is i) in
    let cut = among_cut log (by.0.0, OfDisc (Turn t cause)) (subst (λ (x : ℕ × Event). Among log x) whole by.1) in
    record { front = cut.0; rest = cut.1; part = by.0.0; cut = cut.2 }

-- what asks that its transaction has enlisted the disc
abbrev pub IsTakingTurn : Cause → Type 0
IsTakingTurn (Full step) = Unit {0}
IsTakingTurn (Refused step reason) = Unit {0}
IsTakingTurn _ = ⊥

taking_begun : EventsLaw → (found : Found) (front : Log) (part : ℕ) (t : Transid) (cause : Cause) → IsTakingTurn cause → IsHistory node (opening_parts found) front
    → IsEnabled node (states_after node (opening_parts found) front) (part, OfDisc (Turn t cause)) → HasBegun front t
taking_begun law found front part t (Full step) takes history (Disc s, at, may, asks) = enlisted_begun law found front t s.number history asks
taking_begun law found front part t (Refused step reason) takes history (Disc s, at, may, asks) = enlisted_begun law found front t s.number history asks
taking_begun law found front part t cause takes history (Disc s, at, may, asks) = absurd takes
taking_begun law found front part t cause takes history (_, at, may, asks) = absurd may

-- whoever was turned away for its operation or for want of room has begun
pub turned_begun : EventsLaw → (found : Found) (log : Log) (t : Transid) (cause : Cause) → IsTakingTurn cause → IsHistory node (opening_parts found) log → turns_of t log ≡ cause ∷ [] → HasBegun log t
turned_begun law found log t cause takes history turn =
    let was = was_turned log t cause turn in
    let entry : ℕ × Event = (was.part, OfDisc (Turn t cause)) in
    let begun = taking_begun law found was.front was.part t cause takes (front_log law found log was.front (entry ∷ was.rest) was.cut history) (next_enabled law found log was.front was.rest entry was.cut history) in
    subst (λ (l : Log). HasBegun l t) (sym was.cut) (among_left was.front (entry ∷ was.rest) _ begun)
