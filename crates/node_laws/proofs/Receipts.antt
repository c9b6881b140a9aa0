-- The receipts of a node: the monitor ends each attempt once, so each record stands at one place, and at the same one in every image.
use Rattle.std.specs.Prelude.{◌≡◌, ◌⊎◌, ℕ, zero, suc, ◌+◌, ◌-◌, ◌<◌, List, [], ◌∷◌, ◌++◌, length, Some, slice_get}
use Rattle.std.proofs.Common.{refl, ap, sym, ◌∙◌, subst, arith, append-nil, ⊎_elim, inl, inr}
use Rattle.chronicle.specs.Histories.{IsHistory, IsTrueIn, states_after}
use Rattle.tmf_model.specs.declared.transid.Transid.{Transid}
use Rattle.trail_files.specs.declared.monitor_record.MonitorRecord.{MonitorRecord}
use Rattle.trail_files.specs.declared.monitor_record.MonitorRecord.TheVariants.{Start as StartRecord, Commit, Abort}
use Rattle.node_machine.specs.declared.event.Event.{Event}
use Rattle.node_machine.specs.declared.event.Event.TheVariants.{OfWorker, OfDisc, OfTrail, OfMonitor, OfDump}
use Rattle.node_machine.specs.declared.event.MonitorEvent.{MonitorEvent}
use Rattle.node_machine.specs.declared.event.MonitorEvent.TheVariants.{Offer, Land, Failed}
use Rattle.node_machine.specs.Monitor.{recorded, offered_car, ended_by, AreLater, IsLater, IsRequest, MonitorMay, StandsAt}
use Rattle.node_machine.specs.Node.{node, IsAllowed, state_with}
use Rattle.node_machine.specs.Opening.{Found, opening_parts, monitor_at, monitor_part}
use Rattle.node_machine.specs.Parts.{MonitorPart, PartState}
use Rattle.node_machine.specs.Parts.Fact.{Recorded}
use Rattle.node_machine.specs.Parts.PartState.{Worker, Disc, Trail, Monitor, Dump, Idle}
use Rattle.node_machine.specs.Receipts.{ReceiptLaw, StandsOnce}
use Rattle.node_machine.specs.Same.{Among, IsBefore}
use Rattle.node_machine.specs.SameLaws.{slice_get-front}
use Rattle.node_machine.specs.Shows.{ShowsMonitor}
use Rattle.node_machine.proofs.Kept.{kept}
use Rattle.node_machine.proofs.Opened.{opening_monitor}
use Rattle.node_machine.proofs.Placed.{parts_placed}

-- NO TWO RECORDS END ONE ATTEMPT

abbrev EndsOther : MonitorRecord → List MonitorRecord → Type 0
EndsOther x xs = (y : MonitorRecord) → Among xs y → ended_by y ≡ ended_by x → ⊥

abbrev AreOnce : List MonitorRecord → Type 0
AreOnce [] = Unit {0}
AreOnce (x ∷ xs) = EndsOther x xs × AreOnce xs

among_either : (xs ys : List MonitorRecord) (y : MonitorRecord) → Among (xs ++ ys) y → Among xs y ⊎ Among ys y
among_either [] ys y h = inr h
among_either (x ∷ xs) ys y h =
    ⊎_elim
    (λ (e : x ≡ y). inl (inl e))
    (λ (r : Among (xs ++ ys) y). ⊎_elim (λ (l : Among xs y). inl (inr l)) (λ (k : Among ys y). inr k) (among_either xs ys y r))
    h

among_front : (xs ys : List MonitorRecord) (y : MonitorRecord) → Among xs y → Among (xs ++ ys) y
among_front [] ys y h = absurd h
among_front (x ∷ xs) ys y h = ⊎_elim (λ (e : x ≡ y). inl e) (λ (r : Among xs y). inr (among_front xs ys y r)) h

once_front : (xs ys : List MonitorRecord) → AreOnce (xs ++ ys) → AreOnce xs
once_front [] ys once = tt
once_front (x ∷ xs) ys once = (λ y h. once.0 y (among_front xs ys y h), once_front xs ys once.1)

once_both : (xs ys : List MonitorRecord) → AreOnce xs → AreOnce ys → ((x y : MonitorRecord) → Among xs x → Among ys y → ended_by y ≡ ended_by x → ⊥) → AreOnce (xs ++ ys)
once_both [] ys a b apart = b
once_both (x ∷ xs) ys a b apart = (
  λ y h e. ⊎_elim (λ (l : Among xs y). a.0 y l e) (λ (r : Among ys y). apart x y (inl refl) r e) (among_either xs ys y h),
  once_both xs ys a.1 b (λ z y has is. apart z y (inr has) is),
)

-- no attempt came before itself
not_before : (t : Transid) → IsBefore t t → ⊥
not_before t h = ⊎_elim (λ (lt : t.ordinal < t.ordinal). omega (arith, lt)) (λ (x : (t.ordinal ≡ t.ordinal) × (t.attempt < t.attempt)). (let lt = x.1 in omega (arith, lt))) h

-- a later request ends another attempt
ends_other : (epoch : ℕ) (x y : MonitorRecord) → IsRequest epoch y → IsLater x y → ended_by y ≡ ended_by x → ⊥
ends_other epoch x (StartRecord e) request later same = request
ends_other epoch x (Commit t) request later same = not_before t (later t t (sym same) refl refl)
ends_other epoch x (Abort t) request later same = not_before t (later t t (sym same) refl refl)

later_other : (epoch : ℕ) (before xs : List MonitorRecord) → AreLater before xs → ((x : MonitorRecord) → Among xs x → IsRequest epoch x) → (x y : MonitorRecord) → Among before x → Among xs y → ended_by y ≡ ended_by x → ⊥
later_other epoch before [] later requests x y has is same = absurd is
later_other epoch before (z ∷ xs) later requests x y has is same =
    ⊎_elim
    (λ (e : z ≡ y). ends_other epoch x z (requests z (inl refl)) (later.0 x has) (ap ended_by e ∙ same))
    (λ (r : Among xs y). later_other epoch (z ∷ before) xs later.1 (λ w h. requests w (inr h)) x y (inr has) r same)
    is

later_once : (epoch : ℕ) (before xs : List MonitorRecord) → AreLater before xs → ((x : MonitorRecord) → Among xs x → IsRequest epoch x) → AreOnce xs
later_once epoch before [] later requests = tt
later_once epoch before (z ∷ xs) later requests = (
  λ y h same. later_other epoch (z ∷ before) xs later.1 (λ w k. requests w (inr k)) z y (inl refl) h same,
  later_once epoch (z ∷ before) xs later.1 (λ w k. requests w (inr k)),
)

-- EVERY HISTORY

-- what stands in the trail and what is offered ends each attempt once, and the places go on from those of the opening
abbrev HasReceipts : ℕ → MonitorPart → Type 0
HasReceipts places s = (s.places ≡ places) × AreOnce (recorded s.events ++ offered_car s.events)

abbrev IsOnceAt : ℕ → ℕ → PartState → Type 0
IsOnceAt places q (Monitor s) = q ≡ monitor_part → HasReceipts places s
IsOnceAt places q _ = Unit {0}

once_kept : (places : ℕ) (s : MonitorPart) (e : MonitorEvent) → MonitorMay s e → HasReceipts places s → HasReceipts places (record s { events = e ∷ s.events })
once_kept places s (Offer records) may h = (
  h.0,
  once_both (recorded s.events) records (once_front (recorded s.events) (offered_car s.events) h.1)
      (later_once s.epoch (recorded s.events) records may.later may.requests)
      (later_other s.epoch (recorded s.events) records may.later may.requests),
)
once_kept places s Land may h = (h.0, subst AreOnce (sym (append-nil (recorded s.events ++ offered_car s.events))) h.1)
once_kept places s (Failed by) may h = h

keeps : (places q : ℕ) (s : PartState) (e : Event) → IsAllowed s e → IsOnceAt places q s → IsOnceAt places q (state_with s e)
keeps places q (Worker s) (OfWorker e) may is = tt
keeps places q (Disc s) (OfDisc e) may is = tt
keeps places q (Trail s) (OfTrail e) may is = tt
keeps places q (Monitor s) (OfMonitor e) may is = λ here. once_kept places s e may (is here)
keeps places q (Dump s) (OfDump e) may is = tt
keeps places q _ _ may is = absurd may

begins : (found : Found) (q : ℕ) (s : PartState) → slice_get (opening_parts found) q ≡ Some s → IsOnceAt found.places q s
begins found q (Monitor s) at = λ here.
    (let both : Some (monitor_at found) ≡ Some (Monitor s) = sym (opening_monitor found) ∙ (ap (λ (n : ℕ). slice_get (opening_parts found) n) (sym here) ∙ at) in
    let one : monitor_at found ≡ Monitor s = cc (both) in
    subst (λ (x : PartState). IsOnceAt found.places q x) one (λ _. (refl, tt)) here)
begins found q (Worker s) at = tt
begins found q (Disc s) at = tt
begins found q (Trail s) at = tt
begins found q (Dump s) at = tt
begins found q Idle at = tt

-- PLACES

at_among : (xs : List MonitorRecord) (i : ℕ) (x : MonitorRecord) → slice_get xs i ≡ Some x → Among xs x
at_among [] i x e = absurd (cc (e))
at_among (y ∷ xs) zero x e = inl (cc (e))
at_among (y ∷ xs) (suc i) x e = inr (at_among xs i x e)

one_place : (xs : List MonitorRecord) (i j : ℕ) (x y : MonitorRecord) → AreOnce xs → slice_get xs i ≡ Some x → slice_get xs j ≡ Some y → ended_by x ≡ ended_by y → i ≡ j
one_place [] i j x y once at_i at_j e = absurd (cc (at_i))
one_place (z ∷ xs) zero zero x y once at_i at_j e = refl
one_place (z ∷ xs) zero (suc j) x y once at_i at_j e = (let is : z ≡ x = cc (at_i) in absurd (once.0 y (at_among xs j y at_j) (sym e ∙ ap ended_by (sym is))))
one_place (z ∷ xs) (suc i) zero x y once at_i at_j e = (let is : z ≡ y = cc (at_j) in absurd (once.0 x (at_among xs i x at_i) (e ∙ ap ended_by (sym is))))
one_place (z ∷ xs) (suc i) (suc j) x y once at_i at_j e = ap (λ (n : ℕ). suc n) (one_place xs i j x y once.1 at_i at_j e)

at_behind : (xs ys : List MonitorRecord) (i : ℕ) → slice_get (xs ++ ys) (length xs + i) ≡ slice_get ys i
at_behind [] ys i = (let e : 0 + i ≡ i = omega arith in ap (λ (n : ℕ). slice_get ys n) e)
at_behind (x ∷ xs) ys i = (let e : length (x ∷ xs) + i ≡ suc (length xs + i) = omega arith in ap (λ (n : ℕ). slice_get (x ∷ (xs ++ ys)) n) e ∙ at_behind xs ys i)

-- the monitor's part, with what it makes true
abbrev IsRecordedBy : List PartState → MonitorRecord → ℕ → Type 0
IsRecordedBy states item place = (s : MonitorPart) × (slice_get states monitor_part ≡ Some (Monitor s)) × StandsAt s item place

recorded_there : (found : Found) (log : List (ℕ × Event)) → IsHistory node (opening_parts found) log → (item : MonitorRecord) (place : ℕ)
    → IsTrueIn node (states_after node (opening_parts found) log) (Recorded item place) → IsRecordedBy (states_after node (opening_parts found) log) item place
recorded_there found log h item place (q, Monitor s, at, makes) =
    (s, ap (λ (n : ℕ). slice_get (states_after node (opening_parts found) log) n) (sym (parts_placed found log h q (Monitor s) at)) ∙ at, makes)
recorded_there found log h item place (q, Worker s, at, makes) = absurd makes
recorded_there found log h item place (q, Disc s, at, makes) = absurd makes
recorded_there found log h item place (q, Trail s, at, makes) = absurd makes
recorded_there found log h item place (q, Dump s, at, makes) = absurd makes
recorded_there found log h item place (q, Idle, at, makes) = absurd makes

-- what is shown of the monitor is some first part of what stands in the trail and what is offered
shown_in : (s : MonitorPart) (list : List MonitorRecord) (i : ℕ) (r : MonitorRecord) → ShowsMonitor s list → slice_get list i ≡ Some r → slice_get (recorded s.events ++ offered_car s.events) i ≡ Some r
shown_in s list i r shows at =
    ⊎_elim
    (λ (e : list ≡ recorded s.events). slice_get-front (recorded s.events) (offered_car s.events) i r (ap (λ xs. slice_get xs i) (sym e) ∙ at))
    (λ (e : list ≡ recorded s.events ++ offered_car s.events). ap (λ xs. slice_get xs i) (sym e) ∙ at)
    shows

in_shown : (s : MonitorPart) (list : List MonitorRecord) (i : ℕ) (r : MonitorRecord) → ShowsMonitor s list → slice_get (recorded s.events) i ≡ Some r → slice_get list i ≡ Some r
in_shown s list i r shows at =
    ⊎_elim
    (λ (e : list ≡ recorded s.events). ap (λ xs. slice_get xs i) e ∙ at)
    (λ (e : list ≡ recorded s.events ++ offered_car s.events). ap (λ xs. slice_get xs i) e ∙ slice_get-front (recorded s.events) (offered_car s.events) i r at)
    shows

receipt : (s : MonitorPart) (before list : List MonitorRecord) (item : MonitorRecord) (place : ℕ) → HasReceipts (length before) s → ShowsMonitor s list → StandsAt s item place → StandsOnce (before ++ list) (length before) item place
receipt s before list item place has shows stands =
    let places = has.0 in
    let place_is = stands.place_is in
    record {
      index = length before + stands.index;
      place_is = omega (arith, places, place_is);
      at = at_behind before list stands.index ∙ in_shown s list stands.index item shows stands.at;
      once = λ other r low at same.
          (let cut : other ≡ length before + (other - length before) = omega (arith, low) in
          let here : slice_get list (other - length before) ≡ Some r = sym (at_behind before list (other - length before)) ∙ (ap (λ (n : ℕ). slice_get (before ++ list) n) (sym cut) ∙ at) in
          let one = one_place (recorded s.events ++ offered_car s.events) (other - length before) stands.index r item has.1 (shown_in s list (other - length before) r shows here)
          (slice_get-front (recorded s.events) (offered_car s.events) stands.index item stands.at) same in
          cut ∙ ap (λ (n : ℕ). length before + n) one);
    }

-- the receipt law
pub node_receipt_law : ReceiptLaw
node_receipt_law found log before list item place h places (Monitor s, at, shows) true_ =
    let r = recorded_there found log h item place true_ in
    let both : Some (Monitor r.0) ≡ Some (Monitor s) = sym r.1 ∙ at in
    let one : Monitor r.0 ≡ Monitor s = cc (both) in
    let same : r.0 ≡ s = cc (one) in
    let has = kept node (IsOnceAt found.places) (keeps found.places) (opening_parts found) log h (begins found) monitor_part (Monitor s) at refl in
    receipt s before list item place (has.0 ∙ places, has.1) shows (subst (λ (m : MonitorPart). StandsAt m item place) same r.2)
node_receipt_law found log before list item place h places (_, at, shows) true_ = absurd shows
