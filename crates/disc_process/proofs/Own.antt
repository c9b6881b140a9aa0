-- A disc's part has the events that its seat has had.
use Rattle.std.proofs.Common.{◌≡◌, ℕ, ◌≤◌, Bool, true, false, List, [], ◌∷◌, ◌++◌, length, map, reverse, append-nil, Option, Some, None, slice_get, refl, ap, sym, ◌∙◌, arith}
use Rattle.std.specs.Option.{option_map}
use Rattle.std.proofs.lemmas.List.{length-map, length-reverse, reverse-reverse}
use Rattle.chronicle.specs.Histories.{IsHistory, states_after, events_of}
use Rattle.chronicle.specs.Seats.{HasGrown, Sight, events_of_part, own_events, part_state, state_of}
use Rattle.chronicle.proofs.Facts.{own_events_of}
use Rattle.chronicle.proofs.States.{state_after, state_is_own}
use Rattle.node_machine.specs.declared.event.DiscEvent.{DiscEvent}
use Rattle.node_machine.specs.declared.event.DiscEvent.TheVariants as did
use Rattle.node_machine.specs.declared.event.Event.{Event}
use Rattle.node_machine.specs.declared.event.Event.TheVariants.{OfWorker, OfDisc, OfTrail, OfMonitor, OfDump}
use Rattle.node_machine.specs.Made.{dumps_begun}
use Rattle.node_machine.specs.Node.{node, state_with}
use Rattle.node_machine.specs.Opening.{disc_part}
use Rattle.node_machine.specs.Parts.{DiscPart, PartState}
use Rattle.node_machine.specs.Parts.PartState.{Worker, Disc, Trail, Monitor, Dump, Idle}
use Rattle.disc_process.specs.Disc.{IsFresh}
use Rattle.disc_process.proofs.Later.{goes_on}

abbrev is_disc : PartState → Bool
is_disc (Disc s) = true
is_disc _ = false

-- a part stays a disc, or something else
stays : (y : PartState) (e : Event) → is_disc (state_with y e) ≡ is_disc y
stays (Worker s) (OfWorker e) = refl
stays (Disc s) (OfDisc e) = refl
stays (Trail s) (OfTrail e) = refl
stays (Monitor s) (OfMonitor e) = refl
stays (Dump s) (OfDump e) = refl
stays _ _ = refl

stays_after : (y : PartState) (es : List Event) → is_disc (state_after state_with y es) ≡ is_disc y
stays_after y [] = refl
stays_after y (e ∷ es) = stays_after (state_with y e) es ∙ stays y e

disc_of : (y : PartState) → is_disc y ≡ true → (s : DiscPart) × (y ≡ Disc s)
disc_of (Disc s) h = (s, refl)
disc_of (Worker s) h = absurd (cc (h))
disc_of (Trail s) h = absurd (cc (h))
disc_of (Monitor s) h = absurd (cc (h))
disc_of (Dump s) h = absurd (cc (h))
disc_of Idle h = absurd (cc (h))

-- what is a disc was one at the opening
was_disc : (o : Option PartState) (es : List Event) (s : DiscPart) → option_map (λ y. state_after state_with y es) o ≡ Some (Disc s) → (t : DiscPart) × (o ≡ Some (Disc t))
was_disc None es s h = absurd (cc (h))
was_disc (Some y) es s h =
    let same : state_after state_with y es ≡ Disc s = cc (h) in
    let d = disc_of y (sym (stays_after y es) ∙ ap is_disc same) in
    (d.0, ap (λ (z : PartState). Some z) d.1)

-- a seat whose part had no event at the opening has had those of its part
pub own_told : (opening : List PartState) (v : Sight Event) (p : ℕ) (s : DiscPart) → IsFresh opening → v.part ≡ Some p → part_state node opening v ≡ Some (Disc s) → IsHistory node opening v.seen
    → own_events v ≡ map OfDisc (reverse s.events)
own_told opening v p s fresh part at history =
    let here : slice_get (states_after node opening v.seen) p ≡ Some (Disc s) = ap (state_of (states_after node opening v.seen)) (sym part) ∙ at in
    let was = was_disc (slice_get opening p) (events_of p v.seen) s (sym (state_is_own node p opening v.seen) ∙ here) in
    let none : was.0.events ≡ [] = (fresh p (Disc was.0) was.1).1 in
    let on = goes_on opening v.seen p was.0 was.1 history in
    let both : Some (Disc s) ≡ Some (Disc (record was.0 { events = reverse on.0 ++ was.0.events })) = sym here ∙ on.1 in
    let same : s ≡ record was.0 { events = reverse on.0 ++ was.0.events } = cc (both) in
    let events : s.events ≡ reverse on.0 = ap (λ (x : DiscPart). x.events) same ∙ ap (λ l. reverse on.0 ++ l) none ∙ append-nil (reverse on.0) in
    own_events_of v p part ∙ on.2 ∙ ap (map OfDisc) (sym (ap reverse events ∙ reverse-reverse on.0))

-- a disc has had as many events as its part has
pub own_count : (v : Sight Event) (events : List DiscEvent) → own_events v ≡ map OfDisc (reverse events) → length (own_events v) ≡ length events
own_count v events told = ap length told ∙ length-map (reverse events) OfDisc ∙ length-reverse events

-- a dump begins by an event
pub few_begun : (events : List DiscEvent) → dumps_begun events ≤ length events
few_begun [] = omega arith
few_begun (did.Start number start item ∷ events) = (let rest = few_begun events in omega (arith, rest))
few_begun (_ ∷ events) = (let rest = few_begun events in omega (arith, rest))

-- a disc that has had no event more is told of as much by its seat
pub own_still : (number : ℕ) (v w : Sight Event) → v.part ≡ Some (disc_part number) → HasGrown v w → events_of (disc_part number) w.seen ≡ own_events v
own_still number v w place grown = sym (ap (λ (p : Option ℕ). events_of_part p w.seen) (grown.part ∙ place)) ∙ grown.mine
